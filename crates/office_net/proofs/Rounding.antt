-- A round from its beginning to its end.
use Rattle.std.proofs.Common.{◌≡◌, ℕ, List, [], ◌++◌, length, take, drop, cond, Option, Some, None, refl, sym, ap, ◌∙◌, subst, arith, append_assoc, inl, inr, take-append-drop}
use Rattle.std.specs.Prelude.{All, is_some}
use Rattle.std.specs.Io.KnownBytes.{Appends, Consumes}
use Rattle.std.proofs.KnownBytes.{Consumes-nil, Consumes-trans}
use Rattle.std.proofs.lemmas.List.{append-nil, take_all}
use Rattle.mb_mbap.specs.declared.frame.Frame.{Frame}
use Rattle.mb_mbap.specs.Stream.{Splits}
use Rattle.mb_mbap.specs.Feeding.{StandsFor}
use Rattle.mb_mbap.proofs.Rests.{open_empty}
use Rattle.point_list.specs.declared.site.Site.{Site}
use Rattle.point_list.specs.Sites.{outstanding_on}
use Rattle.poll_book.specs.declared.keeper.Neighbours.{Ghosts}
use Rattle.poll_book.specs.Tables.{Tables, Within}
use Rattle.office_core.specs.declared.office.Office.{Office}
use Rattle.office_core.specs.History.{History, open_line, site_of}
use Rattle.office_net.specs.declared.round.Round.{Round}
use Rattle.office_net.specs.declared.fault.PollFault.{PollFault}
use Rattle.office_net.specs.declared.job.LineJob.{LineJob}
use Rattle.office_net.specs.declared.machine.Poll.{Poll}
use Rattle.office_net.specs.Faults.{ClosedBy, IsOfStream}
use Rattle.office_core.specs.Following.{Follows, MayLeave}
use Rattle.office_net.specs.Jobs.{AreJobs, CanBeDone}
use Rattle.office_net.specs.Moves.{Start, Move, told, frames_in, queries_in, LeftIn, LeftTrying}
use Rattle.office_net.specs.Stages.{Ends, IsAfter, IsDone, IsNew, IsNext, Leads, LeftSince, counts_of}
use Rattle.office_net.specs.Rounds.{most_of, most_on, start_of, query_bytes, Handles, Breaks, Cuts, Takes, Underway, IsWhole, IsCut}
use Rattle.office_net.proofs.Crashing.{since_begun, trying_more}
use Rattle.office_net.proofs.Pieces.{handles_then, breaks_after}

-- ---- the beginning

-- a new round has made no move
pub begins : (conn slot most : ℕ) (jobs : List LineJob) (first : Poll) (before : History) → IsNew conn slot most jobs first → most ≡ most_of before conn → IsAfter (start_of conn slot jobs before) [] first
begins conn slot most jobs first before new most_is = record {
  conn = new.conn_is;
  slot = new.slot_is;
  most = new.most_is ∙ most_is;
  jobs = new.jobs_are;
  turned = ap (λ k. take k jobs) (sym new.turned);
  run = tt;
  counts = record {
    asked = ap (λ (r : Round). r.asked) new.round;
    recorded = ap (λ (r : Round). r.recorded) new.round;
    excepted = ap (λ (r : Round). r.excepted) new.round;
    refused = ap (λ (r : Round). r.refused) new.round;
  };
  waiting = new.waiting;
  first = inl refl;
  made = omega arith;
}

-- of an open connection as many queries may wait as the site says of its line
pub most_said : (before : History) (conn line : ℕ) (site : Site) → open_line before conn ≡ Some line → site ≡ site_of before → outstanding_on site line ≡ most_of before conn
most_said before conn line site opened is = λ i. most_on (is i) (sym opened i)

empty_splits : Splits [] [] []
empty_splits = record { whole = refl; each = λ k d below. absurd (omega (arith, below)); rest_ok = inl open_empty }

-- a new reader of frames
pub nothing_fed : (stream : Option (List ℕ)) → stream ≡ Some [] → StandsFor stream [] []
nothing_fed stream is = ([], empty_splits, is ∙ ap (λ f. cond (is_some f) None (Some [])) (sym open_empty.no_fault))

pub no_end : (stream : Option (List ℕ)) → stream ≡ Some [] → stream ≡ None → ⊥
no_end stream is none = absurd (cc)

-- ---- the end

module _ (stands : History → Type 0) (might may : Tables → Type 0) (start : Start) (poll : Poll) (came sent : List Frame) (tried : Option Move) (leads : Leads stands might may start [] poll came sent tried) where
  follows_all : stands (told start leads.more)
  follows_all = subst (λ (all : List Move). stands (told start all)) (append-nil leads.more) leads.follows

  frames_all : frames_in leads.more ≡ came
  frames_all = ap frames_in (sym (append-nil leads.more)) ∙ leads.frames_are

  queries_all : queries_in start leads.more ≡ sent
  queries_all = ap (queries_in start) (sym (append-nil leads.more)) ∙ leads.queries_are

  after_all : IsAfter start leads.more poll
  after_all = subst (λ (all : List Move). IsAfter start all poll) (append-nil leads.more) leads.after

  leaves_all : Within may (LeftTrying (LeftIn might start leads.more) start leads.more tried)
  leaves_all left m =
      subst (λ (all : List Move). LeftTrying (LeftIn might start leads.more) start all tried left) (append-nil leads.more)
      (trying_more (LeftSince might start leads.more []) (LeftIn might start leads.more) start (leads.more ++ []) tried (since_begun might start leads.more) left (leads.leaves left m))

  -- of so much that was read
  pub whole_by : (unread left wrote writes : Option (List ℕ)) (bytes rest : List ℕ) → tried ≡ None → IsDone poll → Consumes unread left bytes → Splits bytes came rest
      → Appends wrote writes (query_bytes sent) → IsWhole stands might may start unread left wrote writes (counts_of poll)
  whole_by unread left wrote writes bytes rest none done consumed splits written = record {
    moves = leads.more;
    follows = follows_all;
    run = after_all.run;
    turned = after_all.turned ∙ ap (λ k. take k start.jobs) (done.turned ∙ ap length after_all.jobs) ∙ take_all (length start.jobs) start.jobs (omega arith);
    settled = sym after_all.waiting ∙ done.waiting;
    counts = after_all.counts;
    bytes = bytes;
    rest = rest;
    consumed = consumed;
    splits = subst (λ l. Splits bytes l rest) (sym frames_all) splits;
    written = subst (λ l. Appends wrote writes (query_bytes l)) (sym queries_all) written;
    leaves = subst (λ o. Within may (LeftTrying (LeftIn might start leads.more) start leads.more o)) none leaves_all;
  }

module _ (stands : History → Type 0) (might may : Tables → Type 0) (start : Start) (poll : Poll) (came coming sent : List Frame) (e : PollFault) (ends : Ends stands might may start [] poll came coming sent e) where
  pub cut_by : (unread left wrote writes : Option (List ℕ)) (calm : Type 0) (bytes unfed rest : List ℕ) → AreJobs start.before start.conn start.jobs
      → Consumes unread left (bytes ++ unfed) → Splits bytes (came ++ coming) rest → (calm → Appends wrote writes (query_bytes sent)) → IsOfStream (bytes ++ unfed) rest e
      → IsCut stands might may start unread left calm wrote writes e
  cut_by unread left wrote writes calm bytes unfed rest are consumed splits written of_stream =
      let leads = ends.leads in
      let after = after_all stands might may start poll came sent ends.tried leads in
      record {
        moves = leads.more;
        begun = inr are;
        follows = follows_all stands might may start poll came sent ends.tried leads;
        run = after.run;
        later = drop poll.turned start.jobs;
        turned = ap (λ l. l ++ drop poll.turned start.jobs) after.turned ∙ take-append-drop poll.turned start.jobs;
        bytes = bytes;
        unfed = unfed;
        coming = coming;
        rest = rest;
        consumed = consumed;
        splits = subst (λ l. Splits bytes (l ++ coming) rest) (sym (frames_all stands might may start poll came sent ends.tried leads)) splits;
        written = λ quiet. subst (λ l. Appends wrote writes (query_bytes l)) (sym (queries_all stands might may start poll came sent ends.tried leads)) (written quiet);
        tried = ends.tried;
        next = subst (λ (all : List Move). IsNext start all coming ends.tried) (append-nil leads.more) ends.next;
        leaves = leaves_all stands might may start poll came sent ends.tried leads;
        closed = subst (λ (all : List Move). ClosedBy e (told start all) start.conn) (append-nil leads.more) ends.closed;
        of_stream = of_stream;
      }

-- ---- a round under way

module _ {K : Type 0} {g : Ghosts K} (office between office' : Office K g) (first poll new : Poll) (stream : Option (List ℕ)) (read : ℕ)
    (unread left left' wrote writes writes' : Option (List ℕ)) (clean clean' : Type 0) where
  -- a piece more
  pub one_more : (stream' : Option (List ℕ)) (read' : ℕ) → (way : Underway (λ came. clean → Handles office first between poll came wrote writes) poll stream read unread left) → (clean' → clean)
      → Takes (λ came. clean' → Handles between poll office' new came writes writes') new stream' read' way.bytes way.frames left left'
      → Underway (λ came. clean' → Handles office first office' new came wrote writes') new stream' read' unread left'
  one_more stream' read' way cleans takes = record {
    bytes = way.bytes ++ takes.piece;
    frames = way.frames ++ takes.came;
    fed = takes.fed;
    consumed = Consumes-trans unread left left' way.bytes takes.piece way.consumed takes.consumed;
    handled = λ is_clean. handles_then office between office' first poll new way.frames takes.came wrote writes writes' (way.handled (cleans is_clean)) (takes.handled is_clean);
  }

  -- it breaks off in a piece
  pub broke_off : (calm calm' : Type 0) (e : PollFault) (start : Start) → (way : Underway (λ came. clean → Handles office first between poll came wrote writes) poll stream read unread left)
      → clean → (calm → calm') → Cuts (λ came coming. Breaks between poll office' new came coming calm' writes writes' e) way.bytes way.frames left left' e
      → IsAfter start [] first → Follows office start.before → AreJobs start.before start.conn start.jobs → All (CanBeDone start.before start.conn) start.jobs
      → IsCut (Follows office') (MayLeave office) (MayLeave office') start unread left' calm wrote writes' e
  broke_off calm calm' e start way is_clean quiet cuts after follows are can =
      let breaks = breaks_after office between office' first poll new way.frames cuts.came cuts.coming calm calm' wrote writes writes' e (way.handled is_clean) quiet cuts.broken in
      cut_by (Follows office') (MayLeave office) (MayLeave office') start new (way.frames ++ cuts.came) cuts.coming breaks.0 e
      (breaks.1 start [] can follows after)
      unread left' wrote writes' calm (way.bytes ++ cuts.piece) cuts.unfed cuts.rest are
      (subst (Consumes unread left') (sym (append_assoc way.bytes cuts.piece cuts.unfed)) (Consumes-trans unread left left' way.bytes (cuts.piece ++ cuts.unfed) way.consumed cuts.consumed))
      cuts.splits breaks.2
      (subst (λ l. IsOfStream l cuts.rest e) (sym (append_assoc way.bytes cuts.piece cuts.unfed)) cuts.of_stream)

-- the first queries couldn't be sent
pub broke_first : {K : Type 0} {g : Ghosts K} (office office' : Office K g) (first new : Poll) (unread wrote writes : Option (List ℕ)) (calm : Type 0) (e : PollFault) (start : Start)
    → Breaks office first office' new [] [] calm wrote writes e → IsOfStream [] [] e
    → IsAfter start [] first → Follows office start.before → AreJobs start.before start.conn start.jobs → All (CanBeDone start.before start.conn) start.jobs
    → IsCut (Follows office') (MayLeave office) (MayLeave office') start unread unread calm wrote writes e
broke_first office office' first new unread wrote writes calm e start breaks of_stream after follows are can =
    cut_by (Follows office') (MayLeave office) (MayLeave office') start new [] [] breaks.0 e
    (breaks.1 start [] can follows after)
    unread unread wrote writes calm [] [] [] are (Consumes-nil unread) empty_splits breaks.2 of_stream

-- it is done
pub is_whole : {K : Type 0} {g : Ghosts K} (office office' : Office K g) (first poll : Poll) (stream : Option (List ℕ)) (read : ℕ) (unread left wrote writes : Option (List ℕ)) (clean : Type 0) (start : Start)
    → Underway (λ came. clean → Handles office first office' poll came wrote writes) poll stream read unread left → clean → IsAfter start [] first → Follows office start.before → IsDone poll
    → IsWhole (Follows office') (MayLeave office) (MayLeave office') start unread left wrote writes (counts_of poll)
is_whole office office' first poll stream read unread left wrote writes clean start way is_clean after follows done =
    let handles = way.handled is_clean in
    let (rest, splits, _) = way.fed.frames_are in
    whole_by (Follows office') (MayLeave office) (MayLeave office') start poll way.frames handles.0 None
    (handles.1 start [] follows after)
    unread left wrote writes way.bytes rest refl done way.consumed splits handles.2

-- nothing was done
pub cut_at_once : {K : Type 0} {g : Ghosts K} (office : Office K g) (conn slot : ℕ) (before : History) (unread wrote : Option (List ℕ)) (calm : Type 0) (e : PollFault) → Follows office before
    → ClosedBy e before conn → IsOfStream [] [] e → Appends wrote wrote []
    → IsCut (Follows office) (MayLeave office) (MayLeave office) (start_of conn slot [] before) unread unread calm wrote wrote e
cut_at_once office conn slot before unread wrote calm e follows closed of_stream none = record {
  moves = [];
  begun = inl refl;
  follows = follows;
  run = tt;
  later = [];
  turned = refl;
  bytes = [];
  unfed = [];
  coming = [];
  rest = [];
  consumed = Consumes-nil unread;
  splits = empty_splits;
  written = λ quiet. none;
  tried = None;
  next = tt;
  leaves = λ left m. m;
  closed = closed;
  of_stream = of_stream;
}
