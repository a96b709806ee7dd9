-- How lines' connections stand, deed by deed.
use Rattle.std.proofs.Common.{◌≡◌, ◌≤◌, ◌<◌, ◌⊎◌, inl, inr, Bool, true, false, ℕ, List, [], ◌∷◌, ◌++◌, length, Option, Some, None, Result, Ok, Err, refl, sym, ◌∙◌, ap, subst}
use Rattle.std.specs.Prelude.{IsErrAnd, IsSome, MatchResult, if◌then◌else◌, is_some}
use Rattle.std.specs.List.{flat_map, list_any}
use Rattle.std.proofs.lemmas.List.{append-nil}
use Rattle.mb_mbap.specs.declared.frame.Frame.{Frame}
use Rattle.mb_mbap.specs.declared.fault.FrameFault.{FrameFault}
use Rattle.mb_mbap.specs.Feeding.{FeedMeans}
use Rattle.mb_mbap.specs.Stream.{Splits, fault_of, spelled}
use Rattle.poll_book.specs.declared.fault.StoreFault.{StoreFault}
use Rattle.poll_book.specs.declared.keeper.Neighbours.{Ghosts}
use Rattle.read_planner.specs.declared.Read.{Read}
use Rattle.run_beat.specs.declared.sockets.Came.{Came}
use Rattle.run_beat.specs.declared.sockets.Came.TheVariants as came
use Rattle.run_beat.specs.declared.sockets.Source.{Source}
use Rattle.run_beat.specs.Acts.{Act, Ends, Reads, read_so}
use Rattle.office_core.specs.declared.office.Office.{Office}
use Rattle.office_core.specs.declared.error.OfficeError.{OfficeError}
use Rattle.office_core.specs.declared.error.OfficeError.TheVariants as error
use Rattle.office_core.specs.declared.event.Arrival.{Arrival}
use Rattle.office_core.specs.Errors.{is_of_store}
use Rattle.office_core.specs.Offices.{arrived, keeper_of}
use Rattle.office_core.specs.declared.event.EventAnswer.{EventAnswer}
use Rattle.office_core.specs.declared.event.EventAnswer.TheVariants as answer
use Rattle.office_core.specs.declared.event.EventAnswer.TheVariants.{Opened, Query}
use Rattle.office_core.specs.Answers.{answer_of}
use Rattle.office_core.specs.Following.{Fails, Follows, Happens, MayLeave}
use Rattle.office_core.specs.History.{Happening, History, Send}
use Rattle.office_core.specs.Proceeding.{Did, GoesAlong, Missed, Nothing, stepped}
use Rattle.office_core.specs.Standing.{is_store}
use Rattle.office_net.specs.Counting.{Learnt}
use Rattle.office_net.specs.Kinds.{Asks, Hears, IsOldest, Opens}
use Rattle.office_net.specs.Querying.{Answered, CameTo, Makes, Misses, Tries}
use Rattle.office_net.proofs.Oldest.{oldest_is_sent}
use Rattle.office_net.proofs.Querying.{learnt_makes, makes_wider, misses_wider, nothing_then_makes, nothing_then_misses}
use Rattle.run_lines.specs.declared.round.Asked.{Asked}
use Rattle.run_deeds.specs.Doings.{AsksOne, HearsOne, OpensOne, Runs, SendsOne}
use Rattle.run_deeds.specs.Deeds.{AllOf, Deed, Deeds, GivesUpOn, Is, Next, Over, Passes, Replies, Rests, Starts, With, steps_of, Shows}
use Rattle.run_lines.specs.Rounds.{number_for, query_of}
use Rattle.run_lines.specs.declared.window.Query.{Query as Waiting}
use Rattle.run_lines.specs.Windows.{is_for}
use Rattle.run_lines.specs.declared.loss.Loss.{Loss}
use Rattle.run_lines.specs.declared.loss.Stop.{Stop}
use Rattle.run_lines.specs.declared.loss.Stop.TheVariants.{Ahead, Lost, Refused}
use Rattle.run_lines.specs.Links.{before, held_in}
use Rattle.run_lines.specs.Wires.{AsksOver, Begun, GivesUp, IsShown, LineMoves, Lined, Queries, Reaches, Sends, SendsOver, Settles, SomeQuery, Standing, Terms, Up, Wire, WireMoves, Wired, WiredBy, fresh, given_up, heard, settled, without}
use Rattle.run_deeds.proofs.Deeds.{goes_wider}
use Rattle.run_deeds.proofs.Passing.{acting_once, acting_still, part_still, then_office}

-- ---- queries over a connection

module _ (conn slot : ℕ) (waiting : List Waiting) (device : List ℕ) where
  sends_one : (number : ℕ) → list_any (is_for number) waiting ≡ false → (now : History) → IsOldest now device (Some number)
      → Queries conn (Some slot) waiting (Some number) now (Send conn number)
  sends_one number free now oldest = SendsOver slot device number refl refl free refl (oldest_is_sent conn number device now oldest)

  module _ {K : Type 0} {g : Ghosts K} where
    -- the oldest order was known, and was sent, or the store refused it
    pub sends_made : (one two three : Office K g) (number : ℕ) (told : Result Frame OfficeError) → list_any (is_for number) waiting ≡ false
        → Learnt one two (λ now. IsOldest now device (Some number)) → (g.is_clean (keeper_of three) → g.is_clean (keeper_of two))
        → (g.is_clean (keeper_of three) → MatchResult told
        (λ query. Happens (Follows two) (Follows three) (MayLeave two) (MayLeave three) (λ _. Send conn number) (Query query))
        (λ e. Fails (Follows two) (Follows three) (MayLeave two) (MayLeave three) (λ _. Send conn number) (answer.Refused e)))
        → MatchResult told (λ query. Makes (Queries conn (Some slot) waiting (Some number)) one three (Some query)) (λ _. Misses (SomeQuery conn (Some slot) waiting) one three)
    sends_made one two three number (Ok query) free learnt before went =
        learnt_makes (Queries conn (Some slot) waiting (Some number)) one two three (λ now. IsOldest now device (Some number)) (Send conn number) (Ok query)
        (λ now oldest. sends_one number free now oldest) learnt before went
    sends_made one two three number (Err e) free learnt before went =
        learnt_makes (SomeQuery conn (Some slot) waiting) one two three (λ now. IsOldest now device (Some number)) (Send conn number) (Err e)
        (λ now oldest. (Some number, sends_one number free now oldest)) learnt before went

    pub asks_made : (old new : Office K g) (read : Read) (told : Option Frame) → Makes (Asks conn slot device read) old new told → Makes (Queries conn (Some slot) waiting None) old new told
    asks_made old new read =
        makes_wider (Asks conn slot device read) (Queries conn (Some slot) waiting None) (λ now event asks. AsksOver slot device read refl refl asks) old new

    pub asks_missed : (old new : Office K g) (read : Read) → Misses (Asks conn slot device read) old new → Misses (SomeQuery conn (Some slot) waiting) old new
    asks_missed old new read =
        misses_wider (Asks conn slot device read) (SomeQuery conn (Some slot) waiting) (λ now event asks. (None, AsksOver slot device read refl refl asks)) old new

-- nothing happened where no query was made
pub made_none : {K : Type 0} {g : Ghosts K} (kind : History → Happening → Type 0) (old new : Office K g) (told : Option Frame) → is_some told ≡ false → Makes kind old new told → GoesAlong Nothing old new
made_none kind old new None none makes = makes
made_none kind old new (Some query) none makes = absurd (cc)

module _ {K : Type 0} {g : Ghosts K} (conn : ℕ) (round : Option ℕ) (waiting : List Waiting) where
  pub asked_none : (old new : Office K g) (asked : Option Asked) → is_some asked ≡ false → Makes (Queries conn round waiting (number_for asked)) old new (query_of asked) → GoesAlong Nothing old new
  asked_none old new None none makes = makes
  asked_none old new (Some asked) none makes = absurd (cc)

  -- the office was only asked, and then a query was made or missed
  pub then_asked : (one two three : Office K g) (told : Result (Option Asked) OfficeError) → GoesAlong Nothing one two
      → MatchResult told (λ asked. Makes (Queries conn round waiting (number_for asked)) two three (query_of asked)) (λ _. Misses (SomeQuery conn round waiting) two three)
      → MatchResult told (λ asked. Makes (Queries conn round waiting (number_for asked)) one three (query_of asked)) (λ _. Misses (SomeQuery conn round waiting) one three)
  then_asked one two three (Ok asked) along makes = nothing_then_makes (Queries conn round waiting (number_for asked)) one two three (query_of asked) along makes
  then_asked one two three (Err e) along misses = nothing_then_misses (SomeQuery conn round waiting) one two three along misses

-- ---- one event over a connection

module _ {K : Type 0} {g : Ghosts K} (terms : Terms) (source : Source) (old new : Office K g) (kind : History → Happening → Type 0) (before after : Wire) where
  -- it happened
  wired_answered : (told : EventAnswer) → ((now : History) (event : Happening) → kind now event → answer_of now event ≡ told → Runs now event × WireMoves terms now before (Over source (Did event)) after)
      → Answered kind old new told → Wired terms source old new (λ acts. acts ≡ []) before after
  wired_answered told is answered clean =
      let went = answered clean in (
        went.0,
        λ now follows.
            let made = went.1 now follows in
            let moved = is now made.0 made.1 made.2 in
            record {
              deeds = Over source (Did made.0) ∷ [];
              are = (moved.0, tt);
              follows = made.3;
              leaves = made.4;
              has_acted = refl;
              has_kept = ((refl, tt), (before, refl, inl (refl, moved.1)));
            },
      )

-- it was refused, or nothing was tried
wired_refused : {K : Type 0} {g : Ghosts K} (terms : Terms) (source : Source) (old new : Office K g) (kind : History → Happening → Type 0) (wire : Wire)
    → ((now : History) (event : Happening) → kind now event → Runs now event × WireMoves terms now wire (Over source (Missed event)) wire)
    → Misses kind old new → Wired terms source old new (λ acts. acts ≡ []) wire wire
wired_refused terms source old new kind wire is misses clean =
    let went = misses clean in (
      went.0,
      λ now follows.
          let missed = went.1 now follows in
          elim missed.1 as (λ _. Deeds (Follows new) (MayLeave old) (MayLeave new) (λ acts. acts ≡ [])
          (λ deeds. AllOf (Is source) deeds × Passes (WireMoves terms) source now wire deeds wire) now) [
            | inl none ↦ record { deeds = []; are = tt; follows = missed.0; leaves = none; has_acted = refl; has_kept = (tt, refl) }
            | inr some ↦
                let moved = is now some.0 some.1 in
                record {
                  deeds = Over source (Missed some.0) ∷ [];
                  are = (moved.0, tt);
                  follows = missed.0;
                  leaves = some.2;
                  has_acted = refl;
                  has_kept = ((refl, tt), (wire, refl, inl (refl, moved.1)));
                }
          ],
    )

-- the query that a reply answers waits no more, and neither does one whose reply the store refused
abbrev pub heard_or : Bool → EventAnswer → Frame → Standing → Standing
heard_or true told frame at = settled frame at
heard_or false told frame at = heard told frame at

module _ {K : Type 0} {g : Ghosts K} (terms : Terms) (source : Source) (old new : Office K g) (at : Standing) (frame : Frame) (told : EventAnswer) where
  heard_to : (now : History) (event : Happening) → Hears at.conn frame now event → (refused : Bool) → CameTo old new now event told refused
      → Deeds (Follows new) (MayLeave old) (MayLeave new) (λ acts. acts ≡ [])
      (λ deeds. AllOf (Is source) deeds × Passes (WireMoves terms) source now (Up (before frame at)) deeds (Up (heard_or refused told frame at))) now
  heard_to now event hears true kept = record {
    deeds = Over source (Missed event) ∷ [];
    are = (HearsOne at.conn frame hears, tt);
    follows = kept.0;
    leaves = kept.1;
    has_acted = refl;
    has_kept = ((refl, tt), (Up (before frame at), refl, inl (refl, inr (frame, at.unread, hears, refl, refl))));
  }
  heard_to now event hears false happened = record {
    deeds = Over source (Did event) ∷ [];
    are = (HearsOne at.conn frame hears, tt);
    follows = happened.1;
    leaves = happened.2;
    has_acted = refl;
    has_kept = ((refl, tt), (Up (before frame at), refl, inl (refl, inr (frame, at.unread, hears, refl, ap (λ (some : EventAnswer). Up (heard some frame at)) (sym happened.0)))));
  }

-- ---- of each kind

query_runs : (now : History) (event : Happening) (conn : ℕ) (round : Option ℕ) (waiting : List Waiting) (order : Option ℕ) → Queries conn round waiting order now event → Runs now event
query_runs now event conn round waiting order (AsksOver slot device read is none asks) = AsksOne conn slot device read asks
query_runs now event conn round waiting order (SendsOver slot device number is some free made sends) = SendsOne conn device sends

module _ {K : Type 0} {g : Ghosts K} (terms : Terms) (source : Source) (old new : Office K g) where
  -- the line was opened, or it wasn't
  pub wired_opened : (conn : ℕ) → Answered (Opens terms.name) old new (Opened conn) → Wired terms source old new (λ acts. acts ≡ []) Begun (Up (fresh conn))
  wired_opened conn = wired_answered terms source old new (Opens terms.name) Begun (Up (fresh conn)) (Opened conn) (λ now event opens told. (OpensOne terms.name opens, (conn, opens, told, refl)))

  pub wired_unopened : Misses (Opens terms.name) old new → Wired terms source old new (λ acts. acts ≡ []) Begun Begun
  wired_unopened = wired_refused terms source old new (Opens terms.name) Begun (λ now event opens. (OpensOne terms.name opens, (opens, refl)))

  module _ (at : Standing) where
    -- a query was made
    pub wired_query : (query : Frame) (order : Option ℕ) (wire : Wire) → length at.waiting < terms.most → Sends at query order wire → Answered (Queries at.conn at.round at.waiting order) old new (Query query)
        → Wired terms source old new (λ acts. acts ≡ []) (Up at) wire
    wired_query query order wire few sends =
        wired_answered terms source old new (Queries at.conn at.round at.waiting order) (Up at) wire (Query query)
        (λ now event queries told. (query_runs now event at.conn at.round at.waiting order queries, inl (query, order, queries, told, few, sends)))

    -- none was made
    pub wired_missed : Misses (SomeQuery at.conn at.round at.waiting) old new → Wired terms source old new (λ acts. acts ≡ []) (Up at) (Up at)
    wired_missed = wired_refused terms source old new (SomeQuery at.conn at.round at.waiting) (Up at) (λ now event some. (query_runs now event at.conn at.round at.waiting some.0 some.1, inl (some, refl)))

    -- a frame came
    pub wired_heard : (frame : Frame) (told : EventAnswer) → Tries (Hears at.conn frame) old new told
        → Wired terms source old new (λ acts. acts ≡ []) (Up (before frame at)) (Up (heard_or (is_store told) told frame at))
    wired_heard frame told tries clean =
        let went = tries clean in
        (went.0, λ now follows. let tried = went.1 now follows in heard_to terms source old new at frame told now tried.0 tried.1 (is_store told) tried.2)

-- by what the office answered
module _ {K : Type 0} {g : Ghosts K} (terms : Terms) (source : Source) (old new : Office K g) (at : Standing) (frame : Frame) (told : Result Arrival OfficeError) where
  -- an answer, or one that the store refused
  pub heard_answer : is_store (arrived told) ≡ true → Tries (Hears at.conn frame) old new (arrived told) → Wired terms source old new (λ acts. acts ≡ []) (Up (before frame at)) (Up (settled frame at))
  heard_answer refused tries =
      subst (λ (some : Bool). Wired terms source old new (λ acts. acts ≡ []) (Up (before frame at)) (Up (heard_or some (arrived told) frame at))) refused (wired_heard terms source old new at frame (arrived told) tries)

  pub heard_none : (e : OfficeError) → told ≡ Err e → is_of_store e ≡ false → Tries (Hears at.conn frame) old new (arrived told) → Wired terms source old new (λ acts. acts ≡ []) (Up (before frame at)) (Up at)
  heard_none e is other tries =
      subst (λ (some : Bool). Wired terms source old new (λ acts. acts ≡ []) (Up (before frame at)) (Up (heard_or some (answer.Refused e) frame at))) other
      (subst (λ (some : Result Arrival OfficeError). Wired terms source old new (λ acts. acts ≡ []) (Up (before frame at)) (Up (heard_or (is_store (arrived some)) (arrived some) frame at))) is
      (wired_heard terms source old new at frame (arrived told) tries))

pub not_store : (e : OfficeError) → ((fault : StoreFault) → e ≡ error.Store fault → ⊥) → is_of_store e ≡ false
not_store (error.Store fault) not = absurd (not fault refl)
not_store error.NoConnection not = refl
not_store error.WrongLine not = refl
not_store error.NoRead not = refl
not_store error.NoOrder not = refl
not_store error.Settled not = refl
not_store error.NotNext not = refl
not_store error.Exhausted not = refl
not_store error.SiteDiffers not = refl
not_store error.NoQuery not = refl
not_store error.WrongUnit not = refl
not_store error.Repeat not = refl
not_store error.WrongReply not = refl

-- ---- with its socket

-- a piece was read: it is cut into frames and what may be a part of one, or begins with a bad header
reaches_by : (at : Standing) (held piece : List ℕ) (frames : List Frame) (rest : List ℕ) → at.unread ≡ held → at.reading ≡ true → Splits (held ++ piece) frames rest
    → (fault : Option FrameFault) → fault_of rest ≡ fault
    → Reaches at piece (Up (record at { unread = flat_map spelled frames ++ held_in (if is_some fault then None else Some rest); reading = is_some (if is_some fault then None else Some rest) }))
reaches_by at held piece frames rest of reads splits None is = inl (
    ap (λ (bytes : List ℕ). Up (record at { unread = bytes; reading = true })) (sym splits.whole ∙ ap (λ (some : List ℕ). some ++ piece) (sym of))
    ∙ ap (λ (more : Bool). Up (record at { unread = at.unread ++ piece; reading = more })) (sym reads)
    )
reaches_by at held piece frames rest of reads splits (Some fault) is = inr (
  flat_map spelled frames ++ [],
  rest,
  ap (λ (some : List ℕ). some ++ piece) of ∙ splits.whole ∙ ap (λ (whole : List ℕ). whole ++ rest) (sym (append-nil (flat_map spelled frames))),
  subst (λ (some : Option FrameFault). IsSome some) (sym is) refl,
  refl,
)

pub reaches_so : (at : Standing) (piece : List ℕ) (frames : List Frame) (fault : Option FrameFault) (old new : Option (List ℕ)) → at.unread ≡ held_in old → at.reading ≡ true → is_some old ≡ true
    → FeedMeans old piece frames fault new → Reaches at piece (Up (record at { unread = flat_map spelled frames ++ held_in new; reading = is_some new }))
reaches_so at piece frames fault None new of reads is fed = absurd (cc)
reaches_so at piece frames fault (Some held) new of reads is fed =
    subst (λ (stream : Option (List ℕ)). Reaches at piece (Up (record at { unread = flat_map spelled frames ++ held_in stream; reading = is_some stream }))) (sym fed.3)
    (reaches_by at held piece frames fed.0 of reads fed.1 (fault_of fed.0) refl)

-- nothing more comes, or the connection failed
pub ended_so : (terms : Terms) (source : Source) (piece : List ℕ) (acted : List Act → Type 0) (at : Standing) (told : Came) → acted (read_so source piece told)
    → (told ≡ came.Ended) ⊎ (told ≡ came.Failed) → WiredBy terms source acted (Up at) (Up at)
ended_so terms source piece acted at told acts (inl ended) =
    acting_once (WireMoves terms) source acted (Ends source) (Up at) (Up at) (subst (λ (some : Came). acted (read_so source piece some)) ended acts) refl (λ now. refl)
ended_so terms source piece acted at told acts (inr failed) =
    acting_still (WireMoves terms) source acted (Up at) (subst (λ (some : Came). acted (read_so source piece some)) failed acts)

-- bytes came, and then memory was refused
pub read_so_far : (terms : Terms) (source : Source) (bytes : List ℕ) (acted : List Act → Type 0) (at : Standing) → at.reading ≡ true → acted (Reads source bytes ∷ [])
    → WiredBy terms source acted (Up at) (Up (record at { unread = at.unread ++ bytes }))
read_so_far terms source bytes acted at reads acts =
    acting_once (WireMoves terms) source acted (Reads source bytes) (Up at) (Up (record at { unread = at.unread ++ bytes })) acts refl (λ now. (reads, inl refl))

-- ---- given up

without_more : (second first : List ℕ) (wire : Wire) → without (second ++ first) wire ≡ without second (without first wire)
without_more [] first wire = refl
without_more (device ∷ second) first wire = ap (given_up device) (without_more second first wire)

pub gives_then : (one two three : Wire) → GivesUp one two → GivesUp two three → GivesUp one three
gives_then one two three first second = (second.0 ++ first.0, second.1 ∙ ap (without second.0) first.1 ∙ sym (without_more second.0 first.0 one))

-- queries of devices were given up
pub wired_given : {K : Type 0} {g : Ghosts K} (terms : Terms) (source : Source) (office : Office K g) (wire : Wire) (devices : List ℕ)
    → Wired terms source office office (λ acts. acts ≡ []) wire (without devices wire)
wired_given terms source office wire [] = part_still (WireMoves terms) source office (λ acts. acts ≡ []) wire refl
wired_given terms source office wire (device ∷ devices) =
    then_office (WireMoves terms) source office office office (λ acts. acts ≡ []) wire (without devices wire) (without (device ∷ devices) wire) (wired_given terms source office wire devices)
    (λ clean. (
      clean,
      λ now follows.
          record {
            deeds = GivesUpOn source device ∷ [];
            are = tt;
            follows = follows;
            leaves = λ left may. may;
            has_acted = refl;
            has_kept = ((refl, tt), (without devices wire, refl, inl (refl, refl)));
          },
    ))

-- its round ended, or didn't
pub wired_settled : {K : Type 0} {g : Ghosts K} (terms : Terms) (source : Source) (office : Office K g) (wire wire' : Wire) → Settles wire wire' → Wired terms source office office (λ acts. acts ≡ []) wire wire'
wired_settled terms source office wire wire' (inl same) =
    subst (λ (some : Wire). Wired terms source office office (λ acts. acts ≡ []) wire some) (sym same) (part_still (WireMoves terms) source office (λ acts. acts ≡ []) wire refl)
wired_settled terms source office wire wire' (inr rest) = λ clean. (
  clean,
  λ now follows.
      record { deeds = Rests source ∷ []; are = tt; follows = follows; leaves = λ left may. may; has_acted = refl; has_kept = ((refl, tt), (wire, refl, inl (refl, rest))) },
)

-- ---- of a line

module _ (terms : Terms) (source : Source) (from : ℕ) where
  lined_one : (now : History) (wire wire' : Wire) (deed : Deed) → WireMoves terms now wire deed wire'
      → LineMoves terms now (record { from = from; wire = wire }) deed (record { from = from; wire = wire' })
  lined_one now wire wire' (With act) moves = (refl, moves)
  lined_one now wire wire' (Over other step) moves = (refl, moves)
  lined_one now wire wire' (Starts other slot) moves = absurd moves
  lined_one now wire wire' (Rests other) moves = (refl, moves)
  lined_one now wire wire' (GivesUpOn other device) moves = (refl, moves)
  lined_one now wire wire' (Replies other became text) moves = (refl, moves)
  lined_one now wire wire' (Shows other text) moves = (refl, moves)

  lined_all : (now : History) (wire wire' : Wire) (deeds : List Deed) → Passes (WireMoves terms) source now wire deeds wire'
      → Passes (LineMoves terms) source now (record { from = from; wire = wire }) deeds (record { from = from; wire = wire' })
  lined_all now wire wire' [] same = ap (λ (some : Wire). record { from = from; wire = some }) same
  lined_all now wire wire' (deed ∷ deeds) passes = (
    record { from = from; wire = passes.0 },
    lined_all now wire passes.0 deeds passes.1,
    elim passes.2 as (λ _. Next (LineMoves terms) source (stepped now (steps_of deeds)) (record { from = from; wire = passes.0 }) deed (record { from = from; wire = wire' })) [
      | inl own ↦ inl (own.0, lined_one (stepped now (steps_of deeds)) passes.0 wire' deed own.1)
      | inr other ↦ inr (other.0, ap (λ (some : Wire). record { from = from; wire = some }) other.1)
    ],
  )

  -- what is done over its connection, where no round begins
  pub lined_of : {K : Type 0} {g : Ghosts K} (old new : Office K g) (acted : List Act → Type 0) (wire wire' : Wire) → Wired terms source old new acted wire wire'
      → Lined terms source old new acted (record { from = from; wire = wire }) (record { from = from; wire = wire' })
  lined_of old new acted wire wire' =
      goes_wider old new acted acted (λ now deeds. AllOf (Is source) deeds × Passes (WireMoves terms) source now wire deeds wire')
      (λ now deeds. AllOf (Is source) deeds × Passes (LineMoves terms) source now (record { from = from; wire = wire }) deeds (record { from = from; wire = wire' })) (λ acts done. done)
      (λ now deeds kept. (kept.0, lined_all now wire wire' deeds kept.1))

  -- the round of a slot is begun
  pub lined_start : {K : Type 0} {g : Ghosts K} (office : Office K g) (at : Standing) (slot : ℕ) → from ≤ slot
      → Lined terms source office office (λ acts. acts ≡ []) (record { from = from; wire = Up at }) (record { from = slot; wire = Up (record at { round = Some slot }) })
  lined_start office at slot later = λ clean. (
    clean,
    λ now follows.
        record {
          deeds = Starts source slot ∷ [];
          are = tt;
          follows = follows;
          leaves = λ left may. may;
          has_acted = refl;
          has_kept = ((refl, tt), (record { from = from; wire = Up at }, refl, inl (refl, (at, refl, later, refl))));
        },
  )

-- ---- how it is shown

pub shown : {T : Type 0} (told : Result T Stop) (wire wire' : Wire) → wire' ≡ wire → IsShown told wire wire'
shown (Ok value) wire wire' same = same
shown (Err (Lost why)) wire wire' same = tt
shown (Err (Refused fault)) wire wire' same = same
shown (Err (Ahead ahead)) wire wire' same = same

pub shown_lost : (T : Type 0) (told : Result T Stop) (why : Loss) (wire wire' : Wire) → IsErrAnd told (λ stop. stop ≡ Lost why) → IsShown told wire wire'
shown_lost T (Ok value) why wire wire' is = absurd is
shown_lost T (Err stop) why wire wire' is = subst (λ (some : Stop). IsShown {T = T} (Err some) wire wire') (sym is) tt

pub shown_refused : (T : Type 0) (told : Result T Stop) (stop : Stop) (fault : StoreFault) (wire wire' : Wire) → told ≡ Err stop → stop ≡ Refused fault → IsShown told wire wire' → wire' ≡ wire
shown_refused T told stop fault wire wire' is kind shows =
    subst (λ (some : Stop). IsShown {T = T} (Err some) wire wire') kind (subst (λ (some : Result T Stop). IsShown some wire wire') is shows)

-- a failure that is handed on
pub shown_on : (T X : Type 0) (stop : Stop) (wire wire' : Wire) → IsShown {T = T} (Err stop) wire wire' → IsShown {T = X} (Err stop) wire wire'
shown_on T X (Lost why) wire wire' is = tt
shown_on T X (Refused fault) wire wire' is = is
shown_on T X (Ahead ahead) wire wire' is = is
