-- A round that breaks off, at a move that was refused or before it.
use Rattle.std.proofs.Common.{◌≡◌, ℕ, ◌+◌, true, false, List, [], ◌∷◌, ◌++◌, take, drop, Some, None, refl, sym, ap, ◌∙◌, subst, arith, inl, inr, append_assoc, take-append-drop}
use Rattle.std.specs.Prelude.{All}
use Rattle.std.proofs.lemmas.List.{append-nil}
use Rattle.std.proofs.lemmas.List.Elements.{All-tail}
use Rattle.mb_mbap.specs.declared.frame.Frame.{Frame}
use Rattle.poll_book.specs.declared.keeper.Neighbours.{Ghosts}
use Rattle.poll_book.specs.Tables.{Within}
use Rattle.office_core.specs.declared.office.Office.{Office}
use Rattle.office_core.specs.declared.error.OfficeError.{OfficeError}
use Rattle.office_core.specs.declared.error.OfficeError.TheVariants as error
use Rattle.office_core.specs.declared.event.EventAnswer.TheVariants as answer
use Rattle.office_core.specs.Answers.{answer_of}
use Rattle.office_core.specs.Errors.{is_of_store}
use Rattle.office_core.specs.History.{History, tables}
use Rattle.office_core.specs.Leavings.{LeftAfter}
use Rattle.office_core.specs.Messages.{arriving}
use Rattle.office_core.specs.Standing.{is_store}
use Rattle.office_net.specs.declared.fault.PollFault.{PollFault}
use Rattle.office_net.specs.declared.job.LineJob.{LineJob}
use Rattle.office_net.specs.declared.machine.Poll.{Poll}
use Rattle.office_net.specs.Faults.{ClosedBy, IsClosed, fault_by}
use Rattle.office_core.specs.Following.{Fails, Stays, Follows, MayLeave}
use Rattle.office_net.specs.Turning.{TurnFails}
use Rattle.office_net.specs.Jobs.{CanBeDone}
use Rattle.office_net.specs.Moves.{Start, Move, Asks, Comes, told, jobs_in, frames_in, queries_in, turn_of, is_due}
use Rattle.office_net.specs.Stages.{IsAfter, BreaksOff, Leads}
use Rattle.office_net.proofs.Closing.{closed}
use Rattle.office_core.proofs.Following.{left_refused}
use Rattle.office_net.proofs.Moving.{IsNextJob}

-- ---- closed connections

-- the store's refusals say nothing of the connection
pub store_open : (e : OfficeError) (fault : PollFault) → fault ≡ fault_by e → is_of_store e ≡ true → (now : History) (conn : ℕ) → ClosedBy fault now conn
store_open (error.Store f) fault is store now conn = subst (λ x. ClosedBy x now conn) (sym is) tt
store_open e fault is store now conn = absurd (cc)

-- and any other refusal says that it is closed
other_closed : (e : OfficeError) (fault : PollFault) → fault ≡ fault_by e → (now : History) (conn : ℕ) → (is_of_store e ≡ false → IsClosed now conn) → ClosedBy fault now conn
other_closed (error.Store f) fault is now conn shut = subst (λ x. ClosedBy x now conn) (sym is) tt
other_closed e fault is now conn shut = subst (λ x. ClosedBy x now conn) (sym is) (shut refl)

-- ---- a refused move

-- nothing happened but that this move was refused
abbrev leads_tried : {K : Type 0} {g : Ghosts K} (office office' : Office K g) (poll : Poll) (start : Start) (moves : List Move) (move : Move)
    → IsAfter start moves poll → Follows office' (told start moves)
    → Within (MayLeave office') (LeftAfter (MayLeave office) (tables (told start moves)) (tables (told start (move ∷ moves))) true)
    → Leads (Follows office') (MayLeave office) (MayLeave office') start moves poll [] [] (Some move)
leads_tried office office' poll start moves move after follows leaves = record {
  more = [];
  follows = follows;
  frames_are = sym (append-nil (frames_in moves));
  queries_are = sym (append-nil (queries_in start moves));
  after = after;
  leaves = leaves;
}

-- nothing happened
abbrev pub leads_still : {K : Type 0} {g : Ghosts K} (office office' : Office K g) (poll : Poll) (start : Start) (moves : List Move)
    → IsAfter start moves poll → Follows office (told start moves) → Stays (Follows office) (Follows office') (MayLeave office) (MayLeave office')
    → Leads (Follows office') (MayLeave office) (MayLeave office') start moves poll [] [] None
leads_still office office' poll start moves after follows stays = record {
  more = [];
  follows = stays.follows (told start moves) follows;
  frames_are = sym (append-nil (frames_in moves));
  queries_are = sym (append-nil (queries_in start moves));
  after = after;
  leaves = stays.leaves;
}

-- a frame was refused by the store
pub frame_breaks : {K : Type 0} {g : Ghosts K} (office office' : Office K g) (poll : Poll) (frame : Frame) (e : OfficeError) (fault : PollFault)
    → Fails (Follows office) (Follows office') (MayLeave office) (MayLeave office') (λ now. arriving now poll.conn frame) (answer.Refused e)
    → fault ≡ fault_by e → is_of_store e ≡ true → BreaksOff office poll office' poll [] (frame ∷ []) [] fault
frame_breaks office office' poll frame e fault fails is store start moves can follows after = record {
  tried = Some (Comes frame);
  leads = leads_tried office office' poll start moves (Comes frame) after (fails.follows (told start moves) follows)
      (subst (λ conn. Within (MayLeave office') (LeftAfter (MayLeave office) (tables (told start moves)) (tables (arriving (told start moves) conn frame ∷ told start moves)) true)) after.conn
      (λ left l. left_refused (MayLeave office) (tables (told start moves)) (tables (arriving (told start moves) poll.conn frame ∷ told start moves)) (is_store (answer.Refused e)) left
      (fails.leaves (told start moves) follows left l)));
  next = ([], refl);
  closed = store_open e fault is store (told start moves) start.conn;
}

-- ---- a refused turn

-- what holds of each holds of one among them
all_at : {A : Type 0} (P : A → Type 0) (xs : List A) (x : A) (ys : List A) → All P (xs ++ x ∷ ys) → P x
all_at P [] x ys all = all 0 x (omega arith)
all_at P (y ∷ xs) x ys all = all_at P xs x ys (All-tail P y (xs ++ x ∷ ys) all)

-- the job at the turn stands behind those that had theirs
later_jobs : (start : Start) (moves : List Move) (poll : Poll) (job : LineJob) → IsAfter start moves poll → IsNextJob poll job
    → (later : List LineJob) × (jobs_in moves ++ job ∷ later ≡ start.jobs)
later_jobs start moves poll job after next =
    let n : ℕ = poll.turned + 1 in (
      drop n start.jobs,
      sym (append_assoc (jobs_in moves) (job ∷ []) (drop n start.jobs))
          ∙ ap (λ l. l ++ drop n start.jobs)
          (ap (λ l. l ++ job ∷ []) after.turned ∙ sym (subst (λ l. take n l ≡ take poll.turned l ++ job ∷ []) after.jobs next))
          ∙ take-append-drop n start.jobs,
    )

pub turn_breaks : {K : Type 0} {g : Ghosts K} (office office' : Office K g) (poll poll' : Poll) (job : LineJob) (e : OfficeError) (fault : PollFault) → IsNextJob poll job
    → ((start : Start) (moves : List Move) → IsAfter start moves poll → IsAfter start moves poll')
    → TurnFails (Follows office) (Follows office') (MayLeave office) (MayLeave office') poll.conn poll.slot job e
    → fault ≡ fault_by e → BreaksOff office poll office' poll' [] [] [] fault
turn_breaks office office' poll poll' job e fault next again (inl (stays, store)) is start moves can follows after = record {
  tried = None;
  leads = leads_still office office' poll' start moves (again start moves after) follows stays;
  next = tt;
  closed = store_open e fault is store (told start moves) start.conn;
}
turn_breaks office office' poll poll' job e fault next again (inr (due, fails)) is start moves can follows after =
    let now : History = told start moves in
    let later = later_jobs start moves poll job after next in
    record {
      tried = Some (Asks job);
      leads = leads_tried office office' poll' start moves (Asks job) (again start moves after) (fails.follows now follows)
          (subst (λ (x : ℕ × ℕ). Within (MayLeave office') (LeftAfter (MayLeave office) (tables now) (tables (turn_of x.0 x.1 now job ∷ now)) true)) (λ i. (after.conn i, after.slot i))
          (λ left l. left_refused (MayLeave office) (tables now) (tables (turn_of poll.conn poll.slot now job ∷ now)) (is_store (answer.Refused e)) left (fails.leaves now follows left l)));
      next = later;
      closed = other_closed e fault is now start.conn
          (λ other. closed start moves job e
          (all_at (CanBeDone start.before start.conn) (jobs_in moves) job later.0 (subst (All (CanBeDone start.before start.conn)) (sym later.1) can))
          (subst (λ slot. is_due slot now job ≡ true) after.slot (due now follows))
          (fails.answered other now follows ∙ (λ i. answer_of now (turn_of (after.conn i) (after.slot i) now job))));
    }
