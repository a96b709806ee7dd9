-- Each move of a round leads it on.
use Rattle.std.proofs.Common.{◌≡◌, ◌⊎◌, ℕ, suc, ◌+◌, ◌%◌, ◌<◌, Bool, true, false, cond, List, [], ◌∷◌, ◌++◌, length, take, Option, Some, None, refl, sym, ap, ◌∙◌, subst, arith, inl, inr}
use Rattle.std.specs.Prelude.{is_none, ◌&&◌, ◌==◌}
use Rattle.std.proofs.lemmas.Bool.{eq-eqb, eqb-true}
use Rattle.std.proofs.lemmas.List.{append-nil, length-append, take_all}
use Rattle.mb_mbap.specs.declared.frame.Frame.{Frame}
use Rattle.poll_book.specs.declared.keeper.Neighbours.{Ghosts}
use Rattle.poll_book.specs.Tables.{Within}
use Rattle.office_core.specs.declared.office.Office.{Office}
use Rattle.office_core.specs.declared.error.OfficeError.{OfficeError}
use Rattle.office_core.specs.declared.event.EventAnswer.{EventAnswer}
use Rattle.office_core.specs.declared.event.EventAnswer.TheVariants as answer
use Rattle.office_core.specs.History.{History, site_of, points, settings, open_line, asked, ask_fault, question, is_answered, tables}
use Rattle.office_core.specs.Answers.{answer_of, refused_or}
use Rattle.office_core.specs.Leavings.{LeftAfter}
use Rattle.office_core.specs.Messages.{arriving}
use Rattle.office_core.specs.Orders.{send_fault, writing}
use Rattle.office_core.specs.Queries.{Query, Reads, Writes, query_frame}
use Rattle.office_core.proofs.Queries.{unasked}
use Rattle.office_net.specs.declared.round.Round.{Round}
use Rattle.office_net.specs.declared.job.LineJob.{LineJob}
use Rattle.office_net.specs.declared.job.LineJob.TheVariants.{Order, Read}
use Rattle.office_net.specs.declared.machine.Poll.{Poll}
use Rattle.office_core.specs.Following.{Happens, Stays, Follows, MayLeave}
use Rattle.office_net.specs.Moves.{Start, Move, Asks, Passes, Comes, told, asks_in, jobs_in, frames_in, queries_in, query_in, is_query, unanswered, turn_of, turn_answer, is_due, next_order, number_of, HasToWait, recorded_by, excepted_by, refused_by}
use Rattle.office_net.specs.Stages.{IsAfter, GoesOn, IsWaiting, Took, Asked, Passed, waiting_after}
use Rattle.office_net.proofs.Sorted.{none_asked}
use Rattle.office_net.proofs.Waiting.{waits_after, same_unanswered}

-- ---- a frame

-- where no query can be made, the moves say so too
waits_so : (start : Start) (moves : List Move) (poll : Poll) → IsAfter start moves poll → IsWaiting poll → HasToWait start moves
waits_so start moves poll after (inl all) =
    inl (after.turned ∙ ap (λ k. take k start.jobs) (all ∙ ap length after.jobs) ∙ take_all (length start.jobs) start.jobs (omega arith))
waits_so start moves poll after (inr full) = inr (sym after.waiting ∙ full ∙ after.most)

-- a frame came, and was answered so
pub came_on : {K : Type 0} {g : Ghosts K} (office office' : Office K g) (old new : Poll) (frame : Frame) (answer : EventAnswer) → IsWaiting old
    → Happens (Follows office) (Follows office') (MayLeave office) (MayLeave office') (λ now. arriving now old.conn frame) answer
    → Took old answer frame.transaction new → GoesOn office old office' new (frame ∷ []) []
came_on office office' old new frame answer waits came took start moves follows after =
    let now : History = told start moves in
    let asks : old.round.asked ≡ asks_in moves = after.counts.asked in
    let answered : answer ≡ answer_of now (arriving now start.conn frame) = came.answered now follows ∙ ap (λ conn. answer_of now (arriving now conn frame)) after.conn in
    record {
      more = Comes frame ∷ [];
      follows = subst (λ conn. Follows office' (arriving now conn frame ∷ now)) after.conn (came.follows now follows);
      frames_are = refl;
      queries_are = sym (append-nil (queries_in start moves));
      after = record {
        conn = took.same.conn ∙ after.conn;
        slot = took.same.slot ∙ after.slot;
        most = took.same.most ∙ after.most;
        jobs = took.same.jobs ∙ after.jobs;
        turned = after.turned ∙ ap (λ k. take k start.jobs) (sym took.turned);
        run = (waits_so start moves old after waits, after.run);
        counts = record {
          asked = took.asked ∙ asks;
          recorded = took.recorded ∙ (λ i. after.counts.recorded i + recorded_by (answered i));
          excepted = took.excepted ∙ (λ i. after.counts.excepted i + excepted_by (answered i));
          refused = took.refused ∙ (λ i. after.counts.refused i + refused_by (answered i));
        };
        waiting = took.waiting ∙ ap (λ k. waiting_after old.first k old.waiting frame.transaction answer) asks
            ∙ waits_after now start.conn frame old.first (length (asked start.before start.conn)) (asks_in moves) old.waiting answer after.waiting after.made after.first answered;
        first = subst (λ k. (asks_in moves ≡ 0) ⊎ (k ≡ length (asked start.before start.conn) % 65536)) (sym took.first) after.first;
        made = ap length (none_asked now start.conn frame) ∙ after.made;
      };
      leaves = subst (λ conn. Within (MayLeave office') (LeftAfter (MayLeave office) (tables now) (tables (arriving now conn frame ∷ now)) false)) after.conn (came.leaves now follows);
    }

-- ---- a job's turn

-- the job at the turn is the next one
abbrev pub IsNextJob : Poll → LineJob → Type 0
IsNextJob old job = take (old.turned + 1) old.jobs.items ≡ take old.turned old.jobs.items ++ job ∷ []

pub turned_on : (start : Start) (moves : List Move) (old new : Poll) (job : LineJob) → IsAfter start moves old → IsNextJob old job → new.turned ≡ old.turned + 1
    → jobs_in moves ++ job ∷ [] ≡ take new.turned start.jobs
turned_on start moves old new job after next turned =
    ap (λ l. l ++ job ∷ []) after.turned ∙ sym (subst (λ l. take (old.turned + 1) l ≡ take old.turned l ++ job ∷ []) after.jobs next)
    ∙ ap (λ k. take k start.jobs) (sym turned)

-- what is told as a query isn't refused
query_made : (o : Option OfficeError) (query frame : Frame) → answer.Query query ≡ refused_or o (answer.Query frame) → (o ≡ None) × (query ≡ frame)
query_made None query frame e = (refl, cc)
query_made (Some fault) query frame e = absurd (cc)

-- a turn that makes a query adds one to those of the connection, and answers none; its transaction is the number of those before
pub record MakesOne (now : History) (conn slot : ℕ) (job : LineJob) (query : Frame) : Type 0 where
  pub one : length (asked (turn_of conn slot now job ∷ now) conn) ≡ suc (length (asked now conn))
  pub transaction : query.transaction ≡ length (asked now conn) % 65536
  pub answers_none : (x : ℕ) → is_answered (turn_of conn slot now job ∷ now) conn x ≡ is_answered now conn x

one_more : (now : History) (conn : ℕ) (q : Query) (o : Option OfficeError) → o ≡ None
    → length (cond ((conn == conn) && is_none o) (asked now conn ++ q ∷ []) (asked now conn)) ≡ suc (length (asked now conn))
one_more now conn q o none =
    ap (λ b. length (cond (b && is_none o) (asked now conn ++ q ∷ []) (asked now conn))) (eq-eqb conn conn refl)
    ∙ ap (λ o. length (cond (is_none o) (asked now conn ++ q ∷ []) (asked now conn))) none
    ∙ length-append (asked now conn) (q ∷ []) ∙ omega arith

makes_one : (now : History) (conn slot : ℕ) (job : LineJob) (query : Frame) → answer.Query query ≡ answer_of now (turn_of conn slot now job) → MakesOne now conn slot job query
makes_one now conn slot (Read device read) query is =
    let q : Query = Reads (question (site_of now) (points now) device slot read) in
    let fault : Option OfficeError = ask_fault (open_line now conn) (site_of now) (points now) (length (asked now conn)) device read in
    let made = query_made fault query (query_frame (length (asked now conn)) q) is in
    record { one = one_more now conn q fault made.0; transaction = ap (λ (f : Frame). f.transaction) made.1; answers_none = λ x. refl }
makes_one now conn slot (Order device) query is =
    let number : ℕ = number_of (next_order now device) in
    let q : Query = Writes (writing (site_of now) (points now) (settings now) number) in
    let fault : Option OfficeError = send_fault (open_line now conn) (site_of now) (points now) (settings now) (length (asked now conn)) number in
    let made = query_made fault query (query_frame (length (asked now conn)) q) is in
    record { one = one_more now conn q fault made.0; transaction = ap (λ (f : Frame). f.transaction) made.1; answers_none = λ x. refl }

more_asked : (a k : ℕ) → a ≡ k → a + 1 ≡ suc k
more_asked a k e = omega arith

-- the first query's transaction, once there is one
first_made : (old : Poll) (transaction from k all : ℕ) → transaction ≡ all % 65536 → all ≡ from + k → old.round.asked ≡ k → (k ≡ 0) ⊎ (old.first ≡ from % 65536)
    → (b : Bool) → (old.round.asked == 0) ≡ b → cond b transaction old.first ≡ from % 65536
first_made old transaction from k all named all_is count first true is =
    let none : old.round.asked ≡ 0 = eqb-true old.round.asked 0 is in
    let same : all ≡ from = omega arith in
    named ∙ ap (λ n. n % 65536) same
first_made old transaction from k all named all_is count (inr first) false is = first
first_made old transaction from k all named all_is count (inl none) false is = absurd (off (eq-eqb old.round.asked 0 (count ∙ none)))
  where
    off : (old.round.asked == 0) ≡ true → ⊥
    off e = absurd (cc)

-- the job at the turn made a query
pub asked_on : {K : Type 0} {g : Ghosts K} (office office' : Office K g) (old new : Poll) (job : LineJob) (query : Frame) → IsNextJob old job → old.waiting < old.most
    → ((now : History) → Follows office now → is_due old.slot now job ≡ true)
    → Happens (Follows office) (Follows office') (MayLeave office) (MayLeave office') (λ now. turn_of old.conn old.slot now job) (answer.Query query)
    → Asked old query.transaction new → GoesOn office old office' new [] (query ∷ [])
asked_on office office' old new job query next room due made noted start moves follows after =
    let now : History = told start moves in
    let k : ℕ = asks_in moves in
    let from : ℕ = length (asked start.before start.conn) in
    let event = turn_of start.conn start.slot now job in
    let place : (old.conn ≡ start.conn) × (old.slot ≡ start.slot) = (after.conn, after.slot) in
    let is : answer.Query query ≡ turn_answer start moves job = made.answered now follows ∙ (λ i. answer_of now (turn_of (after.conn i) (after.slot i) now job)) in
    let one : MakesOne now start.conn start.slot job query = makes_one now start.conn start.slot job query is in
    let fresh : is_answered now start.conn (from + k) ≡ false = unasked now start.conn (from + k) (omega (arith, after.made)) in
    let last : ◌≡◌ {A = ℕ} (cond (is_answered (event ∷ now) start.conn (from + k)) 0 1) 1 = ap (λ b. cond b 0 1) (one.answers_none (from + k) ∙ fresh) in
    let others : unanswered (event ∷ now) start.conn from k ≡ unanswered now start.conn from k = same_unanswered (event ∷ now) now start.conn from k one.answers_none in
    record {
      more = Asks job ∷ [];
      follows = subst (λ (x : ℕ × ℕ). Follows office' (turn_of x.0 x.1 now job ∷ now)) (λ i. (after.conn i, after.slot i)) (made.follows now follows);
      frames_are = sym (append-nil (frames_in moves));
      queries_are = ap (λ a. queries_in start moves ++ query_in a) (sym is);
      after = record {
        conn = noted.same.conn ∙ after.conn;
        slot = noted.same.slot ∙ after.slot;
        most = noted.same.most ∙ after.most;
        jobs = noted.same.jobs ∙ after.jobs;
        turned = turned_on start moves old new job after next noted.turned;
        run = (
          subst (λ s. is_due s now job ≡ true) after.slot (due now follows),
          ap is_query (sym is),
          omega (arith, after.waiting, after.most, room),
          after.run,
        );
        counts = record {
          asked = ap (λ (r : Round). r.asked) noted.round ∙ more_asked old.round.asked k after.counts.asked;
          recorded = ap (λ (r : Round). r.recorded) noted.round ∙ after.counts.recorded;
          excepted = ap (λ (r : Round). r.excepted) noted.round ∙ after.counts.excepted;
          refused = ap (λ (r : Round). r.refused) noted.round ∙ after.counts.refused;
        };
        waiting = omega (arith, noted.waiting, after.waiting, last, others);
        first = inr (noted.first ∙ first_made old query.transaction from k (length (asked now start.conn)) one.transaction after.made after.counts.asked after.first (old.round.asked == 0) refl);
        made = one.one ∙ omega (arith, after.made);
      };
      leaves = subst (λ (x : ℕ × ℕ). Within (MayLeave office') (LeftAfter (MayLeave office) (tables now) (tables (turn_of x.0 x.1 now job ∷ now)) false)) (λ i. (after.conn i, after.slot i))
          (made.leaves now follows);
    }

-- the job at the turn was passed over
pub passed_on : {K : Type 0} {g : Ghosts K} (office office' : Office K g) (old new : Poll) (job : LineJob) → IsNextJob old job
    → ((now : History) → Follows office now → is_due old.slot now job ≡ false)
    → Stays (Follows office) (Follows office') (MayLeave office) (MayLeave office') → Passed old new → GoesOn office old office' new [] []
passed_on office office' old new job next due stays noted start moves follows after =
    let now : History = told start moves in
    record {
      more = Passes job ∷ [];
      follows = stays.follows now follows;
      frames_are = sym (append-nil (frames_in moves));
      queries_are = sym (append-nil (queries_in start moves));
      after = record {
        conn = noted.same.conn ∙ after.conn;
        slot = noted.same.slot ∙ after.slot;
        most = noted.same.most ∙ after.most;
        jobs = noted.same.jobs ∙ after.jobs;
        turned = turned_on start moves old new job after next noted.turned;
        run = (subst (λ s. is_due s now job ≡ false) after.slot (due now follows), after.run);
        counts = record {
          asked = ap (λ (r : Round). r.asked) noted.round ∙ after.counts.asked;
          recorded = ap (λ (r : Round). r.recorded) noted.round ∙ after.counts.recorded;
          excepted = ap (λ (r : Round). r.excepted) noted.round ∙ after.counts.excepted;
          refused = ap (λ (r : Round). r.refused) noted.round ∙ after.counts.refused;
        };
        waiting = noted.waiting ∙ after.waiting;
        first = subst (λ k. (asks_in moves ≡ 0) ⊎ (k ≡ length (asked start.before start.conn) % 65536)) (sym noted.first) after.first;
        made = after.made;
      };
      leaves = stays.leaves;
    }
