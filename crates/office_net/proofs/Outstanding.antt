-- At most as many queries of a round wait as may, and that is 1 to 16.
use Rattle.std.proofs.Common.{◌≡◌, ℕ, zero, suc, ◌+◌, ◌≤◌, Bool, true, false, cond, List, [], ◌∷◌, length, Option, Some, None, refl, ap, ◌∙◌, arith, ⊎_elim}
use Rattle.std.specs.Prelude.{◌||◌, ◌==◌}
use Rattle.mb_mbap.specs.declared.frame.Frame.{Frame}
use Rattle.point_list.proofs.Sound.{outstanding_within}
use Rattle.office_core.specs.History.{Happening, History, asked, is_answered, open_line, site_of}
use Rattle.office_core.specs.Legal.{Legal}
use Rattle.office_core.specs.Messages.{arriving}
use Rattle.office_net.specs.declared.job.LineJob.{LineJob}
use Rattle.office_net.specs.declared.job.LineJob.TheVariants.{Order, Read}
use Rattle.office_net.specs.Moves.{Start, Move, Asks, Passes, Comes, told, asks_in, turn_of, unanswered, waiting_in, IsRun}
use Rattle.office_net.specs.Rounds.{most_of, most_on}
use Rattle.office_core.proofs.Forms.{site_sound}
use Rattle.office_net.proofs.Sorted.{IsReply, IsOther, sorted, answered_by}
use Rattle.office_net.proofs.Waiting.{same_unanswered}

-- at most one
one_or_none : (b : Bool) → ◌≤◌ (cond b 0 1) 1
one_or_none true = omega arith
one_or_none false = omega arith

-- where all that was answered is answered still
fewer : (a b : History) (conn from count : ℕ) → ((x : ℕ) → is_answered b conn x ≡ true → is_answered a conn x ≡ true) → unanswered a conn from count ≤ unanswered b conn from count
fewer a b conn from zero still = omega arith
fewer a b conn from (suc count) still =
    let rest = fewer a b conn from count still in
    let here = by (is_answered a conn (from + count)) (is_answered b conn (from + count)) refl (still (from + count)) in
    omega (arith, rest, here)
  where
    by : (p q : Bool) → is_answered a conn (from + count) ≡ p → (q ≡ true → is_answered a conn (from + count) ≡ true) → ◌≤◌ (cond p 0 1) (cond q 0 1)
    by true q is more = omega arith
    by false false is more = omega arith
    by false true is more = let on : is_answered a conn (from + count) ≡ true = more refl in absurd (cc)

-- what was answered stays so
still_answered : (now : History) (conn : ℕ) (frame : Frame) (x : ℕ) → is_answered now conn x ≡ true → is_answered (arriving now conn frame ∷ now) conn x ≡ true
still_answered now conn frame x before = ⊎_elim
    (λ (reply : IsReply now conn frame). ap (λ h. is_answered (h ∷ now) conn x) reply.is ∙ answered_by now conn reply.number frame.unit reply.query x reply.query_is reply.fits_it
    ∙ by (reply.number == x))
    (λ (other : IsOther now conn frame). ap (λ h. is_answered (h ∷ now) conn x) other.is ∙ before)
    (sorted now conn frame)
  where
    by : (b : Bool) → (b || is_answered now conn x) ≡ true
    by true = refl
    by false = before

-- a job's turn answers none
turn_answers : (conn slot : ℕ) (now : History) (job : LineJob) (x : ℕ) → is_answered (turn_of conn slot now job ∷ now) conn x ≡ is_answered now conn x
turn_answers conn slot now (Order device) x = refl
turn_answers conn slot now (Read device read) x = refl

pub at_most_outstanding : (start : Start) (moves : List Move) → IsRun start moves → waiting_in start moves ≤ start.most
at_most_outstanding start [] run = omega arith
at_most_outstanding start (Asks job ∷ moves) (due, made, room, run) =
    let from : ℕ = length (asked start.before start.conn) in
    let now : History = told start moves in
    let event : Happening = turn_of start.conn start.slot now job in
    let k : ℕ = asks_in moves in
    let same : unanswered (event ∷ now) start.conn from k ≡ unanswered now start.conn from k = same_unanswered (event ∷ now) now start.conn from k (turn_answers start.conn start.slot now job) in
    let one = one_or_none (is_answered (event ∷ now) start.conn (from + k)) in
    omega (arith, same, one, room)
at_most_outstanding start (Passes job ∷ moves) (cause, run) = at_most_outstanding start moves run
at_most_outstanding start (Comes frame ∷ moves) (waits, run) =
    let before = at_most_outstanding start moves run in
    let less = fewer (arriving (told start moves) start.conn frame ∷ told start moves) (told start moves) start.conn (length (asked start.before start.conn)) (asks_in moves) (still_answered (told start moves) start.conn frame) in
    omega (arith, before, less)

-- as the site of a history that may be says of each line
pub one_to_sixteen : (before : History) (conn : ℕ) → Legal before → (1 ≤ most_of before conn) × (most_of before conn ≤ 16)
one_to_sixteen before conn legal = by (open_line before conn)
  where
    by : (line : Option ℕ) → (1 ≤ most_on (site_of before) line) × (most_on (site_of before) line ≤ 16)
    by None = (omega arith, omega arith)
    by (Some line) = outstanding_within (site_of before) line (site_sound before legal)
