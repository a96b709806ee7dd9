-- Readings stay: what lacks none lacks none later.
use Rattle.std.proofs.Common.{◌≡◌, ℕ, Bool, true, false, cond, List, [], ◌∷◌, ◌++◌, Option, Some, None, refl, sym, ap, ◌∙◌, ⊎_elim}
use Rattle.std.specs.Prelude.{is_none, ◌&&◌, ◌||◌, slice_get}
use Rattle.std.specs.Option.{option_or}
use Rattle.mb_mbap.specs.declared.frame.Frame.{Frame}
use Rattle.read_planner.specs.declared.Read.{Read as AskedRead}
use Rattle.poll_book.specs.declared.rows.PointRow.{PointRow}
use Rattle.poll_book.specs.declared.rows.Reading.{Reading}
use Rattle.poll_book.specs.Tables.{Readings, Key, reading_at, with_rows, new_rows}
use Rattle.office_core.specs.Cover.{covers}
use Rattle.office_core.specs.History.{History, points, given, is_answered, given_by, asked}
use Rattle.office_core.specs.Lacking.{lacks, some_lacks}
use Rattle.office_core.specs.Messages.{arriving}
use Rattle.office_core.proofs.Rows.{at_with_rows, readings_more}
use Rattle.office_net.specs.declared.job.LineJob.{LineJob}
use Rattle.office_net.specs.declared.job.LineJob.TheVariants.{Order, Read}
use Rattle.office_net.specs.Moves.{Start, Move, Asks, Passes, Comes, told, turn_of}
use Rattle.office_net.proofs.Sorted.{IsReply, IsOther, sorted}

-- what lacks a reading in a longer table lacks it in the shorter one
module _ (xs ys : Readings) where
  lacked_before : (q : Key) → is_none (reading_at (with_rows (xs ++ ys) []) q) ≡ true → is_none (reading_at (with_rows xs []) q) ≡ true
  lacked_before q none = by (reading_at (new_rows (with_rows xs []) ys) q) (reading_at (with_rows xs []) q)
      (sym (ap is_none (ap (λ t. reading_at t q) (readings_more xs ys) ∙ at_with_rows (new_rows (with_rows xs []) ys) (with_rows xs []) q)) ∙ none)
    where
      by : (a b : Option Reading) → is_none (option_or a b) ≡ true → is_none b ≡ true
      by None b is = is
      by (Some x) b is = absurd (cc)

  some_before : (known : List PointRow) (device : List ℕ) (slot : ℕ) (read : AskedRead) → some_lacks known (with_rows (xs ++ ys) []) device slot read ≡ true → some_lacks known (with_rows xs []) device slot read ≡ true
  some_before [] device slot read some = some
  some_before (row ∷ known) device slot read some =
      by (covers device read row.point) (is_none (reading_at (with_rows (xs ++ ys) []) (row.number, slot))) (is_none (reading_at (with_rows xs []) (row.number, slot)))
      (lacked_before (row.number, slot)) some (some_before known device slot read)
    where
      by : (c l e : Bool) → (l ≡ true → e ≡ true) → ((c && l) || some_lacks known (with_rows (xs ++ ys) []) device slot read) ≡ true
          → (some_lacks known (with_rows (xs ++ ys) []) device slot read ≡ true → some_lacks known (with_rows xs []) device slot read ≡ true)
          → ((c && e) || some_lacks known (with_rows xs []) device slot read) ≡ true
      by false l e less is rest = rest is
      by true true e less is rest = ap (λ b. b || some_lacks known (with_rows xs []) device slot read) (less refl)
      by true false true less is rest = refl
      by true false false less is rest = rest is

-- what lacks a reading after a frame lacked it before
frame_before : (now : History) (conn : ℕ) (frame : Frame) (device : List ℕ) (slot : ℕ) (read : AskedRead) → lacks (arriving now conn frame ∷ now) device slot read ≡ true → lacks now device slot read ≡ true
frame_before now conn frame device slot read some = ⊎_elim
    (λ (reply : IsReply now conn frame).
    some_before (given now) (cond (is_answered now conn reply.number) [] (given_by (points now) (slice_get (asked now conn) reply.number) frame.unit)) (points now) device slot read
    (ap (λ h. lacks (h ∷ now) device slot read) (sym reply.is) ∙ some))
    (λ (other : IsOther now conn frame). ap (λ h. lacks (h ∷ now) device slot read) (sym other.is) ∙ some)
    (sorted now conn frame)

-- and after a job's turn
turn_before : (conn at : ℕ) (now : History) (job : LineJob) (device : List ℕ) (slot : ℕ) (read : AskedRead) → lacks (turn_of conn at now job ∷ now) device slot read ≡ lacks now device slot read
turn_before conn at now (Order name) device slot read = refl
turn_before conn at now (Read name asked) device slot read = refl

-- a test that was passed only where it is passed now fails where it fails now
off_then : (a b : Bool) → (b ≡ true → a ≡ true) → a ≡ false → b ≡ false
off_then a false up off = refl
off_then a true up off = let on : a ≡ true = up refl in absurd (cc)

module _ (start : Start) (device : List ℕ) (slot : ℕ) (read : AskedRead) where
  -- what is lacked after the round's moves was lacked as it began
  pub lacked_begun : (moves : List Move) → lacks (told start moves) device slot read ≡ true → lacks start.before device slot read ≡ true
  lacked_begun [] some = some
  lacked_begun (Asks job ∷ moves) some = lacked_begun moves (sym (turn_before start.conn start.slot (told start moves) job device slot read) ∙ some)
  lacked_begun (Passes job ∷ moves) some = lacked_begun moves some
  lacked_begun (Comes frame ∷ moves) some = lacked_begun moves (frame_before (told start moves) start.conn frame device slot read some)

  -- what lacks none lacks none after the next move
  pub none_next : (move : Move) (moves : List Move) → lacks (told start moves) device slot read ≡ false → lacks (told start (move ∷ moves)) device slot read ≡ false
  none_next (Asks job) moves none = turn_before start.conn start.slot (told start moves) job device slot read ∙ none
  none_next (Passes job) moves none = none
  none_next (Comes frame) moves none =
      off_then (lacks (told start moves) device slot read) (lacks (told start (Comes frame ∷ moves)) device slot read) (frame_before (told start moves) start.conn frame device slot read) none
