-- Readings and totals in terms of what stands where in a history: readings are what first replies bring, and a total is
-- the sum of the steps from slot to slot.
use Rattle.std.specs.Prelude.{◌≡◌, ◌↔◌, ℕ, ◌+◌, ◌-◌, ◌%◌, true, List, ◌∷◌, ◌++◌, length, map, get_or, Some, None, Contains}
use Rattle.std.specs.List.{range_with_len, sum_by}
use Rattle.mb_pdu.specs.declared.reply.Reply.{Reply as AReply}
use Rattle.mb_pdu.specs.Replies.{spells_reply}
use Rattle.read_planner.specs.declared.Read.{Read}
use Rattle.read_planner.specs.Read.{read_request}
use Rattle.poll_book.specs.declared.rows.PointRow.{PointRow}
use Rattle.poll_book.specs.declared.rows.Reading.{Reading}
use Rattle.poll_book.specs.Tables.{reading_at}
use Rattle.poll_book.specs.Totals.{counted_number, is_counted}
use Rattle.poll_book.specs.Histories.{IsRising}
use Rattle.office_core.specs.Cover.{Question, Brings, covers, words_in, reply_cells}
use Rattle.office_core.specs.History.{Happening, Ask, Reply, History, site_of, points, open_line, ask_fault, question, asked, kept_readings}

-- ---- replies

-- a history in which this happened, after that
pub record Happened (before : History) (happening : Happening) (earlier : History) : Type 0 where
  pub later : List Happening
  pub stands : before ≡ later ++ happening ∷ earlier

-- query n of a connection, which was asked after that history, where n queries had been asked
pub record IsQuery (before : History) (c n : ℕ) (q : Question) (asking : History) : Type 0 where
  pub device : List ℕ
  pub slot : ℕ
  pub read : Read
  pub came : Happened before (Ask c device slot read) asking
  pub accepted : ask_fault (open_line asking c) (site_of asking) (points asking) (length (asked asking c)) device read ≡ None
  pub count : length (asked asking c) ≡ n
  pub is : q ≡ question (site_of asking) (points asking) device slot read

-- a unit is this reply to that query of a connection
pub record IsReplyTo (earlier : History) (c n : ℕ) (unit : List ℕ) (q : Question) (reply : AReply) : Type 0 where
  pub asking : History
  pub query : IsQuery earlier c n q asking
  pub spelled : spells_reply (read_request q.read) reply unit

-- no unit that came earlier was a reply to the query
abbrev pub IsFirst : History → ℕ → ℕ → Type 0
IsFirst earlier c n =
    (older : History) (unit : List ℕ) (q : Question) (reply : AReply) → Happened earlier (Reply c n unit) older → IsReplyTo older c n unit q reply → ⊥

-- the first reply to a query brings what it asks, and so these words for its slot to a point that it covers and that was
-- known when it was asked
pub record Gives (earlier : History) (c n : ℕ) (unit : List ℕ) (row : PointRow) (slot : ℕ) (words : List ℕ) : Type 0 where
  pub q : Question
  pub reply : AReply
  pub replies : IsReplyTo earlier c n unit q reply
  pub first : IsFirst earlier c n
  pub brings : Brings q.read reply
  pub for_slot : q.slot ≡ slot
  pub known : Contains (points replies.asking) row
  pub covered : covers q.device q.read row.point ≡ true
  pub spells : words ≡ words_in q.read (reply_cells reply) row.point

-- no unit that came earlier gave words to the point's slot
abbrev pub IsEarliest : History → ℕ → ℕ → Type 0
IsEarliest earlier point slot =
    (older : History) (c n : ℕ) (unit : List ℕ) (row : PointRow) (words : List ℕ)
    → Happened earlier (Reply c n unit) older → Gives older c n unit row slot words → row.number ≡ point → ⊥

-- a unit came that gave the point's slot this reading, and none that came earlier gave it one
pub record IsReadingOf (before : History) (point slot : ℕ) (reading : Reading) : Type 0 where
  pub earlier : History
  pub c : ℕ
  pub n : ℕ
  pub unit : List ℕ
  pub row : PointRow
  pub words : List ℕ
  pub came : Happened before (Reply c n unit) earlier
  pub gave : Gives earlier c n unit row slot words
  pub number : row.number ≡ point
  pub is : reading ≡ record { words = words; counted = is_counted row.point words }
  pub earliest : IsEarliest earlier point slot

-- ---- totals

-- in this slot, which isn't voided, stands a counted reading of a counter, with this number
pub record Counts (before : History) (known : PointRow) (slot number : ℕ) : Type 0 where
  pub reading : Reading
  pub stands : reading_at (kept_readings before) (known.number, slot) ≡ Some reading
  pub counted : reading.counted ≡ true
  pub reads : counted_number known.point reading.words ≡ Some number

-- the slots that count, in their order, each with its number
pub record AreBySlot (before : History) (known : PointRow) (pairs : List (ℕ × ℕ)) : Type 0 where
  pub rise : IsRising (λ (p : ℕ × ℕ). p.0) pairs
  pub are : (slot number : ℕ) → Contains pairs (slot, number) ↔ Counts before known slot number

-- the step from one number to the next, which rolls over after the roll
abbrev pub step : ℕ → ℕ → ℕ → ℕ
step roll v w = (w + (roll + 1) - v) % (roll + 1)

-- the steps between neighbours, summed by their places; fewer than two numbers have none
abbrev pub sum_of_steps : ℕ → List ℕ → ℕ
sum_of_steps roll numbers = sum_by (λ k. step roll (get_or numbers k 0) (get_or numbers (k + 1) 0)) (range_with_len 0 (length numbers - 1))

abbrev pub numbers_of : List (ℕ × ℕ) → List ℕ
numbers_of pairs = map (λ p. p.1) pairs
