-- How many queries of a round wait, as queries are made and frames come.
use Rattle.std.proofs.Common.{◌≡◌, ◌≢◌, ◌⊎◌, ℕ, zero, suc, ◌+◌, ◌-◌, ◌%◌, ◌<◌, ◌≤◌, Bool, true, false, cond, List, ◌∷◌, length, refl, sym, ap, ◌∙◌, arith, inl, inr, ⊎_elim}
use Rattle.std.specs.Prelude.{◌||◌, ◌==◌}
use Rattle.std.proofs.lemmas.Bool.{eq-eqb, eqb-true}
use Rattle.std.proofs.lemmas.Bool.Decides.{nat_tests}
use Rattle.mb_mbap.specs.declared.frame.Frame.{Frame}
use Rattle.poll_match.proofs.Numbers.{numbered_is}
use Rattle.poll_book.specs.declared.rows.PointRow.{PointRow}
use Rattle.poll_book.specs.Tables.{Readings, new_rows}
use Rattle.office_core.specs.declared.error.OfficeError.TheVariants as error
use Rattle.office_core.specs.declared.event.Arrival.{Arrival}
use Rattle.office_core.specs.declared.event.Arrival.TheVariants.{Recorded, Settled, Excepted}
use Rattle.office_core.specs.declared.event.EventAnswer.{EventAnswer}
use Rattle.office_core.specs.declared.event.EventAnswer.TheVariants as answer
use Rattle.office_core.specs.Cover.{given_rows}
use Rattle.office_core.specs.Queries.{Query, Reads, Writes, is_excepted, exception_code}
use Rattle.office_core.specs.History.{Reply, Noise, History, asked, is_answered, readings, points}
use Rattle.office_core.specs.Answers.{answer_of, unit_answer, normal_answer}
use Rattle.office_core.specs.Messages.{arriving}
use Rattle.office_net.specs.Moves.{unanswered}
use Rattle.office_net.specs.Stages.{own, waiting_after}
use Rattle.office_net.proofs.Sorted.{IsReply, IsOther, sorted, reply_told, answered_by}

-- ---- counting

-- the same queries answered, the same number that isn't
pub same_unanswered : (a b : History) (conn from count : ℕ) → ((x : ℕ) → is_answered a conn x ≡ is_answered b conn x) → unanswered a conn from count ≡ unanswered b conn from count
same_unanswered a b conn from zero same = refl
same_unanswered a b conn from (suc count) same = λ i. same_unanswered a b conn from count same i + cond (same (from + count) i) 0 1

-- one number more is answered in `a`
abbrev Answers : History → History → ℕ → ℕ → Type 0
Answers a b conn n = (x : ℕ) → is_answered a conn x ≡ ((n == x) || is_answered b conn x)

unlike : (n x : ℕ) → n ≢ x → (n == x) ≡ false
unlike n x differ = by (n == x) refl
  where
    by : (b : Bool) → (n == x) ≡ b → b ≡ false
    by true is = absurd (differ (eqb-true n x is))
    by false is = refl

-- a number that isn't among them
outside : (a b : History) (conn n from count : ℕ) → Answers a b conn n → (n < from) ⊎ (from + count ≤ n) → unanswered a conn from count ≡ unanswered b conn from count
outside a b conn n from zero answers out = refl
outside a b conn n from (suc count) answers out =
    let less : (n < from) ⊎ (from + count ≤ n) = ⊎_elim (λ (below : n < from). inl below) (λ (above : from + suc count ≤ n). inr (omega arith)) out in
    let differ : n ≢ from + count = λ e. ⊎_elim (λ (below : n < from). absurd (omega (arith, e))) (λ (above : from + suc count ≤ n). absurd (omega (arith, e))) out in
    let here : is_answered a conn (from + count) ≡ is_answered b conn (from + count) =
    answers (from + count) ∙ ap (λ e. e || is_answered b conn (from + count)) (unlike n (from + count) differ) in
    λ i. outside a b conn n from count answers less i + cond (here i) 0 1

-- a number among them that wasn't answered
inside : (a b : History) (conn n from count : ℕ) → Answers a b conn n → from ≤ n → n < from + count → is_answered b conn n ≡ false
    → unanswered a conn from count + 1 ≡ unanswered b conn from count
inside a b conn n from zero answers above below fresh = absurd (omega arith)
inside a b conn n from (suc count) answers above below fresh = by (n == from + count) refl (λ lt. inside a b conn n from count answers above lt fresh)
  where
    by : (e : Bool) → (n == from + count) ≡ e → (n < from + count → unanswered a conn from count + 1 ≡ unanswered b conn from count)
        → (unanswered a conn from count + cond (is_answered a conn (from + count)) 0 1) + 1 ≡ unanswered b conn from count + cond (is_answered b conn (from + count)) 0 1
    by true is rest =
        let at : n ≡ from + count = eqb-true n (from + count) is in
        let new : ◌≡◌ {A = ℕ} (cond (is_answered a conn (from + count)) 0 1) 0 = ap (λ t. cond t 0 1) (answers (from + count) ∙ ap (λ e. e || is_answered b conn (from + count)) is) in
        let old : ◌≡◌ {A = ℕ} (cond (is_answered b conn (from + count)) 0 1) 1 = ap (λ t. cond t 0 1) (ap (is_answered b conn) (sym at) ∙ fresh) in
        let others : unanswered a conn from count ≡ unanswered b conn from count = outside a b conn n from count answers (inr (omega (arith, at))) in
        omega (arith, new, old, others)
    by false is rest =
        let differ : n ≢ from + count = λ e. absurd (fails (eq-eqb n (from + count) e)) in
        let same : ◌≡◌ {A = ℕ} (cond (is_answered a conn (from + count)) 0 1) (cond (is_answered b conn (from + count)) 0 1) =
        ap (λ t. cond t 0 1) (answers (from + count) ∙ ap (λ e. e || is_answered b conn (from + count)) is) in
        let lt : n < from + count = grind (arith, nat_tests, is, below, above) in
        let others : unanswered a conn from count + 1 ≡ unanswered b conn from count = rest lt in
        omega (arith, same, others)
      where
        fails : (n == from + count) ≡ true → ⊥
        fails holds = absurd (cc)

-- ---- which query a transaction names

-- the newest query with the transaction is one of the round's, which are `count` from number `from` on, or an earlier one
own_in : (first from count n t made : ℕ) → n < made → made ≤ n + 65536 → n % 65536 ≡ t → made ≡ from + count → (count ≡ 0) ⊎ (first ≡ from % 65536)
    → own first count t ≡ true → from ≤ n
own_in first from count n t made below near same all (inl none) holds =
    let lt : (t + (65536 - first)) % 65536 < count = grind (arith, nat_tests, holds) in omega arith
own_in first from count n t made below near same all (inr is) holds =
    let lt : (t + (65536 - first)) % 65536 < count = grind (arith, nat_tests, holds) in omega arith

own_out : (first from count n t made : ℕ) → n < made → made ≤ n + 65536 → n % 65536 ≡ t → made ≡ from + count → (count ≡ 0) ⊎ (first ≡ from % 65536)
    → own first count t ≡ false → n < from
own_out first from count n t made below near same all (inl none) fails = omega arith
own_out first from count n t made below near same all (inr is) fails =
    let ge : count ≤ (t + (65536 - first)) % 65536 = grind (arith, nat_tests, fails) in omega arith

-- ---- a frame

-- a unit that answers brings an arrival
arrives_normal : (table : Readings) (known : List PointRow) (q : Query) (unit : List ℕ) → (arrival : Arrival) × (normal_answer table known q unit ≡ answer.Arrived arrival)
arrives_normal table known (Reads q) unit = (Recorded (length (new_rows table (given_rows known q unit))), refl)
arrives_normal table known (Writes w) unit = (Settled, refl)

arrives : (table : Readings) (known : List PointRow) (q : Query) (unit : List ℕ) → (arrival : Arrival) × (unit_answer table known q unit ≡ answer.Arrived arrival)
arrives table known q unit = by (is_excepted q unit)
  where
    by : (b : Bool) → (arrival : Arrival) × (cond b (answer.Arrived (Excepted (exception_code unit))) (normal_answer table known q unit) ≡ answer.Arrived arrival)
    by true = (Excepted (exception_code unit), refl)
    by false = arrives_normal table known q unit

module _ (now : History) (conn : ℕ) (frame : Frame) (first from count waiting : ℕ) (told : EventAnswer)
    (waits : waiting ≡ unanswered now conn from count) (made : length (asked now conn) ≡ from + count)
    (first_is : (count ≡ 0) ⊎ (first ≡ from % 65536)) (answered : told ≡ answer_of now (arriving now conn frame)) where
  abbrev Waits : Type 0
  Waits = waiting_after first count waiting frame.transaction told ≡ unanswered (arriving now conn frame ∷ now) conn from count

  -- noise settles nothing
  by_noise : IsOther now conn frame → Waits
  by_noise other =
      let refused : told ≡ answer.Refused other.fault = answered ∙ ap (answer_of now) other.is ∙ other.told in
      ap (waiting_after first count waiting frame.transaction) refused ∙ waits ∙ sym (same_unanswered (Noise conn frame ∷ now) now conn from count (λ x. refl))
      ∙ ap (λ h. unanswered (h ∷ now) conn from count) (sym other.is)

  module _ (reply : IsReply now conn frame) where
    abbrev after_it : History
    after_it = Reply conn reply.number frame.unit ∷ now

    answers : Answers after_it now conn reply.number
    answers = λ x. answered_by now conn reply.number frame.unit reply.query x reply.query_is reply.fits_it

    to_it : told ≡ cond (is_answered now conn reply.number) (answer.Refused error.Repeat) (unit_answer (readings now) (points now) reply.query frame.unit)
    to_it = answered ∙ ap (answer_of now) reply.is ∙ reply_told now conn reply.number frame.unit reply.query reply.query_is reply.fits_it

    -- a repeat settles nothing
    by_repeat : is_answered now conn reply.number ≡ true → Waits
    by_repeat before =
        let refused : told ≡ answer.Refused error.Repeat = to_it ∙ ap (λ b. cond b (answer.Refused error.Repeat) (unit_answer (readings now) (points now) reply.query frame.unit)) before in
        ap (waiting_after first count waiting frame.transaction) refused ∙ waits ∙ sym (same_unanswered after_it now conn from count (λ x. answers x ∙ by x (reply.number == x) refl))
        ∙ ap (λ h. unanswered (h ∷ now) conn from count) (sym reply.is)
      where
        by : (x : ℕ) (b : Bool) → (reply.number == x) ≡ b → (b || is_answered now conn x) ≡ is_answered now conn x
        by x true is = sym before ∙ ap (is_answered now conn) (eqb-true reply.number x is)
        by x false is = refl

    -- a first reply settles its query, which is the round's own or not
    by_first : is_answered now conn reply.number ≡ false → Waits
    by_first fresh =
        let arrived = arrives (readings now) (points now) reply.query frame.unit in
        let is_arrival : told ≡ answer.Arrived arrived.0 =
        to_it ∙ ap (λ b. cond b (answer.Refused error.Repeat) (unit_answer (readings now) (points now) reply.query frame.unit)) fresh ∙ arrived.1 in
        ap (waiting_after first count waiting frame.transaction) is_arrival ∙ by (own first count frame.transaction) refl
        ∙ ap (λ h. unanswered (h ∷ now) conn from count) (sym reply.is)
      where
        by : (b : Bool) → own first count frame.transaction ≡ b → cond b (waiting - 1) waiting ≡ unanswered after_it conn from count
        by true holds =
            let (below, near, same) = numbered_is frame.transaction (length (asked now conn)) reply.number reply.numbered_so in
            let above = own_in first from count reply.number frame.transaction (length (asked now conn)) below near same made first_is holds in
            let one = inside after_it now conn reply.number from count answers above (omega (arith, below, made)) fresh in
            omega (arith, one, waits)
        by false fails =
            let (below, near, same) = numbered_is frame.transaction (length (asked now conn)) reply.number reply.numbered_so in
            let earlier = own_out first from count reply.number frame.transaction (length (asked now conn)) below near same made first_is fails in
            waits ∙ sym (outside after_it now conn reply.number from count answers (inl earlier))

    by_reply : (b : Bool) → is_answered now conn reply.number ≡ b → Waits
    by_reply true before = by_repeat before
    by_reply false fresh = by_first fresh

  -- so many queries wait after a frame
  pub waits_after : Waits
  waits_after = ⊎_elim (λ (reply : IsReply now conn frame). by_reply reply (is_answered now conn reply.number) refl) by_noise (sorted now conn frame)
