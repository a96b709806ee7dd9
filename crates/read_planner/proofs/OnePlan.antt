-- The chosen reads that hold all points are one list.
use Rattle.std.proofs.Common.{◌≡◌, ◌∙◌, ◌≤◌, ℕ, List, [], ◌∷◌, ◌++◌, arith, refl, sym, ap, subst, append-nil, append_assoc, inl, inr}
use Rattle.std.proofs.lemmas.List.Elements.{All-contains}
use Rattle.read_planner.specs.declared.Read.{Read}
use Rattle.read_planner.specs.declared.place.Place.{Place}
use Rattle.read_planner.specs.Read.{end_of}
use Rattle.read_planner.specs.Allowed.{HoldsWhole, IsHeld, HoldsAll}
use Rattle.read_planner.specs.Chosen.{IsUpTo, IsLastEnd, IsNext, AreNext}

-- neither of two places begins sooner than the other
both_up : (one other : Place) → IsUpTo one other → IsUpTo other one → (one.function ≡ other.function) × (one.start ≡ other.start)
both_up one other (inl less) (inl more) = absurd (omega arith)
both_up one other (inl less) (inr (same, up)) = absurd (omega arith)
both_up one other (inr (same, up)) (inl more) = absurd (omega arith)
both_up one other (inr (same, up)) (inr (also, down)) = (same, omega arith)

-- what lies in a read lies in a longer one from there
lies_in : (read longer : Read) (place : Place) → longer.function ≡ read.function → longer.span.start ≡ read.span.start → read.span.quantity ≤ longer.span.quantity → HoldsWhole read place → HoldsWhole longer place
lies_in read longer place function start le whole = record {
  function = function ∙ whole.function;
  start = omega (arith, start, whole.start);
  end = omega (arith, start, le, whole.end);
}

-- the one ends no later than the other
ends_up : (places : List Place) (longest longer : Read) (one other : ℕ) → longer.function ≡ longest.function → longer.span.start ≡ longest.span.start → longest.span.quantity ≤ longer.span.quantity
    → IsLastEnd places longest one → IsLastEnd places longer other → one ≤ other
ends_up places longest longer one other function start le last later =
    let (k, place, lt, is, (whole, same)) = last.some in
    let below = All-contains (λ (x : Place). HoldsWhole longer x → x.end ≤ other) places place later.greatest (k, lt, is) (lies_in longest longer place function start le whole) in
    omega (arith, below, same)

-- reads of one function, start and end are one
same_read : (one other : Read) → one.function ≡ other.function → one.span.start ≡ other.span.start → end_of one ≡ end_of other → one ≡ other
same_read one other function start end =
    let quantity : one.span.quantity ≡ other.span.quantity = omega (arith, start, end) in
    ap (λ f. let r : Read = record { function = f; span = one.span } in r) function
    ∙ ap (λ s. let r : Read = record { function = other.function; span = record { start = s; quantity = one.span.quantity } } in r) start
    ∙ ap (λ q. let r : Read = record { function = other.function; span = record { start = other.span.start; quantity = q } } in r) quantity

-- one next read
one_next : (places : List Place) (gap : ℕ) (earlier : List Read) (one other : Read) → IsNext places gap earlier one → IsNext places gap earlier other → one ≡ other
one_next places gap earlier one other a b =
    let same = both_up a.first b.first (a.begins.least b.first b.begins.among b.begins.left) (b.begins.least a.first a.begins.among a.begins.left) in
    let function : a.longest.function ≡ b.longest.function = a.function.1 ∙ same.0 ∙ sym b.function.1 in
    let start : a.longest.span.start ≡ b.longest.span.start = a.start.1 ∙ same.1 ∙ sym b.start.1 in
    let shorter = b.is_longest.greatest a.longest a.is_longest.allowed function start in
    let longer = a.is_longest.greatest b.longest b.is_longest.allowed (sym function) (sym start) in
    let up = ends_up places a.longest b.longest (end_of one) (end_of other) (sym function) (sym start) shorter a.ends b.ends in
    let down = ends_up places b.longest a.longest (end_of other) (end_of one) function start longer b.ends a.ends in
    same_read one other (a.function.0 ∙ same.0 ∙ sym b.function.0) (a.start.0 ∙ same.1 ∙ sym b.start.0) (omega (arith, up, down))

-- where these hold all points, no read is next
none_next : (places : List Place) (gap : ℕ) (earlier : List Read) (read : Read) → HoldsAll (earlier ++ []) places → IsNext places gap earlier read → ⊥
none_next places gap earlier read holds next =
    next.begins.left (subst (λ (reads : List Read). IsHeld reads next.first) (append-nil earlier) (All-contains (IsHeld (earlier ++ [])) places next.first holds next.begins.among))

-- so two lists of next reads after the same reads are one list
pub one_plan : (places : List Place) (gap : ℕ) (earlier reads others : List Read) → AreNext places gap earlier reads → HoldsAll (earlier ++ reads) places
    → AreNext places gap earlier others → HoldsAll (earlier ++ others) places → reads ≡ others
one_plan places gap earlier [] [] chosen holds also whole = refl
one_plan places gap earlier [] (other ∷ others) chosen holds (next, also) whole = absurd (none_next places gap earlier other holds next)
one_plan places gap earlier (read ∷ reads) [] (next, chosen) holds also whole = absurd (none_next places gap earlier read whole next)
one_plan places gap earlier (read ∷ reads) (other ∷ others) (next, chosen) holds (after, also) whole =
    let same = one_next places gap earlier read other next after in
    let moved = subst (λ (r : Read). AreNext places gap (earlier ++ r ∷ []) others) (sym same) also in
    let rest = one_plan places gap (earlier ++ read ∷ []) reads others chosen
    (subst (λ (xs : List Read). HoldsAll xs places) (sym (append_assoc earlier (read ∷ []) reads)) holds)
    moved
    (subst (λ (xs : List Read). HoldsAll xs places) (sym (append_assoc earlier (read ∷ []) others)) (subst (λ (r : Read). HoldsAll (earlier ++ r ∷ others) places) (sym same) whole)) in
    ap (λ r. r ∷ reads) same ∙ ap (λ (rs : List Read). other ∷ rs) rest
