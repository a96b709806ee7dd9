-- How far reads from a first place on get.
use Rattle.std.proofs.Common.{◌≡◌, ◌∙◌, ◌≤◌, ◌<◌, ◌+◌, ◌-◌, max, ℕ, List, [], ◌∷◌, ◌++◌, length, get_or, take, drop, arith, refl, sym, subst, ◌⊎◌, inl, inr}
use Rattle.std.specs.Prelude.{All, Any, Contains}
use Rattle.std.proofs.lemmas.Bool.Decides.{leb_tells}
use Rattle.std.proofs.lemmas.List.{drop_more, take_more, take-append-drop}
use Rattle.std.proofs.lemmas.List.Elements.{All-contains, All-push, All-weaker, Contains-append_left, Contains-append_right, Contains-append_cases}
use Rattle.read_planner.specs.declared.place.Place.{Place}
use Rattle.read_planner.specs.Place.{Occupies}
use Rattle.read_planner.specs.Allowed.{IsBridged}
use Rattle.read_planner.specs.Chosen.{IsUpTo}
use Rattle.read_planner.specs.Walk.{AreInOrder, IsPlace, bound_of, IsReached, IsBeyond, Reaches, IsReadEnd}
use Rattle.read_planner.proofs.Members.{cons_cases, first_in, later_in, any_in, any_moved, any_first, all_in}
use Rattle.read_planner.proofs.Orders.{later_up}

-- so far the first place and those seen are bridged, and all of those are reached
pub record IsSeen (first : Place) (seen : List Place) (gap reach end : ℕ) : Type 0 where
  pub reaches : Reaches first seen gap reach end
  pub all : All (IsReached first reach end) seen

-- the last end in time once a place is seen
abbrev pub IsNewEnd : Place → Place → ℕ → ℕ → Type 0
IsNewEnd first place end new = ((bound_of first < place.end) × (new ≡ end)) ⊎ ((place.end ≤ bound_of first) × (new ≡ max end place.end))

-- among more places
pub more_bridged : (xs ys : List Place) (gap function address : ℕ) → ((x : Place) → Contains xs x → Contains ys x) → IsBridged xs gap function address → IsBridged ys gap function address
more_bridged xs ys gap function address move (step, few, taken) =
    let at = λ (place : Place). Occupies place function (address + step) in
    (step, few, any_moved at at xs ys (λ x c o. (move x c, o)) taken)

-- what was seen stays seen
kept : (first : Place) (seen more : List Place) (x : Place) → Contains (first ∷ seen) x → Contains (first ∷ (seen ++ more)) x
kept first seen more x c = elim (cons_cases first seen x c) [
  | inl is ↦ subst (λ (y : Place). Contains (first ∷ (seen ++ more)) y) is (first_in first (seen ++ more))
  | inr there ↦ later_in first (seen ++ more) x (Contains-append_left seen more x there)
]

-- and a new place is seen
new_in : (first : Place) (seen : List Place) (place : Place) → Contains (first ∷ (seen ++ place ∷ [])) place
new_in first seen place = later_in first (seen ++ place ∷ []) place (Contains-append_right seen (place ∷ []) place (first_in place []))

-- before the loop the first place alone is seen
pub seen_first : (first : Place) (gap : ℕ) → IsPlace first → IsSeen first [] gap first.end first.end
seen_first first gap is = record {
  reaches = record {
    first_end = omega arith;
    inside = is.inside;
    within = omega arith;
    fits = omega (arith, is.fits, is.inside);
    bridged = λ address from below. (0, omega arith, any_first (λ (place : Place). Occupies place first.function (address + 0)) first [] (record { table = refl; from = omega arith; below = omega arith }));
    last = any_first (λ (place : Place). (place.function ≡ first.function) × (place.end ≡ first.end)) first [] (refl, refl);
    first_in = omega arith;
  };
  all = λ k d lt. absurd (omega arith);
}

-- a place that is near enough bridges the gap before it
bridged_more : (first : Place) (seen : List Place) (gap reach end : ℕ) (place : Place) → Reaches first seen gap reach end → place.function ≡ first.function
    → place.start < place.end → place.start ≤ reach + gap
    → (address : ℕ) → first.start ≤ address → address < max reach place.end → IsBridged (first ∷ (seen ++ place ∷ [])) gap first.function address
bridged_more first seen gap reach end place r function some near address from below =
    elim (leb_tells reach address) [
      | inl (e, le) ↦ (
        place.start - address,
        omega arith,
        any_in (λ (x : Place). Occupies x first.function (address + (place.start - address))) (first ∷ (seen ++ place ∷ [])) place (new_in first seen place)
            (record { table = function; from = omega arith; below = omega arith }),
      )
      | inr (e, lt) ↦ more_bridged (first ∷ seen) (first ∷ (seen ++ place ∷ [])) gap first.function address (kept first seen (place ∷ [])) (r.bridged address from lt)
    ]

-- and it may be the last to end in time
last_more : (first : Place) (seen : List Place) (end : ℕ) (place : Place) (new : ℕ) → place.function ≡ first.function → IsNewEnd first place end new
    → Any (λ (x : Place). (x.function ≡ first.function) × (x.end ≡ end)) (first ∷ seen)
    → Any (λ (x : Place). (x.function ≡ first.function) × (x.end ≡ new)) (first ∷ (seen ++ place ∷ []))
last_more first seen end place new function is last =
    let P = λ (n : ℕ) (x : Place). (x.function ≡ first.function) × (x.end ≡ n) in
    let old = λ (same : end ≡ new). any_moved (P end) (P new) (first ∷ seen) (first ∷ (seen ++ place ∷ [])) (λ x c (f, e). (kept first seen (place ∷ []) x c, (f, e ∙ same))) last in
    elim is [
      | inl (late, same) ↦ old (sym same)
      | inr (in_time, greater) ↦ elim (leb_tells place.end end) [
        | inl (e, le) ↦ old (omega arith)
        | inr (e, lt) ↦ any_in (P new) (first ∷ (seen ++ place ∷ [])) place (new_in first seen place) (function, omega arith)
      ]
    ]

-- the last end grows, and not past the bound
new_end : (first place : Place) (end new : ℕ) → IsNewEnd first place end new → (end ≤ new) × (place.end ≤ bound_of first → place.end ≤ new) × (end ≤ bound_of first → new ≤ bound_of first) × (new ≤ max end place.end)
new_end first place end new (inl (late, same)) = (omega arith, (λ in_time. absurd (omega arith)), (λ fits. omega arith), omega arith)
new_end first place end new (inr (in_time, same)) = (omega arith, (λ _. omega arith), (λ fits. omega arith), omega arith)

-- one place more, of the same function and near enough
pub seen_more : (first : Place) (seen : List Place) (gap reach end : ℕ) (place : Place) (new : ℕ) → IsSeen first seen gap reach end → IsPlace place
    → place.function ≡ first.function → place.start ≤ reach + gap → IsNewEnd first place end new
    → IsSeen first (seen ++ place ∷ []) gap (max reach place.end) new
seen_more first seen gap reach end place new s is function near n =
    let r = s.reaches in
    let e = new_end first place end new n in
    record {
      reaches = record {
        first_end = omega (arith, r.first_end);
        inside = omega (arith, r.inside, is.inside);
        within = omega (arith, r.within, e.3);
        fits = e.2 r.fits;
        bridged = bridged_more first seen gap reach end place r function is.some near;
        last = last_more first seen end place new function n r.last;
        first_in = omega (arith, r.first_in, e.0);
      };
      all = All-push (IsReached first (max reach place.end) new) seen place
          (All-weaker (IsReached first reach end) (IsReached first (max reach place.end) new)
          (λ x was. record { function = was.function; reached = omega (arith, was.reached); in_time = λ soon. omega (arith, was.in_time soon, e.0) }) seen s.all)
          (record { function = function; reached = omega arith; in_time = e.1 });
    }

-- what comes after a place that is out of reach is out of reach
beyond_up : (first place other : Place) (gap reach : ℕ) → first.function ≤ place.function → IsUpTo place other → IsBeyond first gap reach place → IsBeyond first gap reach other
beyond_up first place other gap reach le (inl less) beyond = inl (omega arith)
beyond_up first place other gap reach le (inr (same, later)) (inl less) = inl (omega arith)
beyond_up first place other gap reach le (inr (same, later)) (inr (inl late)) = inr (inl (omega arith))
beyond_up first place other gap reach le (inr (same, later)) (inr (inr far)) = inr (inr (omega arith))

-- what comes later has no lesser function
function_up : (one other : Place) → IsUpTo one other → one.function ≤ other.function
function_up one other (inl less) = omega arith
function_up one other (inr (same, later)) = omega arith

-- where nothing is left, or the next place is out of reach, the read ends there
stopped : (first : Place) (seen rest : List Place) (gap reach end : ℕ) → IsSeen first seen gap reach end → All (IsBeyond first gap reach) rest → IsReadEnd first (seen ++ rest) gap end
stopped first seen rest gap reach end s beyond =
    let r = s.reaches in
    record {
      reach = reach;
      reaches = record {
        first_end = r.first_end;
        inside = r.inside;
        within = r.within;
        fits = r.fits;
        bridged = λ address from below. more_bridged (first ∷ seen) (first ∷ (seen ++ rest)) gap first.function address (kept first seen rest) (r.bridged address from below);
        last = let P = λ (x : Place). (x.function ≡ first.function) × (x.end ≡ end) in any_moved P P (first ∷ seen) (first ∷ (seen ++ rest)) (λ x c p. (kept first seen rest x c, p)) r.last;
        first_in = r.first_in;
      };
      sorted = all_in (λ place. IsReached first reach end place ⊎ IsBeyond first gap reach place) (seen ++ rest) (λ x c. elim (Contains-append_cases seen rest x c) [
        | inl here ↦ inl (All-contains (IsReached first reach end) seen x s.all here)
        | inr there ↦ inr (All-contains (IsBeyond first gap reach) rest x beyond there)
      ]);
    }

-- where all places are reached, the read ends there
pub ends_after_all : (first : Place) (places : List Place) (gap reach end : ℕ) → IsSeen first places gap reach end → IsReadEnd first places gap end
ends_after_all first places gap reach end s =
    let none : All (IsBeyond first gap reach) [] = λ k d lt. absurd (omega arith) in
    record {
      reach = reach;
      reaches = s.reaches;
      sorted = all_in (λ place. IsReached first reach end place ⊎ IsBeyond first gap reach place) places (λ x c. inl (All-contains (IsReached first reach end) places x s.all c));
    }

-- where a place is out of reach, so are those behind it, and the read ends there
pub ends_before : (first : Place) (places : List Place) (gap reach end i : ℕ) (d : Place) → IsSeen first (take i places) gap reach end → AreInOrder (first ∷ places)
    → i < length places → IsBeyond first gap reach (get_or places i d) → IsReadEnd first places gap end
ends_before first places gap reach end i d s order lt beyond =
    let place = get_or places i d in
    let up : IsUpTo first place = order.0 i d lt in
    let later : All (IsBeyond first gap reach) (drop i places) = subst (All (IsBeyond first gap reach)) (sym (drop_more places i d lt))
    (all_in (IsBeyond first gap reach) (place ∷ drop (i + 1) places) (λ x c. elim (cons_cases place (drop (i + 1) places) x c) [
      | inl same ↦ subst (IsBeyond first gap reach) same beyond
      | inr there ↦ beyond_up first place x gap reach (function_up first place up) (later_up places i d x order.1 lt there) beyond
    ])) in
    subst (λ (xs : List Place). IsReadEnd first xs gap end) (take-append-drop i places) (stopped first (take i places) (drop i places) gap reach end s later)

-- a place of another function that comes later
pub of_another : (first : Place) (places : List Place) (gap reach i : ℕ) (d : Place) → AreInOrder (first ∷ places) → i < length places
    → ((get_or places i d).function ≡ first.function → ⊥) → IsBeyond first gap reach (get_or places i d)
of_another first places gap reach i d order lt other = elim (order.0 i d lt) [ inl less ↦ inl less | inr (same, later) ↦ absurd (other (sym same)) ]

-- the loop's step
pub seen_at : (first : Place) (places : List Place) (gap reach end i : ℕ) (d : Place) (further new : ℕ) → IsSeen first (take i places) gap reach end → All IsPlace places
    → i < length places → (get_or places i d).function ≡ first.function → (get_or places i d).start ≤ reach + gap → IsNewEnd first (get_or places i d) end new
    → further ≡ max reach (get_or places i d).end → IsSeen first (take (i + 1) places) gap further new
seen_at first places gap reach end i d further new s each lt function near n is =
    let place = get_or places i d in
    let more = seen_more first (take i places) gap reach end place new s (each i d lt) function near n in
    subst (λ far. IsSeen first (take (i + 1) places) gap far new) (sym is)
    (subst (λ (xs : List Place). IsSeen first xs gap (max reach place.end) new) (sym (take_more places i d lt)) more)
