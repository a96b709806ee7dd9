-- The walk over places in order: its beginning, a step and its end.
use Rattle.std.proofs.Common.{◌≡◌, ◌∙◌, ◌≤◌, ◌<◌, ◌+◌, ◌-◌, ℕ, true, false, List, [], ◌∷◌, ◌++◌, length, get_or, take, drop, arith, refl, sym, ap, subst, append_assoc, ◌⊎◌, inl, inr, eqb}
use Rattle.std.specs.Prelude.{All, Contains, nat_le}
use Rattle.std.specs.List.{prefix_len}
use Rattle.std.proofs.lemmas.Bool.{and_parts, eqb-true, leb-true, leb-false, eqb-false, and_cases}
use Rattle.std.proofs.lemmas.List.{take-append-drop, get_or-take, get_or-drop, length-take, length-drop, append-nil}
use Rattle.std.proofs.Math.Seq.{take-length}
use Rattle.std.proofs.lemmas.List.Sums.{prefix_len_passes, prefix_len_stops}
use Rattle.std.proofs.lemmas.List.Elements.{All-contains, All-push, All-weaker, All-append, All-cons, All-head, All-tail, Contains-append_right, Contains-append_cases}
use Rattle.std.proofs.lemmas.List.Quantifiers.{Any-push}
use Rattle.read_planner.specs.declared.Read.{Read}
use Rattle.read_planner.specs.declared.place.Place.{Place}
use Rattle.read_planner.specs.Read.{end_of}
use Rattle.read_planner.specs.Allowed.{IsAllowed, HoldsWhole, IsHeld}
use Rattle.read_planner.specs.Chosen.{IsUpTo, IsNext, AreNext}
use Rattle.read_planner.specs.Walk.{AreInOrder, IsPlace, IsPlan, ends_by, IsReadEnd}
use Rattle.read_planner.proofs.Members.{all_in, any_append}
use Rattle.read_planner.proofs.Cutting.{read_between}
use Rattle.read_planner.proofs.Orders.{order_append}
use Rattle.read_planner.proofs.Walking.{EndsBefore, ArePast, IsWalked, IsAt, first_place, longest_allowed, next_read}

-- before the walk there are no reads
pub walked_none : (places : List Place) (gap : ℕ) → IsWalked places gap [] places
walked_none places gap = record {
  front = [];
  split = refl;
  held = λ k d lt. absurd (omega arith);
  past = past_none places;
  allowed = λ k d lt. absurd (omega arith);
  chosen = tt;
}
  where
    past_none : (rest : List Place) → ArePast [] rest
    past_none [] = tt
    past_none (first ∷ rest) = λ k d lt. absurd (omega arith)

-- where no place is left, the reads are a plan
pub walked_all : (places : List Place) (gap : ℕ) (reads : List Read) → IsWalked places gap reads [] → IsPlan places gap reads
walked_all places gap reads w = record {
  allowed = w.allowed;
  whole = all_in (IsHeld reads) places (λ x c. elim (Contains-append_cases w.front [] x (subst (λ (xs : List Place). Contains xs x) w.split c)) [
    | inl here ↦ All-contains (IsHeld reads) w.front x w.held here
    | inr (k, lt, is) ↦ absurd (omega arith)
  ]);
  chosen = w.chosen;
}

-- one read more is chosen
next_chosen : (places : List Place) (gap : ℕ) (earlier later : List Read) (read : Read) → AreNext places gap earlier later → IsNext places gap (earlier ++ later) read
    → AreNext places gap earlier (later ++ read ∷ [])
next_chosen places gap earlier [] read chosen next = (subst (λ (reads : List Read). IsNext places gap reads read) (append-nil earlier) next, tt)
next_chosen places gap earlier (one ∷ later) read (is, chosen) next =
    (is, next_chosen places gap (earlier ++ one ∷ []) later read chosen (subst (λ (reads : List Read). IsNext places gap reads read) (sym (append_assoc earlier (one ∷ []) later)) next))

-- the walk stands at the first of the places that are left
at : (places : List Place) (gap : ℕ) (reads : List Read) (first : Place) (others : List Place) (end : ℕ)
    → IsWalked places gap reads (first ∷ others) → All IsPlace places → AreInOrder places → IsReadEnd first others gap end
    → IsAt places gap reads first others end
at places gap reads first others end w each order ends = record {
  front = w.front;
  split = w.split;
  held = w.held;
  past = w.past;
  order = (order_append w.front (first ∷ others) (subst AreInOrder w.split order)).0;
  each = each;
  ends = ends;
}

-- a place that follows the first and passes the test lies whole in the read
whole_by : (first : Place) (end : ℕ) (read : Read) (place : Place) → read.function ≡ first.function → read.span.start ≡ first.start → end_of read ≡ end
    → IsUpTo first place → ends_by first.function end place ≡ true → HoldsWhole read place
whole_by first end read place function start ends up by =
    let parts = and_parts (eqb place.function first.function) (nat_le place.end end) by in
    let same = eqb-true place.function first.function parts.0 in
    let sooner = leb-true place.end end parts.1 in
    record {
      function = function ∙ sym same;
      start = elim up [ inl less ↦ absurd (omega arith) | inr (also, later) ↦ omega (arith, start) ];
      end = omega (arith, ends);
    }

-- with the next read the first place is held, and each that follows and passes the test
held_more : (first : Place) (others : List Place) (front : List Place) (reads : List Read) (end : ℕ) (read : Read)
    → read.function ≡ first.function → read.span.start ≡ first.start → end_of read ≡ end → first.end ≤ end → All (IsUpTo first) others → All (IsHeld reads) front
    → All (IsHeld (reads ++ read ∷ [])) (front ++ first ∷ take (prefix_len (ends_by first.function end) others) others)
held_more first others front reads end read function start ends le order held =
    let test = ends_by first.function end in
    let n = prefix_len test others in
    let more = λ (place : Place). IsHeld (reads ++ read ∷ []) place in
    let new = λ (place : Place) (whole : HoldsWhole read place). Any-push (λ (r : Read). HoldsWhole r place) reads read whole in
    All-append more front (first ∷ take n others)
    (All-weaker (IsHeld reads) more (λ x was. any_append (λ (r : Read). HoldsWhole r x) reads (read ∷ []) was) front held)
    (All-cons more first (take n others) (new first (record { function = function; start = omega (arith, start); end = omega (arith, ends) }))
    (λ k d lt.
    let few : k < n = omega (arith, length-take n others) in
    let within : k < length others = omega (arith, length-take n others) in
    let same = get_or-take n others k d few in
    subst more (sym same) (new (get_or others k d)
    (whole_by first end read (get_or others k d) function start ends (order k d within) (prefix_len_passes test others k d few)))))

-- the next place is behind the read
abbrev IsAhead : Place → Place → ℕ → Type 0
IsAhead first next end = (first.function < next.function) ⊎ ((first.function ≡ next.function) × (end < next.end))

-- a place that fails the test is behind the read
ahead : (first : Place) (end : ℕ) (next : Place) → IsUpTo first next → ends_by first.function end next ≡ false → IsAhead first next end
ahead first end next (inl less) stops = inl less
ahead first end next (inr (same, later)) stops = inr (
  same,
  elim (and_cases (eqb next.function first.function) (nat_le next.end end) stops) [
    | inl other ↦ absurd (eqb-false next.function first.function other (sym same))
    | inr late ↦ leb-false next.end end late
  ],
)

-- the earlier reads end before it
still_before : (first next : Place) (end : ℕ) (read : Read) → first.end ≤ end → EndsBefore first read → IsAhead first next end → EndsBefore next read
still_before first next end read le (inl less) (inl more) = inl (omega arith)
still_before first next end read le (inl less) (inr (same, later)) = inl (omega arith)
still_before first next end read le (inr (also, sooner)) (inl more) = inl (omega arith)
still_before first next end read le (inr (also, sooner)) (inr (same, later)) = inr (also ∙ same, omega arith)

-- and so does the next read
ends_sooner : (first next : Place) (end : ℕ) (read : Read) → read.function ≡ first.function → end_of read ≡ end → IsAhead first next end → EndsBefore next read
ends_sooner first next end read function ends (inl more) = inl (omega arith)
ends_sooner first next end read function ends (inr (same, later)) = inr (function ∙ same, omega (arith, ends))

-- what is dropped up to a place begins with it
head_at : (xs : List Place) (n : ℕ) (x : Place) (ys : List Place) → drop n xs ≡ x ∷ ys → get_or xs n x ≡ x
head_at xs n x ys is =
    let zero_more : n + 0 ≡ n = omega arith in
    subst (λ k. get_or xs k x ≡ x) zero_more (sym (get_or-drop n xs 0 x) ∙ ap (λ (zs : List Place). get_or zs 0 x) is)

-- what is left ends behind the reads
past_more : (first : Place) (others rest : List Place) (reads : List Read) (end : ℕ) (read : Read)
    → read.function ≡ first.function → end_of read ≡ end → first.end ≤ end → All (IsUpTo first) others → All (EndsBefore first) reads
    → drop (prefix_len (ends_by first.function end) others) others ≡ rest → ArePast (reads ++ read ∷ []) rest
past_more first others [] reads end read function ends le order past is = tt
past_more first others (next ∷ rest) reads end read function ends le order past is =
    let test = ends_by first.function end in
    let n = prefix_len test others in
    let count = ap length is in
    let within : n < length others = omega (arith, count, length-drop n others) in
    let first_is = head_at others n next rest is in
    let up = subst (IsUpTo first) first_is (order n next within) in
    let behind = ahead first end next up (subst (λ (x : Place). test x ≡ false) first_is (prefix_len_stops test others next within)) in
    All-push (EndsBefore next) reads read
    (All-weaker (EndsBefore first) (EndsBefore next) (λ e was. still_before first next end e le was behind) reads past)
    (ends_sooner first next end read function ends behind)

-- one read more
pub walked_more : (places : List Place) (gap : ℕ) (reads : List Read) (first : Place) (others : List Place) (end : ℕ) (read : Read)
    → IsWalked places gap reads (first ∷ others) → All IsPlace places → AreInOrder places → IsReadEnd first others gap end
    → read.function ≡ first.function → read.span.start ≡ first.start → end_of read ≡ end
    → IsWalked places gap (reads ++ read ∷ []) (drop (prefix_len (ends_by first.function end) others) others)
walked_more places gap reads first others end read w each order ends function start last =
    let here = at places gap reads first others end w each order ends in
    let test = ends_by first.function end in
    let n = prefix_len test others in
    let r = ends.reaches in
    let first_in = r.first_in in
    let fits = r.fits in
    let within = r.within in
    let some = (first_place places gap reads first others end here).some in
    let quantity : read.span.quantity ≡ end - first.start = omega (arith, start, last) in
    let same : read_between first.function first.start end ≡ read = read_is read first.function first.start end function start quantity in
    record {
      front = w.front ++ first ∷ take n others;
      split = w.split ∙ ap (λ (xs : List Place). w.front ++ first ∷ xs) (sym (take-append-drop n others)) ∙ sym (append_assoc w.front (first ∷ take n others) (drop n others));
      held = held_more first others w.front reads end read function start last first_in here.order w.held;
      past = past_more first others (drop n others) reads end read function last first_in here.order w.past refl;
      allowed = All-push (IsAllowed places gap) reads read w.allowed
          (subst (IsAllowed places gap) same (longest_allowed places gap reads first others end here end (omega arith) (omega arith)));
      chosen = next_chosen places gap [] reads read w.chosen (next_read places gap reads first others end here read function start last);
    }
  where
    spanned : (read : Read) (start end : ℕ) → read.span.quantity ≡ end - start → read.span.start ≡ start → read_between read.function read.span.start end ≡ read
    spanned read start end q s = ap (λ n. let r : Read = record { function = read.function; span = record { start = read.span.start; quantity = n } } in r) (ap (λ n. end - n) s ∙ sym q)

    read_is : (read : Read) (function start end : ℕ) → read.function ≡ function → read.span.start ≡ start → read.span.quantity ≡ end - start → read_between function start end ≡ read
    read_is read function start end f s q =
        ap (λ n. read_between n start end) (sym f)
        ∙ ap (λ n. read_between read.function n end) (sym s) ∙ spanned read start end q s

-- the places that are left are places, in order
pub rest_places : (places : List Place) (gap : ℕ) (reads : List Read) (rest : List Place) (first : Place) (others : List Place) → IsWalked places gap reads rest → rest ≡ first ∷ others
    → All IsPlace places → IsPlace first × All IsPlace others
rest_places places gap reads rest first others w is each =
    let all = all_in IsPlace rest (λ x c. All-contains IsPlace places x each (subst (λ (xs : List Place). Contains xs x) (sym w.split) (Contains-append_right w.front rest x c))) in
    let both = subst (All IsPlace) is all in
    (All-head IsPlace first others both, All-tail IsPlace first others both)

pub rest_order : (places : List Place) (gap : ℕ) (reads : List Read) (rest : List Place) → IsWalked places gap reads rest → AreInOrder places → AreInOrder rest
rest_order places gap reads rest w order = order_append w.front rest (subst AreInOrder w.split order)

-- the loop's step
pub walked_on : (places : List Place) (gap : ℕ) (reads new : List Read) (rest : List Place) (first : Place) (others : List Place) (end : ℕ) (read : Read) (count : ℕ)
    → IsWalked places gap reads rest → rest ≡ first ∷ others → All IsPlace places → AreInOrder places → IsReadEnd first others gap end
    → read.function ≡ first.function → read.span.start ≡ first.start → first.start + read.span.quantity ≡ end
    → new ≡ reads ++ read ∷ [] → count ≡ prefix_len (ends_by first.function end) others
    → IsWalked places gap new (take (length others - count) (drop count others))
walked_on places gap reads new rest first others end read count w is each order ends function start last pushed counted =
    let n = prefix_len (ends_by first.function end) others in
    let more = walked_more places gap reads first others end read (subst (IsWalked places gap reads) is w) each order ends function start (omega (arith, start, last)) in
    let whole : take (length others - n) (drop n others) ≡ drop n others = subst (λ k. take k (drop n others) ≡ drop n others) (length-drop n others) (take-length (drop n others)) in
    subst (λ k. IsWalked places gap new (take (length others - k) (drop k others))) (sym counted)
    (subst (λ (xs : List Read). IsWalked places gap xs (take (length others - n) (drop n others))) (sym pushed)
    (subst (IsWalked places gap (reads ++ read ∷ [])) (sym whole) more))

-- the walk ends with a plan
pub walked_out : (places : List Place) (gap : ℕ) (reads : List Read) (rest : List Place) → IsWalked places gap reads rest → length rest ≡ 0 → IsPlan places gap reads
walked_out places gap reads [] w none = walked_all places gap reads w
walked_out places gap reads (first ∷ rest) w none = absurd (omega arith)
