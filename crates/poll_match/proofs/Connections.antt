-- What contracts see of a connection, after a query more and after one settled.
use Rattle.std.proofs.Common.{◌≡◌, ◌<◌, ◌+◌, ◌-◌, ℕ, zero, suc, Bool, List, [], ◌∷◌, ◌++◌, length, get_or, set, Some, None, refl, sym, ap, ◌∙◌, arith, length-append, true, false}
use Rattle.std.specs.Prelude.{slice_get}
use Rattle.std.proofs.lemmas.Bool.{and_parts, and_from}
use Rattle.std.specs.List.{list_all}
use Rattle.poll_match.specs.Queries.{is_valid}
use Rattle.poll_match.specs.declared.asked.Asked.{Asked}
use Rattle.poll_match.specs.declared.asked.Matched.{Matched}
use Rattle.poll_match.specs.Window.{Open, last_of, settled_at, with_next, with_settled}
use Rattle.poll_match.proofs.Valid.{slice_get-within}
use Rattle.poll_match.proofs.Windows.{last_of-push, settled_set}

abbrev seen : ℕ → ℕ → List Matched → Open
seen conn line queries = record { number = conn; line = line; made = length queries; last = last_of queries }

-- a connection by what is kept of it
abbrev with_last : ℕ → ℕ → ℕ → List Matched → Open
with_last conn line made queries = record { number = conn; line = line; made = made; last = queries }

pub seen-push : (conn line : ℕ) (queries : List Matched) (asked : Asked) → seen conn line (queries ++ record { asked = asked; settled = false } ∷ []) ≡ with_next asked (seen conn line queries)
seen-push conn line queries asked =
    let m : Matched = record { asked = asked; settled = false } in
    let made : length (queries ++ m ∷ []) ≡ length queries + 1 = omega (arith, length-append queries (m ∷ [])) in
    let last = sym (last_of-push queries m) in
    λ i. record { number = conn; line = line; made = made i; last = last i }

-- a query of the ring, as it is read there
pub ring_item : (queries : List Matched) (place : ℕ) (query : Matched) → Some query ≡ slice_get queries place → query ≡ get_or queries place query
ring_item queries place query at = sym (slice_get-within queries place query query (sym at))

-- a place of the ring holds a query
pub ring_holds : (queries : List Matched) (place : ℕ) → place < length queries → None ≡ slice_get queries place → ⊥
ring_holds [] place lt at = omega arith
ring_holds (q ∷ qs) zero lt at = cc
ring_holds (q ∷ qs) (suc place) lt at = ring_holds qs place (omega arith) at

-- the connection with a query of its ring answered
pub ring-settled : (conn line made number place : ℕ) (queries : List Matched) (query : Matched) → place ≡ number - (made - 65536) → place < length queries → query ≡ get_or queries place query
    → with_last conn line made (set queries place (record { asked = query.asked; settled = true })) ≡ with_settled number (with_last conn line made queries)
ring-settled conn line made number place queries query is lt at =
    ap (with_last conn line made) (settled_set place queries query lt at ∙ ap (λ n. settled_at n queries) is)

abbrev are_valid : List Matched → Bool
are_valid queries = list_all (λ (query : Matched). is_valid query.asked) queries

pub valid-push : (queries : List Matched) (m : Matched) → are_valid queries ≡ true → is_valid m.asked ≡ true → are_valid (queries ++ m ∷ []) ≡ true
valid-push [] m all one = and_from _ _ one refl
valid-push (q ∷ qs) m all one =
    let p = and_parts _ _ all in
    and_from _ _ p.0 (valid-push qs m p.1 one)

pub valid-settled : (number : ℕ) (queries : List Matched) (query : Matched) → number < length queries → query ≡ get_or queries number query → are_valid queries ≡ true
    → are_valid (set queries number (record { asked = query.asked; settled = true })) ≡ true
valid-settled number [] query lt at all = absurd (omega arith)
valid-settled zero (q ∷ qs) query lt at all =
    let p = and_parts _ _ all in
    and_from _ _ (ap (λ (m : Matched). is_valid m.asked) at ∙ p.0) p.1
valid-settled (suc number) (q ∷ qs) query lt at all =
    let p = and_parts _ _ all in
    and_from _ _ p.0 (valid-settled number qs query (omega arith) at p.1)
