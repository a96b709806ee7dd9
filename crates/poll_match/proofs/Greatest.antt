-- The greatest number of open connections.
use Rattle.std.proofs.Common.{◌≡◌, ◌≤◌, ◌<◌, ℕ, ◌+◌, Bool, true, false, cond, leb, eqb, List, [], ◌∷◌, ◌++◌, length, take, get_or, Some, refl, sym, ap, ◌∙◌, arith}
use Rattle.std.specs.Prelude.{IsSome, is_some}
use Rattle.std.proofs.lemmas.Bool.{eqb-true, eq-eqb}
use Rattle.std.proofs.lemmas.Bool.Decides.{nat_tests}
use Rattle.std.proofs.lemmas.List.{take_more}
use Rattle.poll_match.specs.Window.{Open, greater, greatest_of, held}

grouped : (a b c : ℕ) → greater a (greater b c) ≡ greater (greater a b) c
grouped a b c = by (leb a b) (leb b c) refl refl
  where
    by : (x y : Bool) → leb a b ≡ x → leb b c ≡ y → greater a (greater b c) ≡ greater (greater a b) c
    by x y p q = grind (arith, nat_tests)

from_zero : (a : ℕ) → greater a 0 ≡ greater 0 a
from_zero a = grind (arith, nat_tests)

-- one connection more
pub greatest-push : (all : List Open) (on : Open) → greatest_of (all ++ on ∷ []) ≡ greater (greatest_of all) on.number
greatest-push [] on = from_zero on.number
greatest-push (x ∷ all) on = ap (greater x.number) (greatest-push all on) ∙ grouped x.number (greatest_of all) on.number

pub greatest_more : (all : List Open) (i : ℕ) (on : Open) → i < length all → on ≡ get_or all i on
    → greater (greatest_of (take i all)) on.number ≡ greatest_of (take (i + 1) all)
greatest_more all i on lt at = sym (ap greatest_of (take_more all i on lt ∙ ap (λ x. take i all ++ x ∷ []) (sym at)) ∙ greatest-push (take i all) on)

over : (a b n : ℕ) → n ≤ b → n ≤ greater a b
over a b n le = grind (arith, nat_tests, le)

left : (a b : ℕ) → a ≤ greater a b
left a b = grind (arith, nat_tests)

-- no open connection has a greater number
pub held_below : (conn : ℕ) (all : List Open) → IsSome (held conn all) → conn ≤ greatest_of all
held_below conn [] some = absurd (cc)
held_below conn (x ∷ all) some = by (eqb x.number conn) refl some (held_below conn all)
  where
    by : (b : Bool) → eqb x.number conn ≡ b → IsSome (cond b (Some x) (held conn all)) → (IsSome (held conn all) → conn ≤ greatest_of all) → conn ≤ greatest_of (x ∷ all)
    by true e s rest = let same = eqb-true x.number conn e in let l = left x.number (greatest_of all) in omega arith
    by false e s rest = over x.number (greatest_of all) conn (rest s)

least_of_two : (a b n : ℕ) → a ≤ n → b ≤ n → greater a b ≤ n
least_of_two a b n x y = grind (arith, nat_tests, x, y)

-- where each open connection's number is at most n, so is the greatest
pub greatest_below : (all : List Open) (n : ℕ) → ((conn : ℕ) → IsSome (held conn all) → conn ≤ n) → greatest_of all ≤ n
greatest_below [] n each = omega arith
greatest_below (x ∷ all) n each =
    least_of_two x.number (greatest_of all) n
    (each x.number (ap (λ b. is_some (cond b (Some x) (held x.number all))) (eq-eqb x.number x.number refl)))
    (greatest_below all n (λ conn some. each conn (either conn (eqb x.number conn) some)))
  where
    either : (conn : ℕ) (b : Bool) → IsSome (held conn all) → IsSome (cond b (Some x) (held conn all))
    either conn true some = refl
    either conn false some = some
