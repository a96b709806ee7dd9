-- Points that are numbered on.
use Rattle.std.proofs.Common.{◌≡◌, ℕ, suc, ◌+◌, Bool, true, false, cond, List, [], ◌∷◌, ◌++◌, length, refl, ap, ◌∙◌, arith}
use Rattle.point_list.specs.declared.point.Point.{Point}
use Rattle.poll_book.specs.declared.rows.PointRow.{PointRow}
use Rattle.std.specs.Prelude.{is_none}
use Rattle.office_core.specs.Loads.{numbered_on, unknown_of, known_named}

pub length-numbered : (n : ℕ) (points : List Point) → length (numbered_on n points) ≡ length points
length-numbered n [] = refl
length-numbered n (point ∷ points) = ap suc (length-numbered (n + 1) points)

-- one point more takes the next number
pub numbered-push : (n : ℕ) (points : List Point) (point : Point)
    → numbered_on n (points ++ point ∷ []) ≡ numbered_on n points ++ record { number = n + length points + 1; point = point } ∷ []
numbered-push n [] point = ap (λ m. record { number = m; point = point } ∷ []) (omega arith)
numbered-push n (first ∷ points) point =
    ap (λ l. record { number = n + 1; point = first } ∷ l)
    (numbered-push (n + 1) points point ∙ ap (λ m. numbered_on (n + 1) points ++ record { number = m; point = point } ∷ []) (omega arith))

-- the unknown ones among these and one more
pub unknown-push : (known : List PointRow) (points : List Point) (point : Point)
    → unknown_of known (points ++ point ∷ []) ≡ cond (is_none (known_named known point.name)) (unknown_of known points ++ point ∷ []) (unknown_of known points)
unknown-push known [] point = refl
unknown-push known (first ∷ points) point =
    ap (λ l. cond (is_none (known_named known first.name)) (first ∷ l) l) (unknown-push known points point)
    ∙ by (is_none (known_named known first.name)) (is_none (known_named known point.name))
  where
    rest : List Point
    rest = unknown_of known points

    by : (a b : Bool) → cond a (first ∷ cond b (rest ++ point ∷ []) rest) (cond b (rest ++ point ∷ []) rest)
        ≡ cond b (cond a (first ∷ rest) rest ++ point ∷ []) (cond a (first ∷ rest) rest)
    by true true = refl
    by true false = refl
    by false true = refl
    by false false = refl
