-- Points that are numbered on, and the place of a number among them.
use Rattle.std.proofs.Common.{◌≡◌, ◌≤◌, ◌<◌, ◌+◌, ◌⊎◌, inl, inr, ℕ, suc, Bool, true, false, cond, not, ltb, List, [], ◌∷◌, ◌++◌, length, take, get_or, Some, None, refl, sym, ap, ◌∙◌, arith, length-take-le}
use Rattle.std.specs.Prelude.{◌&&◌, ◌==◌}
use Rattle.std.specs.List.{position, position_or_len}
use Rattle.std.proofs.lemmas.Bool.{and_parts, eqb-true, eq-eqb, le-ltb, lt-ltb, ltb-true, ltb-false}
use Rattle.std.proofs.lemmas.List.{take_more}
use Rattle.poll_book.specs.declared.rows.PointRow.{PointRow}
use Rattle.office_core.specs.ByNumber.{is_numbered}

and_true : (b : Bool) → (b && true) ≡ b
and_true true = refl
and_true false = refl

and_and : (a b c : Bool) → (a && (b && c)) ≡ ((a && b) && c)
and_and true b c = refl
and_and false b c = refl

-- one point more is numbered on if it has the next number
numbered_push : (n : ℕ) (known : List PointRow) (row : PointRow) → is_numbered n (known ++ row ∷ []) ≡ (is_numbered n known && (row.number == n + length known))
numbered_push n [] row = and_true (row.number == n) ∙ ap (λ (k : ℕ). row.number == k) (omega arith)
numbered_push n (first ∷ known) row =
    ap (λ (b : Bool). (first.number == n) && b) (numbered_push (n + 1) known row)
    ∙ and_and (first.number == n) (is_numbered (n + 1) known) (row.number == n + 1 + length known)
    ∙ ap (λ (k : ℕ). ((first.number == n) && is_numbered (n + 1) known) && (row.number == k)) (omega arith)

-- the points so far and the next one
pub numbered_more : (known : List PointRow) (i : ℕ) (d : PointRow) → i < length known
    → is_numbered 1 (take (i + 1) known) ≡ (is_numbered 1 (take i known) && ((get_or known i d).number == i + 1))
numbered_more known i d lt =
    let count = length-take-le i known (omega (arith, lt)) in
    ap (is_numbered 1) (take_more known i d lt) ∙ numbered_push 1 (take i known) (get_or known i d)
    ∙ ap (λ (k : ℕ). is_numbered 1 (take i known) && ((get_or known i d).number == k)) (omega (arith, count))

there : (n m : ℕ) (known : List PointRow) → is_numbered n known ≡ true → n ≤ m → m < n + length known → position_or_len (λ (row : PointRow). row.number == m) known + n ≡ m
there n m [] h le lt = absurd (omega (arith, le, lt))
there n m (row ∷ known) h le lt =
    let (here, rest) = and_parts (row.number == n) (is_numbered (n + 1) known) h in
    by (row.number == m) (ltb n m) refl refl (eqb-true row.number n here) (there (n + 1) m known rest)
  where
    by : (b after : Bool) → (row.number == m) ≡ b → ltb n m ≡ after → row.number ≡ n
        → (n + 1 ≤ m → m < n + 1 + length known → position_or_len (λ (row : PointRow). row.number == m) known + (n + 1) ≡ m)
        → cond (not b) (1 + position_or_len (λ (row : PointRow). row.number == m) known) 0 + n ≡ m
    by true after e a is more = let same = eqb-true row.number m e in omega (arith, is, same)
    by false true e a is more =
        let behind = ltb-true n m a in
        let rest = more (omega (arith, behind)) (omega (arith, lt)) in
        omega (arith, rest)
    by false false e a is more =
        let before = ltb-false n m a in
        let same : row.number ≡ m = omega (arith, is, le, before) in
        absurd (let x : false ≡ true = sym e ∙ eq-eqb row.number m same in cc)

missing : (n m : ℕ) (known : List PointRow) → is_numbered n known ≡ true → (m < n) ⊎ (n + length known ≤ m) → position_or_len (λ (row : PointRow). row.number == m) known ≡ length known
missing n m [] h out = refl
missing n m (row ∷ known) h out =
    let (here, rest) = and_parts (row.number == n) (is_numbered (n + 1) known) h in
    by (row.number == m) refl (eqb-true row.number n here) (missing (n + 1) m known rest)
  where
    by : (b : Bool) → (row.number == m) ≡ b → row.number ≡ n
        → ((m < n + 1) ⊎ (n + 1 + length known ≤ m) → position_or_len (λ (row : PointRow). row.number == m) known ≡ length known)
        → cond (not b) (1 + position_or_len (λ (row : PointRow). row.number == m) known) 0 ≡ suc (length known)
    by true e is more =
        let same = eqb-true row.number m e in
        elim out [
          | inl less ↦ absurd (omega (arith, is, same, less))
          | inr greater ↦ absurd (omega (arith, is, same, greater))
        ]
    by false e is more =
        elim out [
          | inl less ↦
              let rest = more (inl (omega (arith, less))) in
              omega (arith, rest)
          | inr greater ↦
              let rest = more (inr (omega (arith, greater))) in
              omega (arith, rest)
        ]

-- a number that there is stands at its place
pub position_there : (m place : ℕ) (known : List PointRow) → is_numbered 1 known ≡ true → place + 1 ≡ m → place < length known → Some place ≡ position (λ (row : PointRow). row.number == m) known
position_there m place known h e lt =
    let at = there 1 m known h (omega (arith, e)) (omega (arith, e, lt)) in
    let is : position_or_len (λ (row : PointRow). row.number == m) known ≡ place = omega (arith, at, e) in
    sym (ap (λ (k : ℕ). cond (ltb k (length known)) (Some k) None) is ∙ ap (λ (b : Bool). cond b (Some place) None) (lt-ltb place (length known) lt))

-- and one that there isn't stands nowhere
pub position_missing : (m : ℕ) (known : List PointRow) → is_numbered 1 known ≡ true → (m < 1) ⊎ (1 + length known ≤ m) → None ≡ position (λ (row : PointRow). row.number == m) known
position_missing m known h out =
    let is = missing 1 m known h out in
    sym (ap (λ (k : ℕ). cond (ltb k (length known)) (Some k) None) is ∙ ap (λ (b : Bool). cond b (Some (length known)) None) (le-ltb (length known) (length known) (omega arith)))
