-- Where each of these needs one of those, and none of those serves two, there are no fewer of those.
use Rattle.std.proofs.Common.{◌≡◌, ◌≤◌, zero, suc, List, [], ◌∷◌, length, arith, subst, sym, ◌⊎◌, inl, inr}
use Rattle.std.specs.Prelude.{Any}
use Rattle.std.specs.List.{AllByRecursion}

-- one of the list has it, by cases on the list
abbrev pub AnyOf : {X : Type 0} → (X → Type 0) → List X → Type 0
AnyOf P [] = ⊥
AnyOf P (x ∷ xs) = P x ⊎ AnyOf P xs

-- an element by its index is one by cases
pub any_of : {X : Type 0} (P : X → Type 0) (xs : List X) → Any P xs → AnyOf P xs
any_of P [] (k, x, lt, is, p) = absurd (omega arith)
any_of P (y ∷ ys) (zero, x, lt, is, p) = inl (subst P (sym is) p)
any_of P (y ∷ ys) (suc k, x, lt, is, p) = inr (any_of P ys (k, x, omega arith, is, p))

-- of each pair of these none of those serves both
abbrev pub AreApart : {X Y : Type 0} → (X → Y → Type 0) → List X → Type 0
AreApart H [] = Unit {0}
AreApart {X} {Y} H (x ∷ xs) = AllByRecursion (λ (other : X). (y : Y) → H x y → H other y → ⊥) xs × AreApart H xs

-- one of those that serves, and the others
record Drawn {X Y : Type 0} (H : X → Y → Type 0) (x : X) (ys : List Y) : Type 0 where
  pub one : Y
  pub rest : List Y
  pub serves : H x one
  pub count : length ys ≡ suc (length rest)
  pub others : (other : X) → AnyOf (H other) ys → H other one ⊎ AnyOf (H other) rest

-- take one that serves out of the list
drawn : {X Y : Type 0} (H : X → Y → Type 0) (x : X) (ys : List Y) → AnyOf (H x) ys → Drawn H x ys
drawn H x [] any = absurd any
drawn H x (y ∷ ys) (inl serves) = record { one = y; rest = ys; serves = serves; count = omega arith; others = λ other any. any }
drawn H x (y ∷ ys) (inr any) =
    let d = drawn H x ys any in
    record {
      one = d.one;
      rest = y ∷ d.rest;
      serves = d.serves;
      count = omega (arith, d.count);
      others = λ other some. elim some [ inl here ↦ inr (inl here) | inr there ↦ elim (d.others other there) [ inl it ↦ inl it | inr more ↦ inr (inr more) ] ];
    }

-- two facts of each element
both : {X : Type 0} (P Q R : X → Type 0) → ((x : X) → P x → Q x → R x) → (xs : List X) → AllByRecursion P xs → AllByRecursion Q xs → AllByRecursion R xs
both P Q R f [] p q = tt
both P Q R f (x ∷ xs) (p, ps) (q, qs) = (f x p q, both P Q R f xs ps qs)

-- each of these takes one of those away
pub pigeons : {X Y : Type 0} (H : X → Y → Type 0) (xs : List X) (ys : List Y) → AllByRecursion (λ x. AnyOf (H x) ys) xs → AreApart H xs → length xs ≤ length ys
pigeons H [] ys served apart = omega arith
pigeons {X} {Y} H (x ∷ xs) ys (served, rest) (alone, apart) =
    let d = drawn H x ys served in
    let left : AllByRecursion (λ other. AnyOf (H other) d.rest) xs =
    both (λ other. AnyOf (H other) ys) (λ other. (y : Y) → H x y → H other y → ⊥) (λ other. AnyOf (H other) d.rest)
    (λ other any no. elim (d.others other any) [ inl it ↦ absurd (no d.one d.serves it) | inr more ↦ more ]) xs rest alone in
    let fewer = pigeons H xs d.rest left apart in
    omega (arith, fewer, d.count)
