-- All the bytes of a connection mean one thing.
use Rattle.std.proofs.Common.{◌≡◌, inl, inr, ℕ, List, Option, Some, None, sym, ap, ◌∙◌}
use Rattle.office_http.specs.declared.routes.Routes.{Routes}
use Rattle.office_http.specs.Meanings.{Meaning, nothing}
use Rattle.office_http.specs.Deciding.{IsWhole, Means, EndsAs}
use Rattle.office_http.proofs.Reading.{asked_once}

abbrev or_nothing : Option Meaning → Meaning
or_nothing None = nothing
or_nothing (Some m) = m

whole_once : (routes : Routes) (input : List ℕ) (a b : Meaning) → IsWhole routes input a → IsWhole routes input b → a ≡ b
whole_once routes input a b x y = ap or_nothing (asked_once routes input x.head y.head x.rest y.rest (Some a) (Some b) x.has.reads y.has.reads x.asked y.asked)

ends_once : (input : List ℕ) (a b : Meaning) → EndsAs input a → EndsAs input b → a ≡ b
ends_once input a b x y = elim x [
  | inl p ↦ elim y [
    | inl q ↦ p.1 ∙ sym q.1
    | inr q ↦ absurd (q.0 p.0)
  ]
  | inr p ↦ elim y [
    | inl q ↦ absurd (p.0 q.0)
    | inr q ↦ p.1 ∙ sym q.1
  ]
]

pub one_meaning : (routes : Routes) (input : List ℕ) (a b : Meaning) → Means routes input a → Means routes input b → a ≡ b
one_meaning routes input a b x y = elim x [
  | inl p ↦ elim y [
    | inl q ↦ whole_once routes input a b p q
    | inr q ↦ absurd (q.0 a p)
  ]
  | inr p ↦ elim y [
    | inl q ↦ absurd (p.0 b q)
    | inr q ↦ ends_once input a b p.1 q.1
  ]
]
