-- A body that lacks bytes, and one that is whole.
use Rattle.std.proofs.Common.{◌≡◌, ℕ, ◌<◌, ◌≤◌, Bool, true, false, nat_le, List, ◌++◌, length, take, refl, sym, ap, arith, subst, Some, None, length-append, if◌then◌else◌}
use Rattle.std.proofs.lemmas.List.{take-append-le}
use Rattle.std.proofs.lemmas.Bool.{leb-true, le-leb}
use Rattle.office_http.specs.declared.fields.Length.TheVariants.{Of}
use Rattle.office_http.specs.Meanings.{Meaning, with_body}

-- fewer bytes than the body has ask for nothing yet
pub body_lacks : (make : List ℕ → Meaning) (n : ℕ) (rest : List ℕ) → length rest < n → with_body make rest (Of n) ≡ None
body_lacks make n rest few = by (nat_le n (length rest)) refl
  where
    by : (b : Bool) → nat_le n (length rest) ≡ b → (if b then Some (make (take n rest)) else None) ≡ None
    by true is = let enough = leb-true n (length rest) is in absurd (omega (arith, enough, few))
    by false is = refl

-- once all of it is there it asks for one thing, whatever follows
pub body_whole : (make : List ℕ → Meaning) (n : ℕ) (rest more : List ℕ) → n ≤ length rest → with_body make (rest ++ more) (Of n) ≡ Some (make (take n rest))
body_whole make n rest more enough =
    let longer : n ≤ length (rest ++ more) = omega (arith, enough, length-append rest more) in
    let P : Bool → Type 0 = λ b. (if b then Some (make (take n (rest ++ more))) else None) ≡ Some (make (take n rest)) in
    subst P (sym (le-leb n (length (rest ++ more)) longer)) (ap (λ body. Some (make body)) (take-append-le n rest more enough))
