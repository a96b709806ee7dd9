-- The first record of a list.
use Rattle.std.proofs.Common.{◌≡◌, ◌≢◌, ◌⊎◌, ℕ, zero, suc, List, [], ◌∷◌, Bool, length, map, refl, sym, ◌∙◌, ap, subst, arith, true, false, inl, inr, codes}
use Rattle.std.specs.Prelude.{◌||◌}
use Rattle.std.proofs.lemmas.Bool.{and_parts, false≢true}
use Rattle.std.proofs.lemmas.Bool.Decides.{Decides-eqb}
use Rattle.std.proofs.lemmas.Slice.Eq.{bytes_eq-Decides}
use Rattle.csv.specs.Records.{Row, field_at, fields_of}
use Rattle.point_list.specs.Columns.{Record, field}
use Rattle.point_list.specs.Edition.{Edition, First, Second, IsHeader, header, header_with_words}
use Rattle.point_list.specs.Header.{begins_as_header, is_header, is_header_with_words, is_plain_header}

record Words (r : Record) : Type 0 where
  pub w0 : field r 0 ≡ codes "name"
  pub w1 : field r 1 ≡ codes "device"
  pub w2 : field r 2 ≡ codes "table"
  pub w3 : field r 3 ≡ codes "address"
  pub w4 : field r 4 ≡ codes "type"
  pub w5 : field r 5 ≡ codes "length"
  pub w6 : field r 6 ≡ codes "scale"
  pub w7 : field r 7 ≡ codes "role"
  pub w8 : field r 8 ≡ codes "roll"

words : (r : Record) → begins_as_header r ≡ true → Words r
words r h =
    let p0 = and_parts _ _ h in
    let p1 = and_parts _ _ p0.1 in
    let p2 = and_parts _ _ p1.1 in
    let p3 = and_parts _ _ p2.1 in
    let p4 = and_parts _ _ p3.1 in
    let p5 = and_parts _ _ p4.1 in
    let p6 = and_parts _ _ p5.1 in
    let p7 = and_parts _ _ p6.1 in
    record {
      w0 = (bytes_eq-Decides _ _).0 p0.0;
      w1 = (bytes_eq-Decides _ _).0 p1.0;
      w2 = (bytes_eq-Decides _ _).0 p2.0;
      w3 = (bytes_eq-Decides _ _).0 p3.0;
      w4 = (bytes_eq-Decides _ _).0 p4.0;
      w5 = (bytes_eq-Decides _ _).0 p5.0;
      w6 = (bytes_eq-Decides _ _).0 p6.0;
      w7 = (bytes_eq-Decides _ _).0 p7.0;
      w8 = (bytes_eq-Decides _ _).0 p7.1;
    }

-- ---- records by their fields

-- so many fields of a record from a place on
abbrev fields : ℕ → ℕ → Record → Record
fields zero i r = []
fields (suc n) i r = field r i ∷ fields n (suc i) r

fields-behind : (n i : ℕ) (x : List ℕ) (r : Record) → fields n (suc i) (x ∷ r) ≡ fields n i r
unfolding field_at
fields-behind zero i x r = refl
fields-behind (suc n) i x r = ap (λ (rest : Record). field r i ∷ rest) (fields-behind n (suc i) x r)

all_fields : (n : ℕ) (r : Record) → length r ≡ n → r ≡ fields n 0 r
unfolding field_at
all_fields zero [] count = refl
all_fields zero (x ∷ r) count = absurd (omega arith)
all_fields (suc n) [] count = absurd (omega arith)
all_fields (suc n) (x ∷ r) count = ap (λ (rest : Record). x ∷ rest) (all_fields n r (omega arith) ∙ sym (fields-behind n 0 x r))

-- ---- headers by their tests

plain_is : (r : Record) → is_plain_header r ≡ true → r ≡ header
plain_is r h =
    let p = and_parts _ _ h in
    let w = words r p.1 in
    all_fields 9 r ((Decides-eqb (length r) 9).0 p.0) ∙ rw (w.w0, w.w1, w.w2, w.w3, w.w4, w.w5, w.w6, w.w7, w.w8) refl

with_words_is : (r : Record) → is_header_with_words r ≡ true → r ≡ header_with_words
with_words_is r h =
    let p = and_parts _ _ h in
    let q = and_parts _ _ p.1 in
    let w = words r q.0 in
    let last : field r 9 ≡ codes "words" = (bytes_eq-Decides _ _).0 q.1 in
    all_fields 10 r ((Decides-eqb (length r) 10).0 p.0) ∙ rw (w.w0, w.w1, w.w2, w.w3, w.w4, w.w5, w.w6, w.w7, w.w8, last) refl

either : (a b : Bool) → (a || b) ≡ true → (a ≡ true) ⊎ (b ≡ true)
either true b h = inl refl
either false b h = inr h

pub header_is : (edition : Edition) (r : Record) → is_header edition r ≡ true → IsHeader edition r
header_is First r h = plain_is r h
header_is Second r h = elim (either (is_plain_header r) (is_header_with_words r) h) [
  | inl plain ↦ inl (plain_is r plain)
  | inr more ↦ inr (with_words_is r more)
]

pub plain_passes : is_plain_header header ≡ true
unfolding field_at
plain_passes = refl

words_passes : is_header Second header_with_words ≡ true
unfolding field_at
words_passes = refl

pub header_passes : (edition : Edition) (r : Record) → IsHeader edition r → is_header edition r ≡ true
header_passes First r is = rw is plain_passes
header_passes Second r (inl is) = rw (is, plain_passes) refl
header_passes Second r (inr is) = rw is words_passes

-- a first record that fails the test is no header
pub no_header : (edition : Edition) (first : Record) (rest : List Record) → is_header edition first ≡ false
    → (r : Record) (body : List Record) → IsHeader edition r → first ∷ rest ≢ r ∷ body
no_header edition first rest h r body is e =
    let same : first ≡ r = cc in
    let P : Record → Type 0 = λ x. is_header edition x ≡ true in
    false≢true (sym h ∙ subst P (sym same) (header_passes edition r is))

-- a list of records with a first one in front
pub list_is : (list : List Row) (first : Row) (body : List Row) → list ≡ first ∷ body
    → map fields_of list ≡ fields_of first ∷ map fields_of body
list_is list first body e = rw e refl
