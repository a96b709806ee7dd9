-- Queries that are valid.
use Rattle.std.proofs.Common.{◌≡◌, ◌≤◌, ◌<◌, ℕ, zero, suc, Bool, true, false, List, [], ◌∷◌, length, get_or, arith, cond, eqb, ltb, refl, sym, ap, ◌∙◌, ◌-◌, inl, inr, ◌⊎◌, None}
use Rattle.std.proofs.lemmas.Bool.{and_parts, eqb-true, leb-true}
use Rattle.std.proofs.lemmas.Option.{slice_get_within}
use Rattle.std.specs.List.{list_all}
use Rattle.std.specs.Prelude.{slice_get, Some, nat_le}
use Rattle.mb_pdu.specs.Grammar.{IsValid}
use Rattle.mb_pdu.specs.declared.request.Span.{Span}
use Rattle.mb_pdu.specs.declared.request.Request.TheVariants.{ReadCoils, ReadDiscrete, ReadHolding, ReadInput}
use Rattle.read_planner.specs.Read.{IsReadFunction, is_valid_read, limit_of, read_request}
use Rattle.read_planner.specs.declared.Read.{Read as AReadOf}
use Rattle.sunspec.specs.PointType.{row}
use Rattle.sunspec.specs.declared.point_type.PointType.{PointType}
use Rattle.sunspec.specs.declared.point_type.Content.{Content}
use Rattle.sunspec.specs.declared.point_type.Content.TheVariants.{Signed, Unsigned, Address, Bit as Cell, Text}
use Rattle.poll_match.specs.Queries.{CanBeAsked, is_valid, is_valid_payload, payload, payload_of, registers_payload, request_of, word_at, write_request}
use Rattle.poll_match.specs.declared.asked.Asked.{Asked}
use Rattle.poll_match.specs.declared.asked.Asked.TheVariants.{Read, Write}
use Rattle.poll_match.specs.declared.asked.Payload.{Payload}
use Rattle.poll_match.specs.declared.asked.Payload.TheVariants.{Coil, One, Two, Four}
use Rattle.poll_match.specs.declared.asked.Matched.{Matched}
use Rattle.poll_match.specs.Window.{Open, first_number, query_at}

-- by the function, one of four or another
abbrev limit_by : Bool → Bool → Bool → Bool → ℕ
limit_by a b c d = cond a 2000 (cond b 2000 (cond c 125 (cond d 125 0)))

some_limit : (a b c d : Bool) (q : ℕ) → 1 ≤ q → q ≤ limit_by a b c d → (a ≡ true) ⊎ (b ≡ true) ⊎ (c ≡ true) ⊎ (d ≡ true)
some_limit true b c d q some few = inl refl
some_limit false true c d q some few = inr (inl refl)
some_limit false false true d q some few = inr (inr (inl refl))
some_limit false false false true q some few = inr (inr (inr refl))
some_limit false false false false q some few = absurd (omega arith)

some_at : (read : AReadOf) → is_valid_read read ≡ true → 1 ≤ read.span.quantity
some_at read h = leb-true 1 read.span.quantity (and_parts (nat_le 1 read.span.quantity) (nat_le read.span.quantity (limit_of read.function)) h).0

few_at : (read : AReadOf) → is_valid_read read ≡ true → read.span.quantity ≤ limit_by (eqb read.function 1) (eqb read.function 2) (eqb read.function 3) (eqb read.function 4)
few_at read h = leb-true read.span.quantity (limit_of read.function) (and_parts (nat_le 1 read.span.quantity) (nat_le read.span.quantity (limit_of read.function)) h).1

read_function : (read : AReadOf) → is_valid_read read ≡ true → IsReadFunction read.function
read_function read h =
    elim (some_limit (eqb read.function 1) (eqb read.function 2) (eqb read.function 3) (eqb read.function 4) read.span.quantity (some_at read h) (few_at read h)) [
      | inl one ↦ let e = eqb-true read.function 1 one in (omega arith, omega arith)
      | inr more ↦ elim more [
        | inl two ↦ let e = eqb-true read.function 2 two in (omega arith, omega arith)
        | inr rest ↦ elim rest [
          | inl three ↦ let e = eqb-true read.function 3 three in (omega arith, omega arith)
          | inr four ↦ let e = eqb-true read.function 4 four in (omega arith, omega arith)
        ]
      ]
    ]

valid_by : (a b c d : Bool) (span : Span) → 1 ≤ span.quantity → span.quantity ≤ limit_by a b c d
    → IsValid (cond a (ReadCoils span) (cond b (ReadDiscrete span) (cond c (ReadHolding span) (ReadInput span))))
valid_by true b c d span some few = (omega arith, few)
valid_by false true c d span some few = (omega arith, few)
valid_by false false true d span some few = (omega arith, few)
valid_by false false false true span some few = (omega arith, few)
valid_by false false false false span some few = absurd (omega arith)

read_valid : (read : AReadOf) → is_valid_read read ≡ true → IsValid (read_request read)
read_valid read h = valid_by (eqb read.function 1) (eqb read.function 2) (eqb read.function 3) (eqb read.function 4) read.span (some_at read h) (few_at read h)

-- the request of a valid payload is valid
write_valid : (address : ℕ) (payload : Payload) → is_valid_payload payload ≡ true → IsValid (write_request address payload)
write_valid address (Coil on) h = tt
write_valid address (One word) h = tt
write_valid address (Two words) h = let two = eqb-true (length words) 2 h in (omega arith, omega arith)
write_valid address (Four words) h = let four = eqb-true (length words) 4 h in (omega arith, omega arith)

-- words that aren't a bit are written as one, two or four of them
registers_valid : (words : List ℕ) → is_valid_payload (registers_payload words) ≡ true
registers_valid words = by (eqb (length words) 1) (eqb (length words) 2)
  where
    by : (one two : Bool) → is_valid_payload (cond one (One (word_at words 0)) (cond two (Two (word_at words 0 ∷ word_at words 1 ∷ [])) (Four (word_at words 0 ∷ word_at words 1 ∷ word_at words 2 ∷ word_at words 3 ∷ [])))) ≡ true
    by true two = refl
    by false true = refl
    by false false = refl

content_valid : (content : Content) (words : List ℕ) → is_valid_payload (payload_of content words) ≡ true
content_valid Cell words = refl
content_valid Signed words = registers_valid words
content_valid Unsigned words = registers_valid words
content_valid Address words = registers_valid words
content_valid Text words = registers_valid words

-- what words of a type are written as is valid
pub write_is_valid : (unit_id order address : ℕ) (kind : PointType) (words : List ℕ) → is_valid (Write unit_id order address (payload kind words)) ≡ true
write_is_valid unit_id order address kind words = content_valid (row kind).content words

-- what is valid can be asked, and its request is valid
pub can_be_asked : (asked : Asked) → is_valid asked ≡ true → CanBeAsked asked
can_be_asked (Read unit_id device slot read known) h = read_function read h
can_be_asked (Write unit_id order address payload) h = tt

pub valid_request : (asked : Asked) → is_valid asked ≡ true → IsValid (request_of asked)
valid_request (Read unit_id device slot read known) h = read_valid read h
valid_request (Write unit_id order address payload) h = write_valid address payload h

pub valid_at : (queries : List Matched) (i : ℕ) (d : Matched) → i < length queries → list_all (λ (query : Matched). is_valid query.asked) queries ≡ true → is_valid (get_or queries i d).asked ≡ true
valid_at [] i d lt h = absurd (omega arith)
valid_at (q ∷ qs) zero d lt h = (and_parts _ _ h).0
valid_at (q ∷ qs) (suc i) d lt h = valid_at qs i d (omega arith) (and_parts _ _ h).1

-- what is got from a list stands at that place
pub slice_get-within : (queries : List Matched) (i : ℕ) (q d : Matched) → slice_get queries i ≡ Some q → get_or queries i d ≡ q
slice_get-within [] i q d e = absurd (cc)
slice_get-within (x ∷ xs) zero q d e = cc
slice_get-within (x ∷ xs) (suc i) q d e = slice_get-within xs i q d e

-- a kept query is valid
pub kept_is_valid : (on : Open) (n : ℕ) (q : Matched) → list_all (λ (query : Matched). is_valid query.asked) on.last ≡ true → query_at on n ≡ Some q → is_valid q.asked ≡ true
kept_is_valid on n q all at = by (ltb n (first_number on)) at
  where
    by : (b : Bool) → cond b None (slice_get on.last (n - first_number on)) ≡ Some q → is_valid q.asked ≡ true
    by true e = absurd (cc)
    by false e =
        let within = slice_get_within on.last (n - first_number on) q e in
        let is = slice_get-within on.last (n - first_number on) q q e in
        ap (λ (m : Matched). is_valid m.asked) (sym is) ∙ valid_at on.last (n - first_number on) q within all
