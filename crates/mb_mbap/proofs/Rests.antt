-- What is held, and what follows the frames.
use Rattle.std.proofs.Common.{◌≡◌, ℕ, ◌+◌, ◌<◌, ◌≤◌, inl, inr, List, [], ◌∷◌, ◌++◌, length, take, refl, sym, ap, ◌∙◌, arith, Some, None, take_all, length-append, length-take}
use Rattle.std.proofs.lemmas.Bool.{cases_lt}
use Rattle.mb_mbap.specs.declared.fault.FrameFault.{FrameFault}
use Rattle.mb_mbap.specs.declared.frame.Frame.{Frame}
use Rattle.mb_mbap.specs.Stream.{spelled, IsFrame, wanted, fault_of, header_fault, protocol_of, length_of, IsOpen}
use Rattle.mb_mbap.proofs.Spelling.{wanted-short, wanted-long}

pub fault-short : (xs : List ℕ) → length xs < 6 → fault_of xs ≡ None
unfolding fault_of
fault-short xs h = grind (arith, h)

pub fault-long : (xs : List ℕ) → 6 ≤ length xs → fault_of xs ≡ header_fault (protocol_of xs) (length_of xs)
unfolding fault_of
fault-long xs h = grind (arith, h)

-- a good header's length field
pub good-length : (p l : ℕ) → header_fault p l ≡ None → l ≤ 254
unfolding header_fault
good-length p l h = grind (arith, h)

pub good-length-least : (p l : ℕ) → header_fault p l ≡ None → 2 ≤ l
unfolding header_fault
good-length-least p l h = grind (arith, h)

-- six bytes tell the header, whatever follows
pub same-front : (xs ys : List ℕ) → 6 ≤ length xs → (protocol_of (xs ++ ys) ≡ protocol_of xs) × (length_of (xs ++ ys) ≡ length_of xs)
same-front [] ys long = absurd (omega (arith, long))
same-front (a ∷ []) ys long = absurd (omega (arith, long))
same-front (a ∷ b ∷ []) ys long = absurd (omega (arith, long))
same-front (a ∷ b ∷ c ∷ []) ys long = absurd (omega (arith, long))
same-front (a ∷ b ∷ c ∷ d ∷ []) ys long = absurd (omega (arith, long))
same-front (a ∷ b ∷ c ∷ d ∷ e ∷ []) ys long = absurd (omega (arith, long))
same-front (a ∷ b ∷ c ∷ d ∷ e ∷ f ∷ xs) ys long = (refl, refl)

pub fault-same : (xs ys : List ℕ) → 6 ≤ length xs → fault_of (xs ++ ys) ≡ fault_of xs
fault-same xs ys h =
    let s = same-front xs ys h in
    let l = length-append xs ys in
    rw (fault-long xs h, fault-long (xs ++ ys) (omega (arith, h, l)), s.0, s.1) refl

pub wanted-same : (xs ys : List ℕ) → 6 ≤ length xs → wanted (xs ++ ys) ≡ wanted xs
wanted-same xs ys h =
    let s = same-front xs ys h in
    let l = length-append xs ys in
    rw (wanted-long xs h, wanted-long (xs ++ ys) (omega (arith, h, l)), s.1) refl

-- what has a fault has its six bytes
pub fault-has-six : (xs : List ℕ) (e : FrameFault) → fault_of xs ≡ Some e → 6 ≤ length xs
fault-has-six xs e h = elim (cases_lt (length xs) 6) [
  | inl short ↦ let n = fault-short xs short in absurd (grind (arith, n, h))
  | inr long ↦ long
]

pub fault_append : (xs ys : List ℕ) (e : FrameFault) → fault_of xs ≡ Some e → fault_of (xs ++ ys) ≡ Some e
fault_append xs ys e h = fault-same xs ys (fault-has-six xs e h) ∙ h

pub open_empty : IsOpen []
open_empty = record { no_fault = fault-short [] (omega arith); partial = rw (wanted-short [] (omega arith)) (omega arith) }

pub open_short : (xs : List ℕ) → IsOpen xs → length xs ≤ 259
open_short xs o = elim (cases_lt (length xs) 6) [
  | inl short ↦ omega (arith, short)
  | inr long ↦
      let w = wanted-long xs long in
      let g = good-length (protocol_of xs) (length_of xs) (sym (fault-long xs long) ∙ o.no_fault) in
      let p = o.partial in
      omega (arith, w, g, p)
]

-- at most 260 bytes are wanted
pub open_wanted : (xs : List ℕ) → IsOpen xs → wanted xs ≤ 260
open_wanted xs o = elim (cases_lt (length xs) 6) [
  | inl short ↦ let w = wanted-short xs short in omega (arith, w)
  | inr long ↦
      let w = wanted-long xs long in
      let g = good-length (protocol_of xs) (length_of xs) (sym (fault-long xs long) ∙ o.no_fault) in
      omega (arith, w, g)
]

-- bytes up to the next judgement make no more than one frame
pub whole_len : (xs ys : List ℕ) → IsOpen xs → length (xs ++ ys) ≤ wanted xs → fault_of (xs ++ ys) ≡ None → wanted (xs ++ ys) ≤ length (xs ++ ys) → take (wanted (xs ++ ys)) (xs ++ ys) ≡ xs ++ ys
whole_len xs ys o most none h =
    let l = length-append xs ys in
    take_all (wanted (xs ++ ys)) (xs ++ ys) (elim (cases_lt (length xs) 6) [
      | inl short ↦ elim (cases_lt (length (xs ++ ys)) 6) [
        | inl still ↦ let w = wanted-short (xs ++ ys) still in omega (arith, w, still)
        | inr six ↦
            let w = wanted-long (xs ++ ys) six in
            let v = wanted-short xs short in
            let g = good-length-least (protocol_of (xs ++ ys)) (length_of (xs ++ ys)) (sym (fault-long (xs ++ ys) six) ∙ none) in
            omega (arith, w, v, g, most)
      ]
      | inr long ↦ let w = wanted-same xs ys long in omega (arith, w, most)
    ])

-- where a frame begins the bytes, its length tells how many it takes
pub frame_taken : (xs : List ℕ) (f : Frame) → IsFrame f → spelled f ≡ take (wanted xs) xs → wanted xs ≤ length xs → wanted xs ≡ 7 + length f.unit
frame_taken xs f ok is within =
    let n = length-take (wanted xs) xs in
    let l = ap length is in
    omega (arith, n, l, within)
