-- A stream is read in one way.
use Rattle.std.proofs.Common.{Option, inl, inr, subst, ◌≡◌, ℕ, suc, ◌+◌, ◌*◌, ◌/◌, ◌%◌, ◌<◌, List, [], ◌∷◌, ◌++◌, length, get_or, take, drop, refl, sym, ap, ◌∙◌, arith, None, append_assoc, All, length-append}
use Rattle.std.proofs.lemmas.Nat.{div_below}
use Rattle.std.proofs.Math.Nat.{mod-eq_of_lt, div-add-mod'}
use Rattle.std.proofs.Math.Seq.{take-append_seam, drop-append_seam}
use Rattle.std.specs.List.{flat_map}
use Rattle.std.specs.Prelude.{IsSome}
use Rattle.byteorder.specs.Endian.{big_number}
use Rattle.mb_mbap.specs.declared.frame.Frame.{Frame}
use Rattle.mb_mbap.specs.declared.fault.FrameFault.{FrameFault}
use Rattle.mb_mbap.specs.Stream.{spelled, IsFrame, IsRest, stream_of, fault_of, length_of, Splits}
use Rattle.mb_mbap.proofs.Spelling.{wanted-long, fault-none}

pub pair_value : (n : ℕ) → n < 65536 → n / 256 % 256 * 256 + n % 256 ≡ n
pair_value n h =
    let high : n / 256 % 256 ≡ n / 256 = mod-eq_of_lt (div_below n 256 256 (omega arith) (omega (arith, h))) in
    rw high (div-add-mod' n 256)

-- what the front of a frame shows
pub transaction_of : (f : Frame) (ys : List ℕ) → IsFrame f → big_number 2 (spelled f ++ ys) ≡ f.transaction
transaction_of f ys ok = let v = pair_value f.transaction ok.transaction in omega (arith, v)

pub frame_length : (f : Frame) (ys : List ℕ) → IsFrame f → length_of (spelled f ++ ys) ≡ length f.unit + 1
frame_length f ys ok =
    let short = ok.short in
    let v = pair_value (length f.unit + 1) (omega (arith, short)) in
    omega (arith, v)

pub whole_long : (f : Frame) (ys : List ℕ) → length (spelled f ++ ys) ≡ 7 + length f.unit + length ys
whole_long f ys = let l = length-append f.unit ys in omega (arith, l)

pub frame_good : (f : Frame) (ys : List ℕ) → IsFrame f → fault_of (spelled f ++ ys) ≡ None
frame_good f ys ok =
    let l = frame_length f ys ok in
    let n = whole_long f ys in
    let some = ok.not_empty in
    let short = ok.short in
    fault-none (spelled f ++ ys) (omega (arith, n)) (omega arith) (omega (arith, l, some)) (omega (arith, l, short))

-- no rest begins with a whole frame
pub rest_not_frame : (f : Frame) (ys : List ℕ) → IsFrame f → IsRest (spelled f ++ ys) → ⊥
rest_not_frame f ys ok (inl part) =
    let l = frame_length f ys ok in
    let n = whole_long f ys in
    let w = wanted-long (spelled f ++ ys) (omega (arith, n)) in
    let p = part.partial in
    omega (arith, l, n, w, p)
rest_not_frame f ys ok (inr fault) =
    let good = frame_good f ys ok in
    let P : Option FrameFault → Type 0 = λ o. IsSome o in
    let no : IsSome {T = FrameFault} None = subst P good fault in
    cc

-- two frames that begin one list are one
pub spelled_same : (f g : Frame) (xs ys : List ℕ) → IsFrame f → IsFrame g → spelled f ++ xs ≡ spelled g ++ ys → (f ≡ g) × (xs ≡ ys)
spelled_same f g xs ys okf okg e =
    let t : f.transaction ≡ g.transaction = sym (transaction_of f xs okf) ∙ ap (big_number 2) e ∙ transaction_of g ys okg in
    let n1 : length f.unit + 1 ≡ length g.unit + 1 = sym (frame_length f xs okf) ∙ ap length_of e ∙ frame_length g ys okg in
    let n : length f.unit ≡ length g.unit = omega (arith, n1) in
    let u : f.unit_id ≡ g.unit_id = ap (λ s. get_or s 6 0) e in
    let tail : f.unit ++ xs ≡ g.unit ++ ys = ap (drop 7) e in
    let units : f.unit ≡ g.unit = sym (take-append_seam f.unit xs) ∙ ap (take (length f.unit)) tail ∙ rw n (take-append_seam g.unit ys) in
    let rests : xs ≡ ys = sym (drop-append_seam f.unit xs) ∙ ap (drop (length f.unit)) tail ∙ rw n (drop-append_seam g.unit ys) in
    let mk : ℕ → ℕ → List ℕ → Frame = λ a b c. record { transaction = a; unit_id = b; unit = c } in
    (ap (λ a. mk a f.unit_id f.unit) t ∙ ap (λ b. mk g.transaction b f.unit) u ∙ ap (λ c. mk g.transaction g.unit_id c) units, rests)

-- one way to read a list as frames and a rest
pub one_reading : (fs gs : List Frame) (r q : List ℕ) → All IsFrame fs → All IsFrame gs → IsRest r → IsRest q → stream_of fs r ≡ stream_of gs q → (fs ≡ gs) × (r ≡ q)
one_reading [] [] r q okf okg restr restq e = (refl, e)
one_reading [] (g ∷ gs) r q okf okg restr restq e =
    let whole : r ≡ spelled g ++ stream_of gs q = e ∙ append_assoc (spelled g) (flat_map spelled gs) q in
    absurd (rest_not_frame g (stream_of gs q) (okg 0 g (omega arith)) (subst IsRest whole restr))
one_reading (f ∷ fs) [] r q okf okg restr restq e =
    let whole : q ≡ spelled f ++ stream_of fs r = sym e ∙ append_assoc (spelled f) (flat_map spelled fs) r in
    absurd (rest_not_frame f (stream_of fs r) (okf 0 f (omega arith)) (subst IsRest whole restq))
one_reading (f ∷ fs) (g ∷ gs) r q okf okg restr restq e =
    let both : spelled f ++ stream_of fs r ≡ spelled g ++ stream_of gs q =
    sym (append_assoc (spelled f) (flat_map spelled fs) r) ∙ e ∙ append_assoc (spelled g) (flat_map spelled gs) q in
    let first = spelled_same f g (stream_of fs r) (stream_of gs q) (okf 0 f (omega arith)) (okg 0 g (omega arith)) both in
    let later = one_reading fs gs r q (λ k d lt. okf (suc k) d (omega (arith, lt))) (λ k d lt. okg (suc k) d (omega (arith, lt))) restr restq first.1 in
    (ap (λ x. x ∷ fs) first.0 ∙ ap (λ xs. g ∷ xs) later.0, later.1)

pub splits_once : (stream : List ℕ) (fs gs : List Frame) (r q : List ℕ) → Splits stream fs r → Splits stream gs q → (fs ≡ gs) × (r ≡ q)
splits_once stream fs gs r q a b = one_reading fs gs r q a.each b.each a.rest_ok b.rest_ok (sym a.whole ∙ b.whole)
