-- Bytes that are one whole frame.
use Rattle.std.proofs.Common.{◌≡◌, ◌+◌, ◌<◌, ◌≤◌, ℕ, Bool, true, false, cond, List, [], ◌∷◌, ◌++◌, length, drop, get_or, refl, sym, ap, ◌∙◌, subst, arith, inl, Some, None, Ok, Err, Result, take_all, length-drop}
use Rattle.std.specs.Prelude.{◌&&◌, IfErr, IfOk, nat_le}
use Rattle.std.specs.Result.{result_ok}
use Rattle.std.specs.Str.{bytes_eq}
use Rattle.std.proofs.lemmas.Bool.{and_parts, le-leb, leb-true}
use Rattle.std.proofs.lemmas.List.{take-append-drop, append-nil}
use Rattle.std.proofs.lemmas.Slice.Eq.{bytes_eq-Decides}
use Rattle.byteorder.specs.Endian.{big_bytes}
use Rattle.byteorder.specs.Numbers.{big_number-reads_back}
use Rattle.mb_mbap.specs.declared.frame.Frame.{Frame}
use Rattle.mb_mbap.specs.declared.fault.FrameFault.{FrameFault}
use Rattle.mb_mbap.specs.declared.fault.FrameFault.TheVariants.{NotModbus, BadLength, Short, Long, Failed}
use Rattle.mb_mbap.specs.declared.judging.Step.TheVariants.{Whole, Bad}
use Rattle.mb_mbap.specs.Steps.{StepMeans}
use Rattle.mb_mbap.specs.Stream.{spelled, IsFrame, fault_of, header_fault, protocol_of, length_of, wanted}
use Rattle.mb_mbap.specs.Whole.{IsNoFrame, IsLonger, fields_in, is_whole, frame_of}
use Rattle.mb_mbap.proofs.Rests.{frame_taken, fault-has-six, fault-long}
use Rattle.mb_mbap.proofs.Unique.{spelled_same, rest_not_frame, frame_good}

-- a frame at the front that takes all bytes is what they are
pub all_taken : (bytes : List ℕ) (f : Frame) → StepMeans bytes (Whole f) → length bytes ≤ 7 + length f.unit → IsFrame f × (spelled f ≡ bytes)
all_taken bytes f means most =
    let w = frame_taken bytes f means.0 means.1 means.2 in
    (means.0, means.1 ∙ take_all (wanted bytes) bytes (omega (arith, w, most)))

-- a frame at the front with bytes behind it
pub some_left : (bytes : List ℕ) (f : Frame) → StepMeans bytes (Whole f) → 7 + length f.unit < length bytes → IsLonger bytes
some_left bytes f means more =
    let w = frame_taken bytes f means.0 means.1 means.2 in
    let left = length-drop (wanted bytes) bytes in
    let front : bytes ≡ spelled f ++ drop (wanted bytes) bytes = sym (take-append-drop (wanted bytes) bytes) ∙ ap (λ xs. xs ++ drop (wanted bytes) bytes) (sym means.1) in
    (f, drop (wanted bytes) bytes, means.0, omega (arith, w, left, more), front)

-- a header is never bad in a way of its own of `decode`, or because an earlier one was
no_other : (p l : ℕ) (fault : FrameFault) → header_fault p l ≡ Some fault → (bytes : List ℕ) → fault_of bytes ≡ Some fault → IsNoFrame bytes fault
unfolding header_fault
no_other p l NotModbus is bytes e = e
no_other p l BadLength is bytes e = e
no_other p l Short is bytes e = absurd (grind (arith, is))
no_other p l Long is bytes e = absurd (grind (arith, is))
no_other p l Failed is bytes e = absurd (grind (arith, is))

-- a bad header
pub bad_header : (bytes : List ℕ) (fault : FrameFault) → StepMeans bytes (Bad fault) → IsNoFrame bytes fault
bad_header bytes fault means =
    let six = fault-has-six bytes fault means in
    no_other (protocol_of bytes) (length_of bytes) fault (sym (fault-long bytes six) ∙ means) bytes means

-- what is no frame isn't the spelling of one
pub not_spelled : (fault : FrameFault) (f : Frame) → IsFrame f → IsNoFrame (spelled f ++ []) fault → ⊥
not_spelled Short f is none = rest_not_frame f [] is (inl none)
not_spelled Long f is none =
    let same = spelled_same f none.0 [] none.1 is none.2 none.4 in
    let some = none.3 in
    let nothing = ap length same.1 in
    omega (arith, some, nothing)
not_spelled NotModbus f is none = let good = frame_good f [] is in cc
not_spelled BadLength f is none = let good = frame_good f [] is in cc
not_spelled Failed f is none = none

-- a frame's spelling is that frame
pub decodes : (bytes : List ℕ) (r : Result Frame FrameFault) → IfOk r (λ f. IsFrame f × (spelled f ≡ bytes)) → IfErr r (IsNoFrame bytes)
    → (f : Frame) → IsFrame f → spelled f ≡ bytes → r ≡ Ok f
decodes bytes (Ok g) ok err f is e = ap Ok (spelled_same g f [] [] ok.0 is (ap (λ s. s ++ []) (ok.1 ∙ sym e))).0
decodes bytes (Err fault) ok err f is e =
    let none : IsNoFrame (spelled f ++ []) fault = subst (λ xs. IsNoFrame xs fault) (sym (append-nil (spelled f) ∙ e)) err in
    absurd (not_spelled fault f is none)

-- ---- computed

-- the fields that stand in a frame's spelling are the frame's
fields_again : (f : Frame) → IsFrame f → fields_in (spelled f) ≡ f
fields_again f is =
    let small = is.transaction in
    ap (λ t. record { transaction = t; unit_id = f.unit_id; unit = f.unit })
    (big_number-reads_back 2 f.transaction ((0 ∷ 0 ∷ []) ++ big_bytes 2 (length f.unit + 1) ++ f.unit_id ∷ f.unit) (omega (arith, small)))

-- a frame's spelling is that frame whole
whole_again : (f : Frame) → IsFrame f → frame_of (spelled f) ≡ Some f
whole_again f is =
    let some = is.not_empty in
    let short = is.short in
    by (nat_le 8 (length (spelled f))) (nat_le (length (spelled f)) 260) (bytes_eq (spelled (fields_in (spelled f))) (spelled f))
    (le-leb 8 (length (spelled f)) (omega (arith, some))) (le-leb (length (spelled f)) 260 (omega (arith, short)))
    ((bytes_eq-Decides (spelled (fields_in (spelled f))) (spelled f)).1 (ap spelled (fields_again f is))) (fields_in (spelled f)) (fields_again f is)
  where
    by : (a b c : Bool) → a ≡ true → b ≡ true → c ≡ true → (x : Frame) → x ≡ f → cond (a && (b && c)) (Some x) None ≡ Some f
    by a b c ha hb hc x e = rw (ha, hb, hc) (ap Some e)

-- the fields of 8 to 260 bytes are a frame's
fields_fit : (bytes : List ℕ) → ((k : ℕ) → get_or bytes k 0 < 256) → 8 ≤ length bytes → length bytes ≤ 260 → IsFrame (fields_in bytes)
fields_fit [] small least most = absurd (omega (arith, least))
fields_fit (a ∷ []) small least most = absurd (omega (arith, least))
fields_fit (a ∷ b ∷ []) small least most = absurd (omega (arith, least))
fields_fit (a ∷ b ∷ c ∷ []) small least most = absurd (omega (arith, least))
fields_fit (a ∷ b ∷ c ∷ d ∷ []) small least most = absurd (omega (arith, least))
fields_fit (a ∷ b ∷ c ∷ d ∷ e ∷ []) small least most = absurd (omega (arith, least))
fields_fit (a ∷ b ∷ c ∷ d ∷ e ∷ f ∷ []) small least most = absurd (omega (arith, least))
fields_fit (a ∷ b ∷ c ∷ d ∷ e ∷ f ∷ g ∷ unit) small least most =
    let high = small 0 in
    let low = small 1 in
    record { transaction = omega (arith, high, low); unit_id = small 6; not_empty = omega (arith, least); short = omega (arith, most) }

-- bytes that are whole are the spelling of a frame
spells_again : (bytes : List ℕ) → ((k : ℕ) → get_or bytes k 0 < 256) → is_whole bytes ≡ true → IsFrame (fields_in bytes) × (spelled (fields_in bytes) ≡ bytes)
spells_again bytes small is =
    let first = and_parts (nat_le 8 (length bytes)) (nat_le (length bytes) 260 && bytes_eq (spelled (fields_in bytes)) bytes) is in
    let then = and_parts (nat_le (length bytes) 260) (bytes_eq (spelled (fields_in bytes)) bytes) first.1 in
    (fields_fit bytes small (leb-true 8 (length bytes) first.0) (leb-true (length bytes) 260 then.0), (bytes_eq-Decides (spelled (fields_in bytes)) bytes).0 then.1)

-- what is decoded is what is computed
pub computed : (bytes : List ℕ) (r : Result Frame FrameFault) → ((k : ℕ) → get_or bytes k 0 < 256)
    → IfOk r (λ f. IsFrame f × (spelled f ≡ bytes)) → IfErr r (IsNoFrame bytes) → result_ok r ≡ frame_of bytes
computed bytes (Ok f) small ok err = subst (λ xs. Some f ≡ frame_of xs) ok.1 (sym (whole_again f ok.0))
computed bytes (Err fault) small ok err = by (is_whole bytes) refl
  where
    by : (b : Bool) → is_whole bytes ≡ b → None ≡ cond b (Some (fields_in bytes)) None
    by false is = refl
    by true is =
        let again = spells_again bytes small is in
        let found = decodes bytes (Err fault) ok err (fields_in bytes) again.0 again.1 in
        absurd (cc)
