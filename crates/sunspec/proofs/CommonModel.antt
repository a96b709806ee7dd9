-- The values of model 1 among the registers that stand side by side.
use Rattle.std.proofs.Common.{◌≡◌, ℕ, ◌+◌, ◌<◌, ◌≤◌, List, length, get_or, take, drop, Some, None, sym, subst, arith, length-drop, length-take, get_or-drop, get_or-take}
use Rattle.sunspec.specs.PointType.{row}
use Rattle.sunspec.specs.Sources.{Image, IsRead, Stand, register_at}
use Rattle.sunspec.specs.Value.{AreRegistersOf, value}
use Rattle.sunspec.specs.Chains.{AreCommon, HasValue, LacksValue}
use Rattle.sunspec.specs.declared.chain.Common.{Common}
use Rattle.sunspec.specs.declared.point_type.PointType.{PointType}
use Rattle.sunspec.specs.declared.point_type.PointType.TheVariants.{Str, Uint16}
use Rattle.sunspec.specs.declared.value.Value.{Value}
use Rattle.sunspec.proofs.Walked.{past_last}

-- past the last address a register of the values isn't there
pub lacks_last : (image : Image) (address : ℕ) → 65470 ≤ address → LacksValue image address
lacks_last image address late = (66, omega arith, omega arith, past_last image (address + 66) (omega arith))

-- what a read of them lacks, the values lack
pub lacks_one : (image : Image) (address : ℕ) → IsRead image (address + 2) 65 None → LacksValue image address
lacks_one image address (k, lt, none) =
    let same : address + 2 + k ≡ address + (k + 2) = omega arith in
    (k + 2, omega arith, omega arith, subst (λ n. register_at image n ≡ None) same none)

-- ---- some of the registers

part_length : (words : List ℕ) (from n : ℕ) → from + n ≤ length words → length (take n (drop from words)) ≡ n
part_length words from n fits = simp (length-take, length-drop) (omega arith)

pub text_part : (words : List ℕ) (from n : ℕ) → from + n ≤ length words → AreRegistersOf (Str n) (take n (drop from words))
unfolding row
text_part words from n fits = record { count = part_length words from n fits; cell = λ is. cc }

pub number_part : (words : List ℕ) (from : ℕ) → from + 1 ≤ length words → AreRegistersOf Uint16 (take 1 (drop from words))
unfolding row
number_part words from fits = record { count = part_length words from 1 fits; cell = λ is. cc }

-- they stand behind the others
stand_part : (image : Image) (start : ℕ) (words : List ℕ) (from n : ℕ) → from + n ≤ length words
    → Stand image start words → Stand image (start + from) (take n (drop from words))
stand_part image start words from n fits stand k lt =
    let few : k < n = subst (λ m. k < m) (part_length words from n fits) lt in
    let same : get_or (take n (drop from words)) k 0 ≡ get_or words (from + k) 0 = rw (get_or-take, get_or-drop) in
    let there : start + from + k ≡ start + (from + k) = omega arith in
    subst (λ a. register_at image a ≡ Some (get_or (take n (drop from words)) k 0)) (sym there)
    (subst (λ w. register_at image (start + (from + k)) ≡ Some w) (sym same) (stand (from + k) (omega arith)))

value_part : (image : Image) (start : ℕ) (words : List ℕ) (kind : PointType) (from n address : ℕ) (v : Value) → from + n ≤ length words
    → address ≡ start + from → Stand image start words → AreRegistersOf kind (take n (drop from words)) → v ≡ value kind (take n (drop from words))
    → HasValue image address kind v
value_part image start words kind from n address v fits is stand registers says =
    (take n (drop from words), registers, subst (λ a. Stand image a (take n (drop from words))) (sym is) (stand_part image start words from n fits stand), says)

-- ---- all of them

pub record AreValuesIn (words : List ℕ) (common : Common) : Type 0 where
  pub mn : common.mn ≡ value (Str 16) (take 16 (drop 0 words))
  pub md : common.md ≡ value (Str 16) (take 16 (drop 16 words))
  pub opt : common.opt ≡ value (Str 8) (take 8 (drop 32 words))
  pub vr : common.vr ≡ value (Str 8) (take 8 (drop 40 words))
  pub sn : common.sn ≡ value (Str 16) (take 16 (drop 48 words))
  pub da : common.da ≡ value Uint16 (take 1 (drop 64 words))

module _ (image : Image) (address : ℕ) (words : List ℕ) (common : Common) (count : length words ≡ 65) (stand : Stand image (address + 2) words) (values : AreValuesIn words common) where
  text : (from n at : ℕ) (v : Value) → from + n ≤ 65 → at ≡ address + 2 + from → v ≡ value (Str n) (take n (drop from words)) → HasValue image at (Str n) v
  text from n at v fits is says =
      let room : from + n ≤ length words = omega arith in
      value_part image (address + 2) words (Str n) from n at v room is stand (text_part words from n room) says

  pub are_common : AreCommon image address common
  are_common =
      let room : 64 + 1 ≤ length words = omega arith in
      record {
        mn = text 0 16 (address + 2) common.mn (omega arith) (omega arith) values.mn;
        md = text 16 16 (address + 18) common.md (omega arith) (omega arith) values.md;
        opt = text 32 8 (address + 34) common.opt (omega arith) (omega arith) values.opt;
        vr = text 40 8 (address + 42) common.vr (omega arith) (omega arith) values.vr;
        sn = text 48 16 (address + 50) common.sn (omega arith) (omega arith) values.sn;
        da = value_part image (address + 2) words Uint16 64 1 (address + 66) common.da room (omega arith) stand (number_part words 64 room) values.da;
      }
