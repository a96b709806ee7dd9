-- The line of a reading.
use Rattle.std.proofs.Common.{◌≡◌, ℕ, zero, suc, ◌-◌, List, [], ◌∷◌, ◌++◌, Option, length, replicate, refl, sym, ap, subst, ◌∙◌, append_assoc, append-nil, arith, lit<}
use Rattle.std.specs.Prelude.{codes, decimal, encode_utf8, unwrap_or}
use Rattle.std.specs.Fmt.{char_count, format_spec, padded_integral, styled_decimal}
use Rattle.std.specs.List.{repeat}
use Rattle.std.proofs.lemmas.Str.{encode_ascii}
use Rattle.sunspec.specs.Value.{AreRegistersOf}
use Rattle.point_list.specs.declared.point.Point.{Point}
use Rattle.office_core.specs.Fitting.{point_text}
use Rattle.poll_book.specs.Showing.{Shown}
use Rattle.office_report.specs.Reports.{line_end, mark_text, slot_text, reading_line}

repeat_spaces : (n : ℕ) → repeat n (encode_utf8 32) ≡ replicate n 32
repeat_spaces zero = refl
repeat_spaces (suc n) = ap (λ l. l ++ repeat n (encode_utf8 32)) (encode_ascii 32 (lit< tt)) ∙ ap (λ l. 32 ∷ l) (repeat_spaces n)

-- what `{:>10}` writes
pub slot_in_ten : (slot : ℕ) → styled_decimal (format_spec 32 3 0 10 18446744073709551615) slot ≡ slot_text slot
unfolding padded_integral char_count
slot_in_ten slot =
    let some : 10 - length (decimal slot) - 0 - char_count [] ≡ 10 - length (decimal slot) = omega arith in
    let none : (10 - length (decimal slot)) - (10 - length (decimal slot)) ≡ 0 = omega arith in
    rw (some, none, repeat_spaces (10 - length (decimal slot))) (simp append-nil)

part_by_part : (slot text mark : List ℕ) → slot ++ 32 ∷ 32 ∷ (text ++ (mark ++ line_end)) ≡ slot ++ codes "  " ++ text ++ mark ++ line_end
part_by_part slot text mark =
    sym (append_assoc (slot ++ codes "  " ++ text) mark line_end
    ∙ append_assoc (slot ++ codes "  ") text (mark ++ line_end)
    ∙ append_assoc slot (codes "  ") (text ++ (mark ++ line_end)))

-- a slot, what the registers show or a dash, and the mark of a voided one
pub line_of : (point : Point) (row : Shown) (slot : List ℕ) (words : List ℕ) (text : Option (List ℕ)) (said mark : List ℕ) → slot ≡ slot_text row.0.0.1
    → words ≡ row.0.1.words → (AreRegistersOf point.kind words → text ≡ point_text point words) → AreRegistersOf point.kind row.0.1.words
    → unwrap_or text (45 ∷ []) ≡ said → mark ≡ mark_text row.1 → slot ++ 32 ∷ 32 ∷ (said ++ (mark ++ line_end)) ≡ reading_line point row
line_of point row slot words text said mark so same shows are dash marked =
    let is : text ≡ point_text point row.0.1.words =
    shows (subst (AreRegistersOf point.kind) (sym same) are) ∙ ap (point_text point) same in
    ap (λ s. s ++ 32 ∷ 32 ∷ (said ++ (mark ++ line_end))) so
    ∙ part_by_part (slot_text row.0.0.1) said mark
    ∙ ap (λ t. slot_text row.0.0.1 ++ codes "  " ++ t ++ mark ++ line_end) (sym dash ∙ ap (λ o. unwrap_or o (45 ∷ [])) is)
    ∙ ap (λ m. slot_text row.0.0.1 ++ codes "  " ++ unwrap_or (point_text point row.0.1.words) (45 ∷ []) ++ m ++ line_end) marked
