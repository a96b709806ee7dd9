-- Points as rows of JSON.
use Rattle.std.proofs.Common.{◌≡◌, ℕ, ◌*◌, false, ◌||◌, List, Option, Some, None, refl, sym, ap, ◌∙◌, subst}
use Rattle.serde_json.specs.Data.{Data}
use Rattle.serde_json.specs.Written.{has_float}
use Rattle.sunspec.specs.Value.{AreRegistersOf}
use Rattle.point_list.specs.declared.point.Point.{Point}
use Rattle.poll_book.specs.declared.shown.ShownReading.{ShownReading}
use Rattle.office_core.specs.Fitting.{HasForm, point_text}
use Rattle.office_pages.specs.Moments.{IsTimeText}
use Rattle.office_pages.specs.PointRows.{IsFitting, IsLast, IsReading, members_of, reading_data, row_data, text_data, total_data}
use Rattle.office_pages.specs.declared.seen.Seen.{Seen}

-- a reading is its parts
pub reading_is : (seconds : ℕ) (point : Point) (shown : ShownReading) (start : ℕ) (time : Option (List ℕ)) (words : List ℕ) (text : Option (List ℕ)) (as_time as_text reading : Data)
    → start ≡ shown.reading.slot * seconds → IsTimeText start time → as_time ≡ text_data time
    → words ≡ shown.reading.words → (HasForm point → AreRegistersOf point.kind words → text ≡ point_text point words) → as_text ≡ text_data text
    → IsFitting point shown → reading ≡ members_of shown as_time as_text → IsReading seconds point shown reading
reading_is seconds point shown start time words text as_time as_text reading begins timed is_time same shows is_text fits made =
    let shown_text : text ≡ point_text point shown.reading.words =
    shows fits.0 (subst (AreRegistersOf point.kind) (sym same) fits.1) ∙ ap (point_text point) same in (
      time,
      subst (λ s. IsTimeText s time) begins timed,
      made ∙ ap (λ t. members_of shown t as_text) is_time ∙ ap (λ t. members_of shown (text_data time) t) (is_text ∙ ap text_data shown_text),
    )

no_float-text : (text : Option (List ℕ)) → has_float (text_data text) ≡ false
no_float-text None = refl
no_float-text (Some text) = refl

no_float-total : (point : Point) (total : Option ℕ) → has_float (total_data point total) ≡ false
no_float-total point None = refl
no_float-total point (Some total) = refl

no_float-reading : (point : Point) (shown : ShownReading) (time : Option (List ℕ)) → has_float (reading_data point shown time) ≡ false
no_float-reading point shown time =
    ap (λ b. b || (has_float (text_data (point_text point shown.reading.words)) || false)) (no_float-text time)
    ∙ ap (λ b. b || false) (no_float-text (point_text point shown.reading.words))

no_float-last : (seconds : ℕ) (point : Point) (last : Option ShownReading) (value : Data) → IsLast seconds point last value → has_float value ≡ false
no_float-last seconds point None value is = ap has_float is
no_float-last seconds point (Some shown) value is = ap has_float is.2 ∙ no_float-reading point shown is.0

-- a row has no float
pub no_float : (seconds : ℕ) (seen : Seen) (last : Data) → IsLast seconds seen.point seen.last last → has_float (row_data seen last) ≡ false
no_float seconds seen last is =
    ap (λ b. b || (has_float (total_data seen.point seen.total) || false)) (no_float-last seconds seen.point seen.last last is)
    ∙ ap (λ b. b || false) (no_float-total seen.point seen.total)
