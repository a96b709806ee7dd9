-- The samples of a point in OpenMetrics 1.0.
use Rattle.std.specs.Prelude.{ℕ, ◌*◌, ℤ, pos, List, [], ◌++◌, codes, decimal, Option, Some, None}
use Rattle.sunspec.specs.PointType.{row}
use Rattle.sunspec.specs.Text.{scaled}
use Rattle.sunspec.specs.WordOrder.{number_read}
use Rattle.sunspec.specs.declared.point_type.Content.{Content}
use Rattle.sunspec.specs.declared.point_type.Content.TheVariants.{Address}
use Rattle.point_list.specs.declared.point.Point.{Point}
use Rattle.poll_book.specs.declared.shown.ShownReading.{ShownReading}
use Rattle.office_pages.specs.Escapes.{label_text}
use Rattle.office_pages.specs.declared.seen.Seen.{Seen}

-- the labels of a point
abbrev pub labels : Point → List ℕ
labels point = codes "{device=\"" ++ label_text point.device ++ codes "\",point=\"" ++ label_text point.name ++ codes "\"}"

-- a sample: its name, its labels, its value
abbrev pub sample : List ℕ → Point → List ℕ → List ℕ
sample name point value = name ++ labels point ++ codes " " ++ value ++ codes "\n"

-- an address is shown as a text, though its registers have a number
abbrev pub number_shown_as : Content → Option ℤ → Option ℤ
number_shown_as Address number = None
number_shown_as _ number = number

-- the number that registers of a point show, if they show one
abbrev pub number_of : Point → List ℕ → Option ℤ
number_of point words = number_shown_as (row point.kind).content (number_read point.kind point.order words)

abbrev pub number_in_last : Point → Option ShownReading → Option ℤ
number_in_last point None = None
number_in_last point (Some shown) = number_of point shown.reading.words

abbrev pub value_at : Point → Option ℤ → List ℕ
value_at point None = []
value_at point (Some number) = sample (codes "kimjolde_point_value") point (scaled number point.scale)

-- the number of the last reading, with its scale; nothing where it is no number
abbrev pub value_sample : Seen → List ℕ
value_sample seen = value_at seen.point (number_in_last seen.point seen.last)

abbrev pub time_at : Point → ℕ → Option ShownReading → List ℕ
time_at point seconds None = []
time_at point seconds (Some shown) = sample (codes "kimjolde_point_time_seconds") point (decimal (shown.reading.slot * seconds))

-- when the slot of the last reading began, in slots of so many seconds
abbrev pub time_sample : ℕ → Seen → List ℕ
time_sample seconds seen = time_at seen.point seconds seen.last

abbrev pub total_at : Point → Option ℕ → List ℕ
total_at point None = []
total_at point (Some total) = sample (codes "kimjolde_point_accumulated") point (scaled (pos total) point.scale)

-- how far a counter went, with its scale; nothing of another point
abbrev pub total_sample : Seen → List ℕ
total_sample seen = total_at seen.point seen.total
