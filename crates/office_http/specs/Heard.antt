-- What a `Heard` stands for.
use Rattle.std.specs.Prelude.{Option, option_map, string_bytes}
use Rattle.office_http.specs.declared.heard.Heard.{Heard}
use Rattle.office_http.specs.declared.heard.Heard.TheVariants.{Nothing, Refused, Load, Order, Void, OrderUnder, Readings, Total, Report, Page}
use Rattle.office_http.specs.Meanings.{Meaning, nothing, refused, load, order, void, order_under, readings_of, report_of, total_of, page}

abbrev pub meaning_of : Heard → Meaning
meaning_of Nothing = nothing
meaning_of (Refused refusal) = refused refusal
meaning_of (Load caller key list) = load caller key list.items
meaning_of (Order caller key point value) = order caller key (string_bytes point) value
meaning_of (Void caller key point slot) = void caller key (string_bytes point) slot
meaning_of (OrderUnder caller key) = order_under caller key
meaning_of (Readings point from to) = readings_of (string_bytes point) from to
meaning_of (Total point) = total_of (string_bytes point)
meaning_of (Report point from to) = report_of (string_bytes point) from to
meaning_of (Page shown) = page shown

abbrev pub meaning_in : Option Heard → Option Meaning
meaning_in asked = option_map meaning_of asked
