-- What a `Place` stands for.
use Rattle.std.specs.Prelude.{Option, Some, None}
use Rattle.office_http.specs.declared.place.Place.{Place as Found}
use Rattle.office_http.specs.declared.place.Place.TheVariants.{Orders, Lists, Voids, Readings, Total, Report, Page, Device}
use Rattle.office_http.specs.Places.{Place, orders, lists, voids, readings, total, report, page, device}

abbrev pub place_in : Found → Place
place_in (Orders caller key) = orders caller.now key.now
place_in (Lists caller key) = lists caller.now key.now
place_in (Voids caller key) = voids caller.now key.now
place_in (Readings point from to) = readings point.now from.now to.now
place_in (Total point) = total point.now
place_in (Report point from to) = report point.now from.now to.now
place_in (Page shown) = page shown
place_in (Device place) = device place.now

abbrev pub place_of : Option Found → Option Place
place_of (Some it) = Some (place_in it)
place_of None = None
