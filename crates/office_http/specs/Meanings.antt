-- What a head and the bytes behind it ask for, by the first check that fails.
use Rattle.std.specs.Prelude.{ℕ, Bool, ◌&&◌, nat_le, nat_eq, ℤ, List, length, take, codes, Option, Some, None, if◌then◌else◌}
use Rattle.std.specs.Cmp.Lexicographic.{pointwise}
use Rattle.poll_book.specs.Callers.{is_caller, is_key}
use Rattle.office_http.specs.declared.fields.Length.{Length}
use Rattle.office_http.specs.declared.fields.Length.TheVariants as size
use Rattle.office_http.specs.declared.heard.Page.{Page}
use Rattle.office_http.specs.declared.heard.Page.TheVariants.{Device}
use Rattle.office_http.specs.declared.heard.Methods.TheVariants.{Get, Put, GetPut}
use Rattle.office_http.specs.declared.heard.Refusal.{Refusal}
use Rattle.office_http.specs.declared.heard.Refusal.TheVariants.{BadRequest, NotFound, NotAllowed, LengthRequired, TooLarge}
use Rattle.office_http.specs.Fields.{FieldText, length_of}
use Rattle.office_http.specs.Numbers.{slot_of, range_of}
use Rattle.office_http.specs.Orders.{order_of}
use Rattle.office_http.specs.Places.{Place, orders, lists, voids, readings, total, report, device}
use Rattle.office_http.specs.Places as place
use Rattle.office_http.specs.Voids.{void_of}

pub data Meaning : Type 0 where
  -- no byte came
  nothing : Meaning
  refused : Refusal → Meaning
  load : (caller key list : List ℕ) → Meaning
  order : (caller key point : List ℕ) (value : ℤ) → Meaning
  void : (caller key point : List ℕ) (slot : ℕ) → Meaning
  order_under : (caller key : List ℕ) → Meaning
  readings_of : (point : List ℕ) (from to : ℕ) → Meaning
  total_of : (point : List ℕ) → Meaning
  report_of : (point : List ℕ) (from to : ℕ) → Meaning
  page : Page → Meaning

abbrev pub is_method : List ℕ → List ℕ → Bool
is_method name method = pointwise nat_eq method name

abbrev pub is_get : List ℕ → Bool
is_get = is_method (codes "GET")

abbrev pub is_put : List ℕ → Bool
is_put = is_method (codes "PUT")

-- what a body of this length asks for, once all of it is there
abbrev pub with_body : (List ℕ → Meaning) → List ℕ → Length → Option Meaning
with_body make rest size.Missing = Some (refused LengthRequired)
with_body make rest size.Bad = Some (refused BadRequest)
with_body make rest size.TooLarge = Some (refused TooLarge)
with_body make rest (size.Of n) = if nat_le n (length rest) then Some (make (take n rest)) else None

-- the order that a body names
abbrev pub ordered : List ℕ → List ℕ → Option (List ℕ × ℤ) → Meaning
ordered caller key (Some it) = order caller key it.0 it.1
ordered caller key None = refused BadRequest

-- the void that a body names
abbrev pub voided : List ℕ → List ℕ → Option (List ℕ × ℕ) → Meaning
voided caller key (Some it) = void caller key it.0 it.1
voided caller key None = refused BadRequest

-- what is asked for over a range of slots
abbrev pub in_range : (ℕ → ℕ → Meaning) → Option (ℕ × ℕ) → Meaning
in_range make (Some range) = make range.0 range.1
in_range make None = refused BadRequest

-- the page of the device at a place
abbrev pub device_page : Option ℕ → Meaning
device_page (Some at) = page (Device at)
device_page None = refused BadRequest

-- a caller and a key in their form
abbrev pub are_words : List ℕ → List ℕ → Bool
are_words caller key = is_caller caller && is_key key

-- what a method asks for at a place; none while bytes of the body lack
abbrev pub asked_at : Place → List ℕ → List FieldText → List ℕ → Option Meaning
asked_at (orders caller key) method fields rest =
    if is_get method then Some (if are_words caller key then order_under caller key else refused BadRequest)
    else if is_put method then (if are_words caller key then with_body (λ body. ordered caller key (order_of body)) rest (length_of fields) else Some (refused BadRequest))
    else Some (refused (NotAllowed GetPut))
asked_at (lists caller key) method fields rest =
    if is_put method then (if are_words caller key then with_body (load caller key) rest (length_of fields) else Some (refused BadRequest))
    else Some (refused (NotAllowed Put))
asked_at (voids caller key) method fields rest =
    if is_put method then (if are_words caller key then with_body (λ body. voided caller key (void_of body)) rest (length_of fields) else Some (refused BadRequest))
    else Some (refused (NotAllowed Put))
asked_at (readings point from to) method fields rest =
    if is_get method then Some (in_range (readings_of point) (range_of (slot_of from) (slot_of to))) else Some (refused (NotAllowed Get))
asked_at (total point) method fields rest = if is_get method then Some (total_of point) else Some (refused (NotAllowed Get))
asked_at (report point from to) method fields rest =
    if is_get method then Some (in_range (report_of point) (range_of (slot_of from) (slot_of to))) else Some (refused (NotAllowed Get))
asked_at (place.page shown) method fields rest = if is_get method then Some (page shown) else Some (refused (NotAllowed Get))
asked_at (device at) method fields rest = if is_get method then Some (device_page (slot_of at)) else Some (refused (NotAllowed Get))

abbrev pub asked_of : Option Place → List ℕ → List FieldText → List ℕ → Option Meaning
asked_of (Some place) method fields rest = asked_at place method fields rest
asked_of None method fields rest = Some (refused NotFound)
