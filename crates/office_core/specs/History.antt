-- The history of an office: what callers, the office and devices did, and what follows from it for tables and answers.
-- A history lists what happened, the newest first, so each definition looks only at what stands before.
use Rattle.std.specs.Prelude.{ℕ, ℤ, ◌+◌, Bool, false, not, ◌&&◌, ◌||◌, if◌then◌else◌, ◌==◌, nat_le, List, [], ◌∷◌, ◌++◌, length, Option, Some, None, is_none, slice_get}
use Rattle.std.specs.Str.{bytes_eq}
use Rattle.mb_mbap.specs.declared.frame.Frame.{Frame}
use Rattle.point_list.specs.Edition.{Edition, Second}
use Rattle.point_list.specs.declared.site.Site.{Site}
use Rattle.read_planner.specs.declared.Read.{Read}
use Rattle.poll_book.specs.declared.rows.PointRow.{PointRow}
use Rattle.poll_book.specs.declared.requests.Body.{Body}
use Rattle.poll_book.specs.declared.requests.Body.TheVariants as body
use Rattle.poll_book.specs.declared.requests.Outcome.{Outcome}
use Rattle.poll_book.specs.Orders.{Settings, last_order}
use Rattle.poll_book.specs.Requests.{RequestKey, Requests, with_request}
use Rattle.poll_book.specs.Tables.{Tables, Readings, Voids, marked, with_rows}
use Rattle.poll_book.specs.Totals as totals
use Rattle.office_core.specs.declared.error.OfficeError.{OfficeError}
use Rattle.office_core.specs.declared.error.OfficeError.TheVariants as error
use Rattle.office_core.specs.declared.site.Target.{Target}
use Rattle.office_core.specs.Sites.{no_site, line_place, target}
use Rattle.office_core.specs.Cover.{Question, is_readable, excepts, given_rows}
use Rattle.office_core.specs.Queries.{Query, Reads, Writes, fits}
use Rattle.office_core.specs.Loads.{known_named, loading, outcome, added}
use Rattle.office_core.specs.Orders.{Ordering, ordering_of, ordered, with_ordered, send_fault, writing, settled_by}
use Rattle.office_core.specs.Voids.{Voiding, voiding_of, voided, with_voiding}

-- what may happen. A list is judged by an edition of the form of lists: what callers ask for today is judged by the second, and lists
-- of tables that were made before there was one were judged by the first. A reply is named by its connection and the true number of
-- its query there
pub data Happening : Type 0 where
  Restart : (site : Site) → Happening
  Load : (edition : Edition) (caller key list : List ℕ) → Happening
  Order : (caller key point : List ℕ) (value : ℤ) → Happening
  Void : (caller key point : List ℕ) (slot : ℕ) → Happening
  Open : (line : List ℕ) → Happening
  Ask : (conn : ℕ) (device : List ℕ) (slot : ℕ) (read : Read) → Happening
  Send : (conn number : ℕ) → Happening
  Reply : (conn number : ℕ) (unit : List ℕ) → Happening
  Noise : (conn : ℕ) (frame : Frame) → Happening

abbrev pub History : Type 0
History = List Happening

-- a history that goes on
abbrev pub after : History → List Happening → History
after before [] = before
after before (happening ∷ rest) = after (happening ∷ before) rest

-- the site in force
abbrev pub site_of : History → Site
site_of [] = no_site
site_of (Restart site ∷ before) = site
site_of (_ ∷ before) = site_of before

abbrev pub is_same_key : RequestKey → RequestKey → Bool
is_same_key a b = bytes_eq a.0 b.0 && bytes_eq a.1 b.1

-- a caller asked for something under this key
abbrev pub is_used : History → RequestKey → Bool
is_used [] key = false
is_used (Load edition caller word list ∷ before) key = is_same_key (caller, word) key || is_used before key
is_used (Order caller word point value ∷ before) key = is_same_key (caller, word) key || is_used before key
is_used (Void caller word point slot ∷ before) key = is_same_key (caller, word) key || is_used before key
is_used (_ ∷ before) key = is_used before key

-- the points that were accepted, in order; a list counts where it is the first request under its key
abbrev pub points : History → List PointRow
points [] = []
points (Load edition caller key list ∷ before) =
    if is_used before (caller, key) then points before
    else points before ++ added (length (points before)) (loading edition (site_of before) (points before) list)
points (_ ∷ before) = points before

-- ---- connections

-- the first refusal of an Open that holds, by the place of its line, where so many connections were made
abbrev pub open_fault : Option ℕ → ℕ → Option OfficeError
open_fault None made = Some error.WrongLine
open_fault (Some line) made = if nat_le 4294967295 made then Some error.Exhausted else None

-- how many connections were made; they are numbered from 1
abbrev pub connections : History → ℕ
connections [] = 0
connections (Open line ∷ before) =
    if is_none (open_fault (line_place (site_of before) line) (connections before)) then connections before + 1 else connections before
connections (_ ∷ before) = connections before

abbrev pub same_line : Option ℕ → Option ℕ → Bool
same_line (Some a) (Some b) = a == b
same_line a b = false

-- the line of a connection after this one was opened
abbrev pub line_after : Option ℕ → ℕ → ℕ → Option ℕ → Option ℕ
line_after line new conn former = if conn == new then line else if same_line line former then None else former

-- the line of a connection that is open
abbrev pub open_line : History → ℕ → Option ℕ
open_line [] conn = None
open_line (Restart site ∷ before) conn = None
open_line (Open line ∷ before) conn =
    if is_none (open_fault (line_place (site_of before) line) (connections before))
    then line_after (line_place (site_of before) line) (connections before + 1) conn (open_line before conn)
    else open_line before conn
open_line (_ ∷ before) conn = open_line before conn

-- ---- queries

abbrev pub ask_fault_on : Option Target → ℕ → List PointRow → ℕ → List ℕ → Read → Option OfficeError
ask_fault_on None line known made device read = Some error.WrongLine
ask_fault_on (Some to) line known made device read =
    if not (to.line == line) then Some error.WrongLine
    else if not (is_readable known device read) then Some error.NoRead
    else if nat_le 4294967295 made then Some error.Exhausted
    else None

-- the first refusal of an Ask that holds, of a connection of that line that made so many queries
abbrev pub ask_fault : Option ℕ → Site → List PointRow → ℕ → List ℕ → Read → Option OfficeError
ask_fault None site known made device read = Some error.NoConnection
ask_fault (Some line) site known made device read = ask_fault_on (target site device) line known made device read

abbrev pub question_to : Option Target → List ℕ → ℕ → Read → ℕ → Question
question_to None device slot read known = record { device = device; place = 0; unit_id = 0; slot = slot; read = read; known = known }
question_to (Some to) device slot read known = record { device = device; place = to.place; unit_id = to.unit_id; slot = slot; read = read; known = known }

-- what is asked, of a site and of so many known points
abbrev pub question : Site → List PointRow → List ℕ → ℕ → Read → Question
question site known device slot read = question_to (target site device) device slot read (length known)

abbrev pub fits_query : Option Query → List ℕ → Bool
fits_query None unit = false
fits_query (Some query) unit = fits query unit

-- An order is sent while it waits, and a reply to what was sent settles it: so queries, which of them are answered, and
-- settings are told together
abbrev mutual
  -- the queries that a connection made, in order
  pub asked : History → ℕ → List Query
  asked [] conn = []
  asked (Ask c device slot read ∷ before) conn =
      if c == conn && is_none (ask_fault (open_line before c) (site_of before) (points before) (length (asked before c)) device read)
      then asked before conn ++ Reads (question (site_of before) (points before) device slot read) ∷ []
      else asked before conn
  asked (Send c number ∷ before) conn =
      if c == conn && is_none (send_fault (open_line before c) (site_of before) (points before) (settings before) (length (asked before c)) number)
      then asked before conn ++ Writes (writing (site_of before) (points before) (settings before) number) ∷ []
      else asked before conn
  asked (_ ∷ before) conn = asked before conn

  -- the query was answered
  pub is_answered : History → ℕ → ℕ → Bool
  is_answered [] conn number = false
  is_answered (Reply c n unit ∷ before) conn number =
      (c == conn && (n == number && fits_query (slice_get (asked before conn) number) unit)) || is_answered before conn number
  is_answered (_ ∷ before) conn number = is_answered before conn number

  -- what the accepted orders set, and how they stand
  pub settings : History → Settings
  settings [] = []
  settings (Order caller key point value ∷ before) =
      if is_used before (caller, key) then settings before
      else with_ordered (ordering_of (last_order (settings before)) (known_named (points before) point) value) (settings before)
  settings (Reply c n unit ∷ before) =
      if is_answered before c n then settings before
      else settled_by (slice_get (asked before c) n) unit (settings before)
  settings (_ ∷ before) = settings before

-- ---- voids

-- what becomes of a slot that is voided
abbrev pub voiding_after : Voids → History → List ℕ → ℕ → Voiding
voiding_after table before point slot = voiding_of table (known_named (points before) point) slot

-- the pairs of points and slots that accepted voids name
abbrev pub voids : History → Voids
voids [] = []
voids (Void caller key point slot ∷ before) =
    if is_used before (caller, key) then voids before
    else with_voiding slot (voiding_after (voids before) before point slot) (voids before)
voids (_ ∷ before) = voids before

abbrev pub voiding : History → List ℕ → ℕ → Voiding
voiding before point slot = voiding_after (voids before) before point slot

-- ---- requests

-- what becomes of an order
abbrev pub ordering : History → List ℕ → ℤ → Ordering
ordering before point value = ordering_of (last_order (settings before)) (known_named (points before) point) value

-- what becomes of what a caller asks for, a list by an edition
abbrev pub outcome_of : History → Edition → Body → Outcome
outcome_of before edition (body.List list) = outcome (loading edition (site_of before) (points before) list)
outcome_of before edition (body.Order point value) = ordered (last_order (settings before)) (ordering before point value)
outcome_of before edition (body.Void point slot) = voided slot (voiding before point slot)

abbrev pub first_asked : History → RequestKey → Edition → Body → Requests → Requests
first_asked before key edition asked table =
    if is_used before key then table else with_request key (record { body = asked; outcome = outcome_of before edition asked }) table

-- the first request under each key, with what became of it
abbrev pub requests : History → Requests
requests [] = []
requests (Load edition caller key list ∷ before) = first_asked before (caller, key) edition (body.List list) (requests before)
requests (Order caller key point value ∷ before) = first_asked before (caller, key) Second (body.Order point value) (requests before)
requests (Void caller key point slot ∷ before) = first_asked before (caller, key) Second (body.Void point slot) (requests before)
requests (_ ∷ before) = requests before

-- ---- what first arrivals give

abbrev pub given_by : List PointRow → Option Query → List ℕ → Readings
given_by known None unit = []
given_by known (Some (Reads q)) unit = if fits (Reads q) unit && not (excepts q.read unit) then given_rows known q unit else []
given_by known (Some (Writes w)) unit = []

-- the readings that the first answering reply to each query gives, in order
abbrev pub given : History → Readings
given [] = []
given (Reply c n unit ∷ before) =
    given before ++ (if is_answered before c n then [] else given_by (points before) (slice_get (asked before c) n) unit)
given (_ ∷ before) = given before

-- of each point and slot the earliest
abbrev pub readings : History → Readings
readings before = with_rows (given before) []

-- they are kept as counted where they count and their slots aren't voided
abbrev pub kept_readings : History → Readings
kept_readings before = marked (voids before) (readings before)

-- ---- the tables

abbrev pub tables : History → Tables
tables before = record {
  points = points before;
  readings = kept_readings before;
  voids = voids before;
  totals = totals.totals_of (points before) (kept_readings before);
  settings = settings before;
  requests = requests before;
  connections = connections before;
}

-- how far a counter went by its counted readings
abbrev pub total : History → PointRow → ℕ
total before known = totals.total known (kept_readings before)
