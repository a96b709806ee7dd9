-- What histories that are written out come to, of sites with one line.
use Rattle.std.proofs.Common.{◌≡◌, ◌%◌, ℕ, zero, suc, true, false, ltb, List, [], ◌∷◌, ◌++◌, length, Some, None, IsSome, inl, inr, refl, sym, ap, ◌∙◌, subst, arith, codes, pos, negsuc}
use Rattle.std.specs.Prelude.{slice_get}
use Rattle.std.specs.List.{list_all}
use Rattle.std.proofs.lemmas.Bool.{and_parts, ltb-true}
use Rattle.std.proofs.lemmas.Option.{none-some, same_Some}
use Rattle.mb_mbap.specs.declared.frame.Frame.{Frame}
use Rattle.mb_pdu.specs.declared.table.Table.TheVariants.{Holding}
use Rattle.mb_pdu.specs.Packing.{two, unworded}
use Rattle.mb_pdu.specs.Replies.{IsBytes}
use Rattle.sunspec.specs.declared.point_type.PointType.{PointType}
use Rattle.sunspec.specs.declared.point_type.PointType.TheVariants.{Uint16, Acc32}
use Rattle.sunspec.specs.declared.word_order.WordOrder.TheVariants.{Big}
use Rattle.point_list.specs.Edition.{Second}
use Rattle.point_list.specs.declared.error.ListFault.TheVariants.{LeftOutType, UnknownDevice}
use Rattle.point_list.specs.declared.site.Site.{Site}
use Rattle.point_list.specs.declared.point.Point.{Point}
use Rattle.point_list.specs.declared.point.Role.TheVariants.{Gauge, Counter}
use Rattle.point_list.specs.Sites.{IsSound, all_differ}
use Rattle.point_list.proofs.OnLiterals.{lists_on_literals}
use Rattle.read_planner.specs.declared.Read.{Read}
use Rattle.poll_match.specs.Window.{numbered}
use Rattle.poll_book.specs.declared.rows.PointRow.{PointRow}
use Rattle.poll_book.specs.declared.rows.Reading.{Reading}
use Rattle.poll_book.specs.declared.rows.OrderState.TheVariants.{Waiting, Done, Refused}
use Rattle.poll_book.specs.declared.rows.Setting.{Setting}
use Rattle.poll_book.specs.declared.requests.Body.TheVariants as body
use Rattle.poll_book.specs.declared.requests.Outcome.{Outcome}
use Rattle.poll_book.specs.declared.requests.Outcome.TheVariants as outcome
use Rattle.poll_book.specs.declared.requests.RequestFault.{RequestFault}
use Rattle.poll_book.specs.declared.requests.RequestFault.TheVariants as fault
use Rattle.poll_book.specs.Tables.{Tables, Readings, reading_at}
use Rattle.office_core.specs.declared.error.OfficeError.TheVariants as error
use Rattle.office_core.specs.declared.event.Arrival.TheVariants.{Recorded, Settled, Excepted}
use Rattle.office_core.specs.declared.event.EventAnswer.{EventAnswer}
use Rattle.office_core.specs.declared.event.EventAnswer.TheVariants as answer
use Rattle.office_core.specs.declared.event.RequestAnswer.TheVariants.{Kept, KeyReused}
use Rattle.office_core.specs.Queries.{Query, Reads}
use Rattle.office_core.specs.History.{Happening, Restart, Load, Order, Open, Ask, Send, Reply, Noise, History, after, points, open_line, asked, settings, readings, tables, total}
use Rattle.office_core.specs.Loads.{Taken, loading}
use Rattle.office_core.specs.Answers.{answer_of, answers_of}
use Rattle.office_core.specs.Legal.{IsNoise, IsTimely, MayHappen, Legal, frame_answers}

-- what to unfold to compute what becomes of a history
unfoldable pub histories_on_literals : Unit {0}
unfolding lists_on_literals unworded
histories_on_literals = tt

-- ---- the site, its lists and its device's replies

abbrev roof : Site
roof =
    record {
      lines = record { name = codes "roof"; address = codes "127.0.0.1:502"; outstanding = 16 } ∷ [];
      devices = record { name = codes "m1"; line = 0; unit = 17; gap = 8; models = [] } ∷ [];
    }

-- a request of Ann's for a list, and one for a value of a point
abbrev loads : List ℕ → List ℕ → Happening
loads key list = Load Second (codes "ann") key list

abbrev orders : List ℕ → List ℕ → ℕ → Happening
orders key point value = Order (codes "ann") key point (pos value)

-- the answer to a first request, and to one that comes again
abbrev first : Outcome → EventAnswer
first outcome = answer.Request (Kept true outcome)

abbrev again : Outcome → EventAnswer
again outcome = answer.Request (Kept false outcome)

-- three gauges
abbrev gauges : List ℕ
gauges =
    codes "name,device,table,address,type,length,scale,role,roll\na,m1,holding,107,uint16,,,gauge,\nb,m1,holding,108,uint16,,,gauge,\n"
    ++ codes "c,m1,holding,109,uint16,,,gauge,\n"

-- the first and the last of them, and then the other
abbrev outer_gauges : List ℕ
outer_gauges = codes "name,device,table,address,type,length,scale,role,roll\na,m1,holding,107,uint16,,,gauge,\nc,m1,holding,109,uint16,,,gauge,\n"

abbrev inner_gauge : List ℕ
inner_gauge = codes "name,device,table,address,type,length,scale,role,roll\nb,m1,holding,108,uint16,,,gauge,\n"

-- a new point, and one at another address than the known one of its name
abbrev moved_gauge : List ℕ
moved_gauge = codes "name,device,table,address,type,length,scale,role,roll\nd,m1,holding,110,uint16,,,gauge,\na,m1,holding,106,uint16,,,gauge,\n"

-- a new point, and one of a type that is left out
abbrev real_gauge : List ℕ
real_gauge = codes "name,device,table,address,type,length,scale,role,roll\nd,m1,holding,110,uint16,,,gauge,\ne,m1,holding,111,float32,,,gauge,\n"

-- one counter, whose roll is its type's; one whose roll is 99; and one of two registers, of which 0 is no number
abbrev counter : List ℕ
counter = codes "name,device,table,address,type,length,scale,role,roll\ne,m1,holding,107,uint16,,,counter,\n"

abbrev small_counter : List ℕ
small_counter = codes "name,device,table,address,type,length,scale,role,roll\ne,m1,holding,107,uint16,,,counter,99\n"

abbrev long_counter : List ℕ
long_counter = codes "name,device,table,address,type,length,scale,role,roll\ne,m1,holding,107,acc32,,,counter,\n"

-- the points that they list
abbrev gauge_point : List ℕ → ℕ → Point
gauge_point name address =
    record { name = name; device = codes "m1"; table = Holding; address = address; kind = Uint16; scale = pos 0; role = Gauge; roll = 0; order = Big }

abbrev counter_row : PointType → ℕ → PointRow
counter_row kind roll =
    record {
      number = 1;
      point = record { name = codes "e"; device = codes "m1"; table = Holding; address = 107; kind = kind; scale = pos 0; role = Counter; roll = roll; order = Big };
    }

-- a read of holding registers
abbrev read : ℕ → ℕ → Read
read start quantity = record { function = 3; span = record { start = start; quantity = quantity } }

-- the reply with registers 555, 0 and 100, the one with 1, 2 and 3, and an exception
abbrev normal : List ℕ
normal = 3 ∷ 6 ∷ 2 ∷ 43 ∷ 0 ∷ 0 ∷ 0 ∷ 100 ∷ []

abbrev other : List ℕ
other = 3 ∷ 6 ∷ 0 ∷ 1 ∷ 0 ∷ 2 ∷ 0 ∷ 3 ∷ []

abbrev exception : List ℕ
exception = 131 ∷ 2 ∷ []

-- the reading of a gauge, which isn't counted
abbrev uncounted : ℕ → Reading
uncounted word = record { words = word ∷ []; counted = false }

-- ---- three gauges

abbrev three : History
three = after [] (Restart roof ∷ loads (codes "l1") gauges ∷ Open (codes "roof") ∷ [])

abbrev ask : Happening
ask = Ask 1 (codes "m1") 1 (read 107 3)

abbrev asked_once : History
asked_once = after three (ask ∷ [])

-- the list is taken whole
pub gauges_taken : loading Second roof [] gauges ≡ Taken 3 (gauge_point (codes "a") 107 ∷ gauge_point (codes "b") 108 ∷ gauge_point (codes "c") 109 ∷ [])
unfolding histories_on_literals
gauges_taken = refl

-- the query has transaction 0 and the device's unit identifier, and asks for three registers from 107
pub query_of_three : answer_of three ask ≡ answer.Query (record { transaction = 0; unit_id = 17; unit = 3 ∷ 0 ∷ 107 ∷ 0 ∷ 3 ∷ [] })
unfolding histories_on_literals
query_of_three = refl

-- the points that the list has
abbrev three_rows : List PointRow
three_rows =
    record { number = 1; point = gauge_point (codes "a") 107 }
    ∷ record { number = 2; point = gauge_point (codes "b") 108 }
    ∷ record { number = 3; point = gauge_point (codes "c") 109 } ∷ []

pub three_known : points three ≡ three_rows
unfolding histories_on_literals
three_known = refl

-- the readings of its reply
abbrev three_words : Readings
three_words = ((1, 1), uncounted 555) ∷ ((2, 1), uncounted 0) ∷ ((3, 1), uncounted 100) ∷ []

pub three_recorded : answer_of asked_once (Reply 1 0 normal) ≡ answer.Arrived (Recorded 3)
unfolding histories_on_literals
three_recorded = refl

pub three_readings : readings (after asked_once (Reply 1 0 normal ∷ [])) ≡ three_words
unfolding histories_on_literals
three_readings = refl

-- what an office keeps of them
abbrev three_tables : Tables
three_tables = record {
  points = three_rows;
  readings = three_words;
  voids = [];
  totals = [];
  settings = [];
  requests = ((codes "ann", codes "l1"), record { body = body.List gauges; outcome = outcome.Loaded 3 }) ∷ [];
  connections = 1;
}

pub three_kept : tables (after asked_once (Reply 1 0 normal ∷ [])) ≡ three_tables
unfolding histories_on_literals
three_kept = refl

-- ---- replies that come again

-- a second reply to a query is refused, the same or another
pub repeats_refused : answers_of (after asked_once (Reply 1 0 normal ∷ [])) (Reply 1 0 normal ∷ Reply 1 0 other ∷ [])
    ≡ answer.Refused error.Repeat ∷ answer.Refused error.Repeat ∷ []
unfolding histories_on_literals
repeats_refused = refl

-- and changes no table
repeats_kept : tables (after asked_once (Reply 1 0 normal ∷ Reply 1 0 normal ∷ Reply 1 0 other ∷ [])) ≡ three_tables
unfolding histories_on_literals
repeats_kept = refl

pub repeats_change_nothing : tables (after asked_once (Reply 1 0 normal ∷ Reply 1 0 normal ∷ Reply 1 0 other ∷ []))
    ≡ tables (after asked_once (Reply 1 0 normal ∷ []))
repeats_change_nothing = repeats_kept ∙ sym three_kept

-- an exception answers its query; the same read asked again is another query, whose reply is recorded
pub exception_then_reply : answers_of asked_once (Reply 1 0 exception ∷ ask ∷ Reply 1 0 normal ∷ Reply 1 1 normal ∷ [])
    ≡ answer.Arrived (Excepted 2)
    ∷ answer.Query (record { transaction = 1; unit_id = 17; unit = 3 ∷ 0 ∷ 107 ∷ 0 ∷ 3 ∷ [] })
    ∷ answer.Refused error.Repeat
    ∷ answer.Arrived (Recorded 3) ∷ []
unfolding histories_on_literals
exception_then_reply = refl

-- ---- how far a counter went

-- a counter that was asked for slots 1, 2 and 3, by queries 0, 1 and 2
abbrev counting : List ℕ → ℕ → History
counting list registers =
    after [] (Restart roof ∷ loads (codes "l1") list ∷ Open (codes "roof")
    ∷ Ask 1 (codes "m1") 1 (read 107 registers) ∷ Ask 1 (codes "m1") 2 (read 107 registers) ∷ Ask 1 (codes "m1") 3 (read 107 registers) ∷ [])

-- a reply of one register, and one of two
abbrev one : ℕ → ℕ → Happening
one query word = Reply 1 query (3 ∷ 2 ∷ two word)

abbrev pair : ℕ → ℕ → Happening
pair query word = Reply 1 query (3 ∷ 4 ∷ 0 ∷ 0 ∷ two word)

-- how far the counter went after these
abbrev went : List Happening → ℕ
went rest = total (after (counting counter 1) rest) (counter_row Uint16 65535)

pub counter_known : points (counting counter 1) ≡ counter_row Uint16 65535 ∷ []
unfolding histories_on_literals
counter_known = refl

-- slot 2 not there
pub went_with_a_gap : went (one 0 65000 ∷ one 2 500 ∷ []) ≡ 1036
unfolding histories_on_literals
went_with_a_gap = refl

-- slot 2 late, between its neighbours
pub went_with_one_late : went (one 0 65000 ∷ one 2 500 ∷ one 1 65500 ∷ []) ≡ 1036
unfolding histories_on_literals
went_with_one_late = refl

-- slot 2 late, and less than slot 1: the counter rolled over twice
pub went_round_twice : went (one 0 65000 ∷ one 2 500 ∷ one 1 64000 ∷ []) ≡ 66572
unfolding histories_on_literals
went_round_twice = refl

-- in each order of arrival
pub went_in_each_order : (went (one 0 65000 ∷ one 1 64000 ∷ one 2 500 ∷ []) ≡ 66572)
    × (went (one 0 65000 ∷ one 2 500 ∷ one 1 64000 ∷ []) ≡ 66572)
    × (went (one 1 64000 ∷ one 0 65000 ∷ one 2 500 ∷ []) ≡ 66572)
    × (went (one 1 64000 ∷ one 2 500 ∷ one 0 65000 ∷ []) ≡ 66572)
    × (went (one 2 500 ∷ one 0 65000 ∷ one 1 64000 ∷ []) ≡ 66572)
    × (went (one 2 500 ∷ one 1 64000 ∷ one 0 65000 ∷ []) ≡ 66572)
unfolding histories_on_literals
went_in_each_order = (refl, refl, refl, refl, refl, refl)

-- a counter with no reading, and with one
pub went_nowhere : went [] ≡ 0
unfolding histories_on_literals
went_nowhere = refl

pub went_nowhere_yet : went (one 0 700 ∷ []) ≡ 0
unfolding histories_on_literals
went_nowhere_yet = refl

-- ---- readings that don't count

-- 0 is no value of an accumulator
abbrev accumulated : History
accumulated = after (counting long_counter 2) (pair 0 100 ∷ pair 1 0 ∷ pair 2 150 ∷ [])

pub long_counter_known : points accumulated ≡ counter_row Acc32 4294967295 ∷ []
unfolding histories_on_literals
long_counter_known = refl

pub accumulated_readings : readings accumulated
    ≡ ((1, 1), record { words = 0 ∷ 100 ∷ []; counted = true })
    ∷ ((1, 2), record { words = 0 ∷ 0 ∷ []; counted = false })
    ∷ ((1, 3), record { words = 0 ∷ 150 ∷ []; counted = true }) ∷ []
unfolding histories_on_literals
accumulated_readings = refl

pub accumulated_total : total accumulated (counter_row Acc32 4294967295) ≡ 50
unfolding histories_on_literals
accumulated_total = refl

-- a number past the roll doesn't count
abbrev rolled : History
rolled = after (counting small_counter 1) (one 0 90 ∷ one 1 150 ∷ one 2 20 ∷ [])

pub small_counter_known : points rolled ≡ counter_row Uint16 99 ∷ []
unfolding histories_on_literals
small_counter_known = refl

pub rolled_readings : readings rolled
    ≡ ((1, 1), record { words = 90 ∷ []; counted = true })
    ∷ ((1, 2), record { words = 150 ∷ []; counted = false })
    ∷ ((1, 3), record { words = 20 ∷ []; counted = true }) ∷ []
unfolding histories_on_literals
rolled_readings = refl

pub rolled_total : total rolled (counter_row Uint16 99) ≡ 30
unfolding histories_on_literals
rolled_total = refl

-- ---- a point that is loaded between a query and its reply

abbrev loaded_late : History
loaded_late = after [] (Restart roof ∷ loads (codes "l1") outer_gauges ∷ Open (codes "roof") ∷ ask ∷ loads (codes "l2") inner_gauge ∷ [])

-- the reply covers it and is recorded for the two that were known
pub late_point_not_recorded : answer_of loaded_late (Reply 1 0 normal) ≡ answer.Arrived (Recorded 2)
unfolding histories_on_literals
late_point_not_recorded = refl

pub late_point_has_no_reading : reading_at (readings (after loaded_late (Reply 1 0 normal ∷ []))) (3, 1) ≡ None
unfolding histories_on_literals
late_point_has_no_reading = refl

pub late_point_known : points loaded_late
    ≡ record { number = 1; point = gauge_point (codes "a") 107 }
    ∷ record { number = 2; point = gauge_point (codes "c") 109 }
    ∷ record { number = 3; point = gauge_point (codes "b") 108 } ∷ []
unfolding histories_on_literals
late_point_known = refl

-- ---- a line that is opened again

-- its former connection is closed, and the new one numbers its queries from 0
pub opened_again : answers_of asked_once (Open (codes "roof") ∷ Ask 1 (codes "m1") 2 (read 107 3) ∷ Ask 2 (codes "m1") 2 (read 107 3) ∷ [])
    ≡ answer.Opened 2
    ∷ answer.Refused error.NoConnection
    ∷ answer.Query (record { transaction = 0; unit_id = 17; unit = 3 ∷ 0 ∷ 107 ∷ 0 ∷ 3 ∷ [] }) ∷ []
unfolding histories_on_literals
opened_again = refl

-- no reply comes over a connection whose line was opened again
pub no_reply_over_a_former_connection : IsTimely (after asked_once (Open (codes "roof") ∷ [])) 1 0 → ⊥
unfolding histories_on_literals
no_reply_over_a_former_connection timely = let e : false ≡ true = timely.0 in absurd (cc)

-- no reply comes after a restart
pub no_reply_after_a_restart : IsTimely (after asked_once (Restart roof ∷ [])) 1 0 → ⊥
unfolding histories_on_literals
no_reply_after_a_restart timely = let e : false ≡ true = timely.0 in absurd (cc)

-- ---- lists that are refused, and a list that comes again

pub moved_refused : answer_of three (loads (codes "l2") moved_gauge)
    ≡ first (outcome.RefusedFor (record { fault = fault.PointDiffers; row = 3; column = 1 }))
unfolding histories_on_literals
moved_refused = refl

moved_known : points (after three (loads (codes "l2") moved_gauge ∷ [])) ≡ three_rows
unfolding histories_on_literals
moved_known = refl

pub moved_adds_nothing : points (after three (loads (codes "l2") moved_gauge ∷ [])) ≡ points three
moved_adds_nothing = moved_known ∙ sym three_known

pub left_out_refused : answer_of three (loads (codes "l2") real_gauge)
    ≡ first (outcome.RefusedFor (record { fault = fault.List LeftOutType; row = 3; column = 5 }))
unfolding histories_on_literals
left_out_refused = refl

left_out_known : points (after three (loads (codes "l2") real_gauge ∷ [])) ≡ three_rows
unfolding histories_on_literals
left_out_known = refl

pub left_out_adds_nothing : points (after three (loads (codes "l2") real_gauge ∷ [])) ≡ points three
left_out_adds_nothing = left_out_known ∙ sym three_known

pub again_loaded : answer_of three (loads (codes "l2") gauges) ≡ first (outcome.Loaded 3)
unfolding histories_on_literals
again_loaded = refl

again_known : points (after three (loads (codes "l2") gauges ∷ [])) ≡ three_rows
unfolding histories_on_literals
again_known = refl

pub again_adds_nothing : points (after three (loads (codes "l2") gauges ∷ [])) ≡ points three
again_adds_nothing = again_known ∙ sym three_known

-- ---- requests and orders

-- a setting and a gauge; with another setting; and a point of a device that the site hasn't
abbrev limits : List ℕ
limits = codes "name,device,table,address,type,length,scale,role,roll\nlim,m1,holding,40,uint16,,,setting,\na,m1,holding,107,uint16,,,gauge,\n"

abbrev more_limits : List ℕ
more_limits = codes "name,device,table,address,type,length,scale,role,roll\nzz,m1,holding,41,uint16,,,setting,\n"

abbrev far_gauge : List ℕ
far_gauge = codes "name,device,table,address,type,length,scale,role,roll\nb,m2,holding,107,uint16,,,gauge,\n"

-- the site with that device as well
abbrev wider_roof : Site
wider_roof =
    record {
      lines = record { name = codes "roof"; address = codes "127.0.0.1:502"; outstanding = 16 } ∷ [];
      devices = record { name = codes "m1"; line = 0; unit = 17; gap = 8; models = [] } ∷ record { name = codes "m2"; line = 0; unit = 18; gap = 8; models = [] } ∷ [];
    }

-- a refusal that names no record
abbrev refused_for : RequestFault → Outcome
refused_for fault = outcome.RefusedFor (record { fault = fault; row = 0; column = 0 })

abbrev limited : History
limited = after [] (Restart roof ∷ loads (codes "l1") limits ∷ [])

-- an order is taken once; under its key the same is told again, and another value is refused
pub order_taken_once : answers_of limited (orders (codes "k1") (codes "lim") 80 ∷ orders (codes "k1") (codes "lim") 80 ∷ orders (codes "k1") (codes "lim") 81 ∷ [])
    ≡ first (outcome.Ordered 1) ∷ again (outcome.Ordered 1) ∷ answer.Request KeyReused ∷ []
unfolding histories_on_literals
order_taken_once = refl

-- 65,535 means unimplemented, and no register has it as its value
pub order_out_of_range : answers_of limited (orders (codes "k1") (codes "lim") 80 ∷ orders (codes "k2") (codes "lim") 65535 ∷ [])
    ≡ first (outcome.Ordered 1) ∷ first (refused_for fault.OutOfRange) ∷ []
unfolding histories_on_literals
order_out_of_range = refl

-- a refusal under a key stays, also where the same would be taken later
pub refusal_stays : answers_of limited (orders (codes "k3") (codes "zz") 5 ∷ loads (codes "l2") more_limits ∷ orders (codes "k3") (codes "zz") 5 ∷ orders (codes "k4") (codes "zz") 5 ∷ [])
    ≡ first (refused_for fault.UnknownPoint) ∷ first (outcome.Loaded 1) ∷ again (refused_for fault.UnknownPoint) ∷ first (outcome.Ordered 1) ∷ []
unfolding histories_on_literals
refusal_stays = refl

-- the key of a list isn't one of an order as well, but another caller's is
pub key_of_a_list_refused : answers_of limited (orders (codes "l1") (codes "lim") 80 ∷ Order (codes "bob") (codes "l1") (codes "lim") (pos 80) ∷ [])
    ≡ answer.Request KeyReused ∷ first (outcome.Ordered 1) ∷ []
unfolding histories_on_literals
key_of_a_list_refused = refl

pub gauge_not_ordered : answer_of limited (orders (codes "k1") (codes "a") 80) ≡ first (refused_for fault.NotASetting)
unfolding histories_on_literals
gauge_not_ordered = refl

-- a list is taken once; under its key the same is told again, and another list is refused
pub list_taken_once : answers_of (Restart roof ∷ []) (loads (codes "l1") limits ∷ loads (codes "l1") limits ∷ loads (codes "l1") more_limits ∷ [])
    ≡ first (outcome.Loaded 2) ∷ again (outcome.Loaded 2) ∷ answer.Request KeyReused ∷ []
unfolding histories_on_literals
list_taken_once = refl

-- and a list that was refused is refused again under its key by a site that has its device
pub list_stays_refused : answers_of limited (loads (codes "l2") far_gauge ∷ Restart wider_roof ∷ loads (codes "l2") far_gauge ∷ loads (codes "l3") far_gauge ∷ [])
    ≡ first (outcome.RefusedFor (record { fault = fault.List UnknownDevice; row = 2; column = 2 }))
    ∷ answer.Restarted
    ∷ again (outcome.RefusedFor (record { fault = fault.List UnknownDevice; row = 2; column = 2 }))
    ∷ first (outcome.Loaded 1) ∷ []
unfolding histories_on_literals
list_stays_refused = refl

-- ---- orders that are sent

-- two orders that wait on the device
abbrev ordered_twice : History
ordered_twice = after limited (orders (codes "k1") (codes "lim") 80 ∷ orders (codes "k2") (codes "lim") 90 ∷ Open (codes "roof") ∷ [])

-- what sets the first, and the second
abbrev set_80 : List ℕ
set_80 = 6 ∷ 0 ∷ 40 ∷ 0 ∷ 80 ∷ []

abbrev set_90 : List ℕ
set_90 = 6 ∷ 0 ∷ 40 ∷ 0 ∷ 90 ∷ []

-- the device is busy
abbrev busy : List ℕ
busy = 134 ∷ 6 ∷ []

-- what an order sets that waits
abbrev set_to : ℕ → Setting
set_to word = record { point = 1; words = word ∷ []; state = Waiting }

-- an order is sent again where the device was busy, until its echo comes; the next waits as long
pub orders_sent : answers_of ordered_twice (Send 1 1 ∷ Reply 1 0 busy ∷ Send 1 2 ∷ Send 1 1 ∷ Reply 1 1 set_80 ∷ Send 1 1 ∷ Send 1 2 ∷ [])
    ≡ answer.Query (record { transaction = 0; unit_id = 17; unit = set_80 })
    ∷ answer.Arrived (Excepted 6)
    ∷ answer.Refused error.NotNext
    ∷ answer.Query (record { transaction = 1; unit_id = 17; unit = set_80 })
    ∷ answer.Arrived Settled
    ∷ answer.Refused error.Settled
    ∷ answer.Query (record { transaction = 2; unit_id = 17; unit = set_90 }) ∷ []
unfolding histories_on_literals
orders_sent = refl

pub order_waits_on : settings (after ordered_twice (Send 1 1 ∷ Reply 1 0 busy ∷ [])) ≡ (1, set_to 80) ∷ (2, set_to 90) ∷ []
unfolding histories_on_literals
order_waits_on = refl

pub order_done : settings (after ordered_twice (Send 1 1 ∷ Reply 1 0 busy ∷ Send 1 1 ∷ Reply 1 1 set_80 ∷ []))
    ≡ (1, record (set_to 80) { state = Done }) ∷ (2, set_to 90) ∷ []
unfolding histories_on_literals
order_done = refl

-- any other exception refuses an order, and the next is sent
pub order_refused : answers_of ordered_twice (Send 1 1 ∷ Reply 1 0 (134 ∷ 3 ∷ []) ∷ Send 1 1 ∷ Send 1 2 ∷ [])
    ≡ answer.Query (record { transaction = 0; unit_id = 17; unit = set_80 })
    ∷ answer.Arrived (Excepted 3)
    ∷ answer.Refused error.Settled
    ∷ answer.Query (record { transaction = 1; unit_id = 17; unit = set_90 }) ∷ []
unfolding histories_on_literals
order_refused = refl

pub refusal_kept : settings (after ordered_twice (Send 1 1 ∷ Reply 1 0 (134 ∷ 3 ∷ []) ∷ []))
    ≡ (1, record (set_to 80) { state = Refused 3 }) ∷ (2, set_to 90) ∷ []
unfolding histories_on_literals
refusal_kept = refl

pub no_such_order : answer_of ordered_twice (Send 1 3) ≡ answer.Refused error.NoOrder
unfolding histories_on_literals
no_such_order = refl

-- an order that waits is sent anew over the next connection of its line
pub sent_anew : answers_of ordered_twice (Send 1 1 ∷ Open (codes "roof") ∷ Send 1 1 ∷ Send 2 1 ∷ [])
    ≡ answer.Query (record { transaction = 0; unit_id = 17; unit = set_80 })
    ∷ answer.Opened 2
    ∷ answer.Refused error.NoConnection
    ∷ answer.Query (record { transaction = 0; unit_id = 17; unit = set_80 }) ∷ []
unfolding histories_on_literals
sent_anew = refl

-- of the replies to an order that was sent twice the first that settles it stays
pub settled_once : answers_of ordered_twice (Send 1 1 ∷ Send 1 1 ∷ Reply 1 0 set_80 ∷ Reply 1 1 (134 ∷ 3 ∷ []) ∷ [])
    ≡ answer.Query (record { transaction = 0; unit_id = 17; unit = set_80 })
    ∷ answer.Query (record { transaction = 1; unit_id = 17; unit = set_80 })
    ∷ answer.Arrived Settled
    ∷ answer.Arrived (Excepted 3) ∷ []
unfolding histories_on_literals
settled_once = refl

pub settled_for_good : settings (after ordered_twice (Send 1 1 ∷ Send 1 1 ∷ Reply 1 0 set_80 ∷ Reply 1 1 (134 ∷ 3 ∷ []) ∷ []))
    ≡ (1, record (set_to 80) { state = Done }) ∷ (2, set_to 90) ∷ []
unfolding histories_on_literals
settled_for_good = refl

-- a bit, a number with sign and a number of two registers are set
abbrev all_kinds : List ℕ
all_kinds =
    codes "name,device,table,address,type,length,scale,role,roll\non,m1,coil,3,bit,,,setting,\nlow,m1,holding,41,int16,,,setting,\n"
    ++ codes "far,m1,holding,50,uint32,,,setting,\n"

abbrev all_ordered : History
all_ordered =
    after [] (Restart roof ∷ loads (codes "l1") all_kinds ∷ Open (codes "roof")
    ∷ orders (codes "k1") (codes "on") 1 ∷ Order (codes "ann") (codes "k2") (codes "low") (negsuc 1) ∷ orders (codes "k3") (codes "far") 65539 ∷ [])

pub all_sent
    : answers_of all_ordered (Send 1 1 ∷ Reply 1 0 (5 ∷ 0 ∷ 3 ∷ 255 ∷ 0 ∷ []) ∷ Send 1 2 ∷ Reply 1 1 (6 ∷ 0 ∷ 41 ∷ 255 ∷ 254 ∷ []) ∷ Send 1 3 ∷ Reply 1 2 (16 ∷ 0 ∷ 50 ∷ 0 ∷ 2 ∷ []) ∷ [])
    ≡ answer.Query (record { transaction = 0; unit_id = 17; unit = 5 ∷ 0 ∷ 3 ∷ 255 ∷ 0 ∷ [] })
    ∷ answer.Arrived Settled
    ∷ answer.Query (record { transaction = 1; unit_id = 17; unit = 6 ∷ 0 ∷ 41 ∷ 255 ∷ 254 ∷ [] })
    ∷ answer.Arrived Settled
    ∷ answer.Query (record { transaction = 2; unit_id = 17; unit = 16 ∷ 0 ∷ 50 ∷ 0 ∷ 2 ∷ 4 ∷ 0 ∷ 1 ∷ 0 ∷ 3 ∷ [] })
    ∷ answer.Arrived Settled ∷ []
unfolding histories_on_literals
all_sent = refl

-- ---- frames that are no replies

abbrev noise : ℕ → ℕ → List ℕ → Frame
noise transaction unit_id unit = record { transaction = transaction; unit_id = unit_id; unit = unit }

pub another_unit_refused : answer_of asked_once (Noise 1 (noise 0 18 normal)) ≡ answer.Refused error.WrongUnit
unfolding histories_on_literals
another_unit_refused = refl

pub another_transaction_refused : answer_of asked_once (Noise 1 (noise 1 17 normal)) ≡ answer.Refused error.NoQuery
unfolding histories_on_literals
another_transaction_refused = refl

pub closed_connection_refused : answer_of asked_once (Noise 2 (noise 0 17 normal)) ≡ answer.Refused error.NoConnection
unfolding histories_on_literals
closed_connection_refused = refl

-- one register where three were asked for
pub short_unit_refused : answer_of asked_once (Noise 1 (noise 0 17 (3 ∷ 2 ∷ 0 ∷ 1 ∷ []))) ≡ answer.Refused error.WrongReply
unfolding histories_on_literals
short_unit_refused = refl

-- ---- all that can be

bytes_so : (bytes : List ℕ) → list_all (λ b. ltb b 256) bytes ≡ true → IsBytes bytes
bytes_so [] all i = omega arith
bytes_so (b ∷ bytes) all zero = ltb-true b 256 (and_parts (ltb b 256) (list_all (λ c. ltb c 256) bytes) all).0
bytes_so (b ∷ bytes) all (suc i) = bytes_so bytes (and_parts (ltb b 256) (list_all (λ c. ltb c 256) bytes) all).1 i

-- what may happen after a legal history that has begun makes it a legal one
legal_more : (happening last : Happening) (before : History) → MayHappen (last ∷ before) happening → Legal (last ∷ before) → Legal (happening ∷ last ∷ before)
legal_more happening last before may legal = (may, (λ e. absurd (cc)), legal)

roof_sound : IsSound roof
unfolding all_differ
roof_sound = refl

pub three_legal : Legal three
three_legal =
    legal_more (Open (codes "roof")) (loads (codes "l1") gauges) (Restart roof ∷ []) (bytes_so (codes "roof") refl)
    (legal_more (loads (codes "l1") gauges) (Restart roof) [] (bytes_so gauges refl, (refl, refl)) ((roof_sound, refl), (λ e. refl), tt))

pub asked_once_legal : Legal asked_once
asked_once_legal =
    legal_more ask (Open (codes "roof")) (loads (codes "l1") gauges ∷ Restart roof ∷ []) (bytes_so (codes "m1") refl, omega arith, omega arith) three_legal

-- so may orders, and what is sent for one
abbrev once_sent : History
once_sent = after ordered_twice (Send 1 1 ∷ [])

pub once_sent_legal : Legal once_sent
once_sent_legal =
    legal_more (Send 1 1) (Open (codes "roof")) (orders (codes "k2") (codes "lim") 90 ∷ orders (codes "k1") (codes "lim") 80 ∷ limited) (omega arith, omega arith)
    (legal_more (Open (codes "roof")) (orders (codes "k2") (codes "lim") 90) (orders (codes "k1") (codes "lim") 80 ∷ limited) (bytes_so (codes "roof") refl)
    (legal_more (orders (codes "k2") (codes "lim") 90) (orders (codes "k1") (codes "lim") 80) limited (bytes_so (codes "lim") refl, omega arith, (refl, refl))
    (legal_more (orders (codes "k1") (codes "lim") 80) (loads (codes "l1") limits) (Restart roof ∷ []) (bytes_so (codes "lim") refl, omega arith, (refl, refl))
    (legal_more (loads (codes "l1") limits) (Restart roof) [] (bytes_so limits refl, (refl, refl)) ((roof_sound, refl), (λ e. refl), tt)))))

once_sent_open : IsSome (open_line once_sent 1)
unfolding histories_on_literals
once_sent_open = refl

once_sent_asked : length (asked once_sent 1) ≡ 1
unfolding histories_on_literals
once_sent_asked = refl

pub echo_may_come : MayHappen once_sent (Reply 1 0 set_80)
echo_may_come = let made = once_sent_asked in (bytes_so set_80 refl, (once_sent_open, omega arith, omega arith))

-- the one query that was made
abbrev question_of_three : Query
question_of_three = Reads (record { device = codes "m1"; place = 0; unit_id = 17; slot = 1; read = read 107 3; known = 3 })

three_asked : asked asked_once 1 ≡ question_of_three ∷ []
unfolding histories_on_literals
three_asked = refl

three_open : IsSome (open_line asked_once 1)
unfolding histories_on_literals
three_open = refl

only_question : (n : ℕ) (q : Query) → slice_get (question_of_three ∷ []) n ≡ Some q → (n ≡ 0) × (q ≡ question_of_three)
only_question zero q e = (refl, sym (same_Some question_of_three q e))
only_question (suc n) q e = absurd (none-some q e)

-- a reply to it may come, whatever it is
pub reply_may_come : (unit : List ℕ) → IsBytes unit → MayHappen asked_once (Reply 1 0 unit)
reply_may_come unit bytes =
    let made : length (asked asked_once 1) ≡ 1 = ap length three_asked in
    (bytes, (three_open, omega arith, omega arith))

-- a frame is noise where it has another transaction than 0, or doesn't answer the query
noise_by : (frame : Frame) → (0 ≡ frame.transaction → frame_answers question_of_three frame ≡ false) → IsNoise asked_once 1 frame
noise_by frame answers = inr (λ n q at kept named.
    let only = only_question n q (subst (λ qs. slice_get qs n ≡ Some q) three_asked at) in
    subst (λ (x : Query). frame_answers x frame ≡ false) (sym only.1) (answers (ap (λ m. m % 65536) (sym only.0) ∙ named)))

pub another_unit_may_come : MayHappen asked_once (Noise 1 (noise 0 18 normal))
another_unit_may_come = (bytes_so normal refl, noise_by (noise 0 18 normal) (λ e. refl))

pub another_transaction_may_come : MayHappen asked_once (Noise 1 (noise 1 17 normal))
another_transaction_may_come = (bytes_so normal refl, noise_by (noise 1 17 normal) (λ e. absurd (omega arith)))

pub closed_connection_may_bring : MayHappen asked_once (Noise 2 (noise 0 17 normal))
unfolding histories_on_literals
closed_connection_may_bring = (bytes_so normal refl, inl refl)

pub short_unit_may_come : MayHappen asked_once (Noise 1 (noise 0 17 (3 ∷ 2 ∷ 0 ∷ 1 ∷ [])))
short_unit_may_come = (bytes_so (3 ∷ 2 ∷ 0 ∷ 1 ∷ []) refl, noise_by (noise 0 17 (3 ∷ 2 ∷ 0 ∷ 1 ∷ [])) (λ e. refl))

-- and a frame that answers the query is none
pub reply_is_no_noise : IsNoise asked_once 1 (noise 0 17 normal) → ⊥
unfolding histories_on_literals
reply_is_no_noise (inl closed) = absurd (none-some 0 (sym closed))
reply_is_no_noise (inr none) =
    let made : length (asked asked_once 1) ≡ 1 = ap length three_asked in
    let e : true ≡ false = none 0 question_of_three (ap (λ qs. slice_get qs 0) three_asked) (omega arith) refl in
    absurd (cc)

-- ---- the newest query of a transaction

pub first_query : numbered 0 1 ≡ Some 0
first_query = refl

pub query_after_the_last_number : numbered 0 65537 ≡ Some 65536
query_after_the_last_number = refl
