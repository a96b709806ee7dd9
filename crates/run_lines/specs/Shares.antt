-- How far a device is in a round.
use Rattle.std.specs.Prelude.{ℕ, Bool, true, false, ◌==◌, ◌&&◌, ◌||◌, nat_lt, if◌then◌else◌, Option, Some, None}
use Rattle.office_core.specs.Orders.{is_busy}
use Rattle.office_core.specs.declared.event.Arrival.{Arrival}
use Rattle.office_core.specs.declared.event.Arrival.TheVariants.{Excepted}
use Rattle.run_lines.specs.declared.share.Orders.{Orders}
use Rattle.run_lines.specs.declared.share.Orders.TheVariants.{Next, Sent, Done, Ended}
use Rattle.run_lines.specs.declared.share.Share.{Share}

-- it had no turn yet, and orders up to this number are sent
abbrev pub unbegun : ℕ → Share
unbegun last = record { orders = Next; last = last; reads = 0; is_passed = false }

abbrev pub with_orders : Orders → Share → Share
with_orders orders share = record share { orders = orders }

abbrev pub with_reads : ℕ → Share → Share
with_reads reads share = record share { reads = reads }

-- the number up to which an order is sent next, as its orders stand, or none
abbrev pub next_order : Orders → ℕ → Option ℕ
next_order Next last = Some last
next_order _ last = None

-- the read that is asked next, as its orders stand, or none
abbrev pub next_read : Orders → ℕ → Option ℕ
next_read Done reads = Some reads
next_read Ended reads = Some reads
next_read _ reads = None

-- of one that isn't passed over
abbrev pub order_of : Share → Option ℕ
order_of share = if share.is_passed then None else next_order share.orders share.last

abbrev pub read_of : Share → Option ℕ
read_of share = if share.is_passed then None else next_read share.orders share.reads

-- an order is to be sent next
abbrev pub is_next : Orders → Bool
is_next Next = true
is_next _ = false

-- it was passed over before an order, or one of so many reads, had its turn
abbrev pub is_left : ℕ → Share → Bool
is_left reads share = share.is_passed && (is_next share.orders || nat_lt share.reads reads)

-- its orders once one that was sent is answered, and that is kept; or once the store refused it
abbrev pub after : Option Arrival → Orders
after None = Ended
after (Some (Excepted code)) = if is_busy code then Ended else Next
after (Some _) = Next

abbrev pub when_sent : Orders → Orders → Orders
when_sent answered Sent = answered
when_sent answered orders = orders

-- what is answered was sent in this round, or in one before, if none was sent in this one yet
abbrev pub when_due : Orders → Orders → Orders
when_due answered Next = answered
when_due answered orders = when_sent answered orders

abbrev pub settled : Option Arrival → Share → Share
settled arrival share = record share { orders = when_due (after arrival) share.orders }

abbrev pub passed : Share → Share
passed share = record share { orders = when_sent Ended share.orders; is_passed = true }

abbrev pub resumed : Share → Share
resumed share = record share { is_passed = false }

-- orders that came since are sent where none waited any more, and all reads had their turn
abbrev pub woken_at : ℕ → Share → Orders → Bool → Share
woken_at last share Done true = record share { orders = Next; last = last }
woken_at last share orders all = share

abbrev pub woken : ℕ → ℕ → Share → Share
woken last reads share = woken_at last share share.orders (share.reads == reads && nat_lt share.last last)
