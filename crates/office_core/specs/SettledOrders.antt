-- Orders in terms of what stands where in a history: what is sent for them, and which reply settles each.
use Rattle.std.specs.Prelude.{◌≡◌, ℕ, true, List, length, Some, None}
use Rattle.mb_pdu.specs.declared.reply.Reply.{Reply as AReply}
use Rattle.mb_pdu.specs.Replies.{spells_reply}
use Rattle.poll_match.specs.Queries.{write_request}
use Rattle.poll_book.specs.declared.rows.PointRow.{PointRow}
use Rattle.poll_book.specs.declared.rows.OrderState.{OrderState}
use Rattle.poll_book.specs.declared.rows.Setting.{Setting}
use Rattle.poll_book.specs.Orders.{is_waiting, setting_at, point_at, oldest_waiting}
use Rattle.office_core.specs.Queries.{Writing}
use Rattle.office_core.specs.Orders.{send_fault, writing}
use Rattle.office_core.specs.Keeping.{reply_state}
use Rattle.office_core.specs.History.{Send, Reply, History, site_of, points, open_line, asked, settings}
use Rattle.office_core.specs.FirstArrivals.{Happened}

-- ---- sends

-- query n of a connection, which was sent for an order after that history, where n queries had been asked
pub record IsSend (before : History) (c n : ℕ) (w : Writing) (sending : History) : Type 0 where
  pub number : ℕ
  pub came : Happened before (Send c number) sending
  pub accepted : send_fault (open_line sending c) (site_of sending) (points sending) (settings sending) (length (asked sending c)) number ≡ None
  pub count : length (asked sending c) ≡ n
  pub is : w ≡ writing (site_of sending) (points sending) (settings sending) number

-- the order of this number is the oldest of its device that waits
pub record IsOldest (before : History) (number : ℕ) : Type 0 where
  pub setting : Setting
  pub there : setting_at (settings before) number ≡ Some setting
  pub waits : is_waiting setting.state ≡ true
  pub point : PointRow
  pub of : point_at (points before) setting.point ≡ Some point
  pub oldest : oldest_waiting (points before) point.point.device (settings before) ≡ Some (number, setting)

-- ---- replies

-- a unit is this reply to what was sent as that query of a connection
pub record IsReplyToSend (earlier : History) (c n : ℕ) (unit : List ℕ) (w : Writing) (reply : AReply) : Type 0 where
  pub sending : History
  pub send : IsSend earlier c n w sending
  pub spelled : spells_reply (write_request w.address w.payload) reply unit

-- no unit that came earlier was a reply to it
abbrev pub IsFirstToSend : History → ℕ → ℕ → Type 0
IsFirstToSend earlier c n =
    (older : History) (unit : List ℕ) (w : Writing) (reply : AReply)
    → Happened earlier (Reply c n unit) older → IsReplyToSend older c n unit w reply → ⊥

-- the first reply to what was sent for the order is normal, or an exception other than 5 and 6, and so the order stands
pub record Settles (earlier : History) (c n : ℕ) (unit : List ℕ) (order : ℕ) (state : OrderState) : Type 0 where
  pub w : Writing
  pub reply : AReply
  pub replies : IsReplyToSend earlier c n unit w reply
  pub first : IsFirstToSend earlier c n
  pub order_is : w.order ≡ order
  pub state_is : reply_state reply ≡ Some state

-- no unit that came earlier settled the order
abbrev pub IsEarliestFor : History → ℕ → Type 0
IsEarliestFor earlier order =
    (older : History) (c n : ℕ) (unit : List ℕ) (state : OrderState)
    → Happened earlier (Reply c n unit) older → Settles older c n unit order state → ⊥

-- a unit came that settled the order so, and none that came earlier settled it
pub record IsSettledBy (before : History) (order : ℕ) (state : OrderState) : Type 0 where
  pub earlier : History
  pub c : ℕ
  pub n : ℕ
  pub unit : List ℕ
  pub came : Happened before (Reply c n unit) earlier
  pub settles : Settles earlier c n unit order state
  pub earliest : IsEarliestFor earlier order
