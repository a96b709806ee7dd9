-- Requests and orders in terms of what stands where in a history: a row is the first request under its key.
use Rattle.std.specs.Prelude.{◌≡◌, ℕ, Some}
use Rattle.point_list.specs.Edition.{Edition}
use Rattle.poll_book.specs.declared.requests.Body.{Body}
use Rattle.poll_book.specs.declared.requests.Body.TheVariants as body
use Rattle.poll_book.specs.declared.requests.Outcome.TheVariants.{Ordered}
use Rattle.poll_book.specs.declared.requests.KeptRequest.{KeptRequest}
use Rattle.poll_book.specs.Requests.{RequestKey, request_at}
use Rattle.office_core.specs.History.{Happening, Load, Order, Void, History, requests, outcome_of}
use Rattle.office_core.specs.FirstArrivals.{Happened}

-- that a caller asked for this under a key, for a list by an edition
abbrev pub asked_for : RequestKey → Edition → Body → Happening
asked_for key edition (body.List list) = Load edition key.0 key.1 list
asked_for key edition (body.Order point value) = Order key.0 key.1 point value
asked_for key edition (body.Void point slot) = Void key.0 key.1 point slot

-- a caller asked for this under the key, as the first under it, and this became of it where it stood
pub record IsFirstRequest (before : History) (key : RequestKey) (request : KeptRequest) : Type 0 where
  pub earlier : History
  pub edition : Edition
  pub came : Happened before (asked_for key edition request.body) earlier
  pub first : (older : History) (by : Edition) (body : Body) → Happened earlier (asked_for key by body) older → ⊥
  pub outcome : request.outcome ≡ outcome_of earlier edition request.body

-- under this key stands a request that became the order of this number
abbrev pub OrderedUnder : History → RequestKey → ℕ → Type 0
OrderedUnder before key number = (body : Body) × (request_at (requests before) key ≡ Some (record { body = body; outcome = Ordered number }))
