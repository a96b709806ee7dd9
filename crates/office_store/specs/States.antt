-- The numbers that a state of an order is kept as.
use Rattle.std.specs.Prelude.{ℕ}
use Rattle.poll_book.specs.declared.rows.OrderState.{OrderState}
use Rattle.poll_book.specs.declared.rows.OrderState.TheVariants.{Waiting, Done, Refused}

abbrev pub state_number : OrderState → ℕ
state_number Waiting = 0
state_number Done = 1
state_number (Refused code) = 2

abbrev pub code_number : OrderState → ℕ
code_number Waiting = 0
code_number Done = 0
code_number (Refused code) = code
