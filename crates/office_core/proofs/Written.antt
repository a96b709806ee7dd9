-- What replies to writes bring, and the bytes of a write.
use Rattle.std.proofs.Common.{◌≡◌, ℕ, Bool, true, false, cond, List, Some, ◌+◌, refl, sym, ap, ◌∙◌}
use Rattle.std.proofs.lemmas.Bool.{eq-eqb}
use Rattle.mb_pdu.specs.Grammar.{spells}
use Rattle.mb_pdu.specs.Replies.{function_of, is_exception, normal_of, spells_normal, spells_reply}
use Rattle.mb_pdu.specs.declared.reply.Reply.{Reply}
use Rattle.mb_pdu.specs.declared.reply.Reply.TheVariants.{Bits, Registers, Written, Excepted}
use Rattle.poll_match.specs.declared.asked.Payload.{Payload}
use Rattle.poll_match.specs.declared.asked.Payload.TheVariants.{Coil, One, Two, Four}
use Rattle.poll_match.specs.Queries.{write_request}
use Rattle.poll_book.specs.declared.rows.PointRow.{PointRow}
use Rattle.poll_book.specs.declared.rows.OrderState.TheVariants.{Done}
use Rattle.poll_book.specs.Tables.{Readings}
use Rattle.office_core.specs.declared.event.Arrival.TheVariants as arrival
use Rattle.office_core.specs.declared.event.EventAnswer.TheVariants as answer
use Rattle.office_core.specs.Answers.{unit_answer}
use Rattle.office_core.specs.Keeping.{reply_state, write_arrival}
use Rattle.office_core.specs.Orders.{state_after, state_by}
use Rattle.office_core.specs.Queries.{Writing, Writes, exception_code, is_excepted, write_text}

-- the bytes that spell a write's request
pub write_spelled : (address : ℕ) (payload : Payload) (unit : List ℕ) → spells (write_request address payload) unit → unit ≡ write_text address payload
write_spelled address (Coil on) unit h = h
write_spelled address (One word) unit h = h
write_spelled address (Two words) unit h = h.1
write_spelled address (Four words) unit h = h.1

-- an echo is no exception
echo_plain : (address : ℕ) (payload : Payload) (unit : List ℕ) → spells_normal (function_of (write_request address payload)) (normal_of (write_request address payload)) Written unit
    → is_exception (function_of (write_request address payload)) unit ≡ false
echo_plain address (Coil on) unit h = ap (is_exception 5) h
echo_plain address (One word) unit h = ap (is_exception 6) h
echo_plain address (Two words) unit h = ap (is_exception 16) h
echo_plain address (Four words) unit h = ap (is_exception 16) h

-- neither bits nor registers spell one
no_bits : (address : ℕ) (payload : Payload) (bits : List Bool) (unit : List ℕ) → spells_normal (function_of (write_request address payload)) (normal_of (write_request address payload)) (Bits bits) unit → ⊥
no_bits address (Coil on) bits unit h = h
no_bits address (One word) bits unit h = h
no_bits address (Two words) bits unit h = h
no_bits address (Four words) bits unit h = h

no_words : (address : ℕ) (payload : Payload) (words unit : List ℕ) → spells_normal (function_of (write_request address payload)) (normal_of (write_request address payload)) (Registers words) unit → ⊥
no_words address (Coil on) words unit h = h
no_words address (One word) words unit h = h
no_words address (Two more) words unit h = h
no_words address (Four more) words unit h = h

module _ (w : Writing) (unit : List ℕ) where
  f : ℕ
  f = function_of (write_request w.address w.payload)

  plain : spells_reply (write_request w.address w.payload) Written unit → is_excepted (Writes w) unit ≡ false
  plain h = echo_plain w.address w.payload unit h.1

  excepted : (code : ℕ) → spells_reply (write_request w.address w.payload) (Excepted code) unit → (is_excepted (Writes w) unit ≡ true) × (exception_code unit ≡ code)
  unfolding f
  excepted code h = (ap (is_exception f) h ∙ eq-eqb (f + 128) (f + 128) refl, ap exception_code h)

  -- how an order stands after a reply is what its unit says
  pub state_is : (reply : Reply) → spells_reply (write_request w.address w.payload) reply unit → reply_state reply ≡ state_by w unit
  state_is (Bits bits) h = absurd (no_bits w.address w.payload bits unit h.1)
  state_is (Registers words) h = absurd (no_words w.address w.payload words unit h.1)
  state_is Written h = sym (ap (λ b. cond b (state_after (exception_code unit)) (Some Done)) (plain h))
  state_is (Excepted code) h =
      let e = excepted code h in
      ap state_after (sym e.1) ∙ sym (ap (λ b. cond b (state_after (exception_code unit)) (Some Done)) e.0)

  -- and so is what the reply is told as
  pub written_told : (table : Readings) (known : List PointRow) (reply : Reply) → spells_reply (write_request w.address w.payload) reply unit
      → answer.Arrived (write_arrival reply) ≡ unit_answer table known (Writes w) unit
  written_told table known (Bits bits) h = absurd (no_bits w.address w.payload bits unit h.1)
  written_told table known (Registers words) h = absurd (no_words w.address w.payload words unit h.1)
  written_told table known Written h = sym (ap (λ b. cond b (answer.Arrived (arrival.Excepted (exception_code unit))) (answer.Arrived arrival.Settled)) (plain h))
  written_told table known (Excepted code) h =
      let e = excepted code h in
      ap (λ c. answer.Arrived (arrival.Excepted c)) (sym e.1)
      ∙ sym (ap (λ b. cond b (answer.Arrived (arrival.Excepted (exception_code unit))) (answer.Arrived arrival.Settled)) e.0)
