-- Whatever comes to an office can be told as what happened.
use Rattle.std.proofs.Common.{◌≡◌, ℕ, zero, suc, ◌<◌, Bool, true, false, cond, List, [], ◌∷◌, length, Some, None, Option, refl, sym, ap, ◌∙◌, arith, subst, inl, inr}
use Rattle.std.specs.Prelude.{slice_get, IsSome}
use Rattle.std.proofs.lemmas.Bool.{and_parts, eqb-true}
use Rattle.std.proofs.lemmas.Option.{same_Some}
use Rattle.mb_pdu.specs.Replies.{IsBytes}
use Rattle.mb_mbap.specs.declared.frame.Frame.{Frame}
use Rattle.poll_match.specs.Window.{numbered}
use Rattle.poll_match.proofs.Numbers.{numbered_at, numbered_is}
use Rattle.office_core.specs.declared.event.Event.{Event}
use Rattle.office_core.specs.declared.event.Event.TheVariants as event
use Rattle.office_core.specs.Queries.{Query, unit_id_of}
use Rattle.office_core.specs.History.{Happening, Reply, Noise, History, open_line, asked}
use Rattle.office_core.specs.Answers.{reply_frame}
use Rattle.office_core.specs.Legal.{MayHappen, IsNoise, frame_answers}
use Rattle.office_core.specs.Messages.{IsMessage, happening_of, answering, naming, arriving_over}
use Rattle.office_core.specs.Standing.{Sees}

-- a happening that may happen after that history, and is seen so
abbrev IsTold : History → Happening → Event → Type 0
IsTold before happening seen = MayHappen before happening × Sees before happening seen

-- the number of a query is below their count
within : (all : List Query) (n : ℕ) (q : Query) → slice_get all n ≡ Some q → n < length all
within [] n q at = absurd (cc)
within (first ∷ all) zero q at = omega arith
within (first ∷ all) (suc n) q at = let below = within all n q at in omega arith

module _ (before : History) (conn : ℕ) (frame : Frame) (bytes : IsBytes frame.unit) where
  -- noise is seen as it came
  as_noise : IsNoise before conn frame → IsTold before (Noise conn frame) (event.Arrive conn frame)
  as_noise quiet = ((bytes, quiet), (refl, refl))

  -- a frame that answers the query that it names is seen as its reply
  as_reply : (n : ℕ) (q : Query) → IsSome (open_line before conn) → numbered frame.transaction (length (asked before conn)) ≡ Some n
      → slice_get (asked before conn) n ≡ Some q → frame_answers q frame ≡ true → IsTold before (Reply conn n frame.unit) (event.Arrive conn frame)
  as_reply n q opened number query answers =
      let near = numbered_is frame.transaction (length (asked before conn)) n number in
      let unit_id : frame.unit_id ≡ unit_id_of q = eqb-true frame.unit_id (unit_id_of q) (and_parts _ _ answers).0 in
      let seen : frame ≡ reply_frame n (Some q) frame.unit = λ i. record { transaction = sym near.2 i; unit_id = unit_id i; unit = frame.unit } in
      ((bytes, (opened, near.0, near.1)), (refl, seen ∙ ap (λ o. reply_frame n o frame.unit) (sym query)))

  -- a frame that names no query is noise
  unnumbered : numbered frame.transaction (length (asked before conn)) ≡ None → IsNoise before conn frame
  unnumbered none = inr (λ n q at near same.
      let there : None ≡ Some n = sym none ∙ numbered_at frame.transaction (length (asked before conn)) n (within (asked before conn) n q at) near same in
      absurd (cc))

  -- so is one that names a number at which no query is
  unasked : (n : ℕ) → numbered frame.transaction (length (asked before conn)) ≡ Some n → slice_get (asked before conn) n ≡ None → IsNoise before conn frame
  unasked n number none = inr (λ m q at near same.
      let one : n ≡ m = same_Some n m (sym number ∙ numbered_at frame.transaction (length (asked before conn)) m (within (asked before conn) m q at) near same) in
      let there : None ≡ Some q = sym none ∙ ap (slice_get (asked before conn)) one ∙ at in
      absurd (cc))

  -- and one that doesn't answer the query that it names
  unanswering : (n : ℕ) (q : Query) → numbered frame.transaction (length (asked before conn)) ≡ Some n → slice_get (asked before conn) n ≡ Some q
      → frame_answers q frame ≡ false → IsNoise before conn frame
  unanswering n q number query off = inr (λ m p at near same.
      let one : n ≡ m = same_Some n m (sym number ∙ numbered_at frame.transaction (length (asked before conn)) m (within (asked before conn) m p at) near same) in
      let question : q ≡ p = same_Some q p (sym query ∙ ap (slice_get (asked before conn)) one ∙ at) in
      ap (λ x. frame_answers x frame) (sym question) ∙ off)

  -- a frame that names a query is told by whether it answers it
  told_by : (n : ℕ) (q : Query) → IsSome (open_line before conn) → numbered frame.transaction (length (asked before conn)) ≡ Some n
      → slice_get (asked before conn) n ≡ Some q → (b : Bool) → frame_answers q frame ≡ b
      → IsTold before (cond b (Reply conn n frame.unit) (Noise conn frame)) (event.Arrive conn frame)
  told_by n q opened number query true answers = as_reply n q opened number query answers
  told_by n q opened number query false off = as_noise (unanswering n q number query off)

  -- a frame that names a number is told by the query there
  answering_told : (n : ℕ) → IsSome (open_line before conn) → numbered frame.transaction (length (asked before conn)) ≡ Some n
      → (o : Option Query) → slice_get (asked before conn) n ≡ o → IsTold before (answering conn frame n o) (event.Arrive conn frame)
  answering_told n opened number None none = as_noise (unasked n number none)
  answering_told n opened number (Some q) query = told_by n q opened number query (frame_answers q frame) refl

  -- a frame over an open connection is told by the number that it names
  naming_told : IsSome (open_line before conn) → (o : Option ℕ) → numbered frame.transaction (length (asked before conn)) ≡ o
      → IsTold before (naming before conn frame o) (event.Arrive conn frame)
  naming_told opened None none = as_noise (unnumbered none)
  naming_told opened (Some n) number = answering_told n opened number (slice_get (asked before conn) n) refl

  -- a frame is told by the line of its connection
  arriving_told : (o : Option ℕ) → open_line before conn ≡ o → IsTold before (arriving_over before conn frame o) (event.Arrive conn frame)
  arriving_told None none = as_noise (inl none)
  arriving_told (Some line) is = naming_told (subst IsSome (sym is) refl) (numbered frame.transaction (length (asked before conn))) refl

-- a message may happen as what it is told as, and is seen so
told_so : (before : History) (seen : Event) → IsMessage seen → IsTold before (happening_of before seen) seen
told_so before (event.Load caller key list) good = (good, (refl, refl, refl, refl))
told_so before (event.Order caller key point value) good = (good, (refl, refl, refl, refl))
told_so before (event.Void caller key point slot) good = (good, (refl, refl, refl, refl))
told_so before (event.Open line) bytes = (bytes, refl)
told_so before (event.Ask conn device slot read) bounds = (bounds, (refl, refl, refl, refl))
told_so before (event.Send conn number) bounds = (bounds, (refl, refl))
told_so before (event.Arrive conn frame) bytes = arriving_told before conn frame bytes (open_line before conn) refl
told_so before event.Restart never = absurd never

-- a message may happen
pub may_happen : (before : History) (seen : Event) → IsMessage seen → MayHappen before (happening_of before seen)
may_happen before seen is = (told_so before seen is).0

-- a message is seen as it came
pub seen_so : (before : History) (seen : Event) → IsMessage seen → Sees before (happening_of before seen) seen
seen_so before seen is = (told_so before seen is).1
