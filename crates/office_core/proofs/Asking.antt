-- What the matcher answers to a query is what the history says of an ask.
use Rattle.std.proofs.Common.{◌≡◌, ℕ, ◌%◌, ◌≤◌, Bool, true, false, cond, not, eqb, leb, List, ◌∷◌, ◌++◌, length, Some, None, Option, refl, sym, ap, ◌∙◌, arith, subst}
use Rattle.std.specs.Prelude.{option_map}
use Rattle.std.proofs.lemmas.Bool.{eqb-true, eq-eqb, and_parts}
use Rattle.std.proofs.lemmas.Bool.Decides.{nat_tests}
use Rattle.std.proofs.lemmas.Option.{same_Some}
use Rattle.mb_pdu.specs.Packing.{two}
use Rattle.mb_pdu.specs.Grammar.{spells, span_text}
use Rattle.mb_pdu.specs.declared.request.Request.TheVariants.{ReadCoils, ReadDiscrete, ReadHolding, ReadInput}
use Rattle.mb_mbap.specs.declared.frame.Frame.{Frame}
use Rattle.point_list.specs.declared.site.Site.{Site}
use Rattle.read_planner.specs.declared.Read.{Read}
use Rattle.read_planner.specs.Read.{is_valid_read, read_request}
use Rattle.poll_match.specs.declared.asked.Asked.TheVariants as asking
use Rattle.poll_match.specs.declared.error.MatchError.{MatchError}
use Rattle.poll_match.specs.declared.error.MatchError.TheVariants as matching
use Rattle.poll_match.specs.Window.{Open as OpenOne, held, line_of, next_refusal, IsNextFrame, Changes, with_query}
use Rattle.poll_match.proofs.Valid.{can_be_asked}
use Rattle.poll_book.specs.declared.rows.PointRow.{PointRow}
use Rattle.poll_book.specs.Tables.{Tables}
use Rattle.office_core.specs.declared.error.OfficeError.{OfficeError}
use Rattle.office_core.specs.declared.error.OfficeError.TheVariants as error
use Rattle.office_core.specs.declared.event.Event.TheVariants as event
use Rattle.office_core.specs.declared.event.EventAnswer.TheVariants as answer
use Rattle.office_core.specs.declared.site.Target.{Target}
use Rattle.office_core.specs.Errors.{refused_by, is_of_store}
use Rattle.office_core.specs.Sites.{target}
use Rattle.office_core.specs.Cover.{is_readable}
use Rattle.office_core.specs.Queries.{Reads, asked_of, query_frame, read_text}
use Rattle.office_core.specs.History.{History, open_line, asked, ask_fault, ask_fault_on, question, question_to}
use Rattle.office_core.specs.Standing.{queries, open_one, StandsFor, Goes}
use Rattle.office_core.proofs.Opens.{line_held}
use Rattle.office_core.proofs.Queries.{length-queries}
use Rattle.office_core.proofs.Steps.{ask_refused_goes, asked_goes}

-- the bytes that spell a read's request
read_spelled : (read : Read) (unit : List ℕ) → (1 ≤ read.function) × (read.function ≤ 4) → spells (read_request read) unit → unit ≡ read_text read
read_spelled read unit within spelled =
    by (eqb read.function 1) (eqb read.function 2) (eqb read.function 3) refl refl refl spelled
  where
    text : (f : ℕ) → read.function ≡ f → unit ≡ span_text f read.span → unit ≡ read_text read
    text f is e = e ∙ ap (λ n. n ∷ two read.span.start ++ two read.span.quantity) (sym is)

    by : (a b c : Bool) → eqb read.function 1 ≡ a → eqb read.function 2 ≡ b → eqb read.function 3 ≡ c
        → spells (cond a (ReadCoils read.span) (cond b (ReadDiscrete read.span) (cond c (ReadHolding read.span) (ReadInput read.span)))) unit → unit ≡ read_text read
    by true b c x y z s = text 1 (eqb-true read.function 1 x) s.1
    by false true c x y z s = text 2 (eqb-true read.function 2 y) s.1
    by false false true x y z s = text 3 (eqb-true read.function 3 z) s.1
    by false false false x y z s =
        let low = within.0 in
        let high = within.1 in
        text 4 (grind (arith, nat_tests)) s.1

module _ (holds : Tables → Type 0) (now : Site) (known : List PointRow) (all : List OpenOne) (conn : ℕ) (device : List ℕ) (slot : ℕ) (read : Read) (to : Target)
    (line : line_of (held conn all) ≡ Some to.line) (there : target now device ≡ Some to) (readable : is_readable known device read ≡ true) where
  full : ℕ → Option MatchError
  full made = cond (leb 4294967295 made) (Some matching.Exhausted) None

  open_is : (before : History) → StandsFor holds now known all before → open_line before conn ≡ Some to.line
  open_is before stands = sym (line_held holds now known all before stands conn) ∙ line

  fault_is : (before : History) → StandsFor holds now known all before
      → ask_fault (open_line before conn) now known (length (asked before conn)) device read ≡ option_map refused_by (full (length (asked before conn)))
  unfolding full
  fault_is before stands =
      ap (λ o. ask_fault o now known (length (asked before conn)) device read) (open_is before stands)
      ∙ ap (λ t. ask_fault_on t to.line known (length (asked before conn)) device read) there
      ∙ (λ i. cond (not (eq-eqb to.line to.line refl i)) (Some error.WrongLine) (cond (not (readable i)) (Some error.NoRead) (cond (leb 4294967295 (length (asked before conn))) (Some error.Exhausted) None)))
      ∙ by (leb 4294967295 (length (asked before conn)))
    where
      by : (b : Bool) → cond b (Some error.Exhausted) None ≡ option_map refused_by (cond b (Some matching.Exhausted) None)
      by true = refl
      by false = refl

  held_is : (before : History) → StandsFor holds now known all before → held conn all ≡ Some (open_one conn (queries before conn) to.line)
  held_is before stands = stands.connections conn ∙ ap (option_map (open_one conn (queries before conn))) (open_is before stands)

  refusal_is : (before : History) → StandsFor holds now known all before → next_refusal (held conn all) ≡ full (length (asked before conn))
  unfolding full
  refusal_is before stands = ap next_refusal (held_is before stands) ∙ ap full (length-queries before conn 0 (asked before conn))

  -- a query that the matcher refuses
  pub asking_refused : (e : MatchError) → next_refusal (held conn all) ≡ Some e → (all' : List OpenOne) → all' ≡ all
      → Goes (StandsFor holds now known all) (StandsFor holds now known all') (event.Ask conn device slot read) (answer.Refused (refused_by e))
  asking_refused e refused all' same =
      subst (λ l. Goes (StandsFor holds now known all) (StandsFor holds now known l) (event.Ask conn device slot read) (answer.Refused (refused_by e))) (sym same)
      (ask_refused_goes holds now known all conn device slot read (refused_by e)
      (λ before stands. fault_is before stands ∙ ap (option_map refused_by) (sym (refusal_is before stands) ∙ refused)))

  -- a query that goes out
  pub asking_goes : (frame : Frame) → next_refusal (held conn all) ≡ None → IsNextFrame (asking.Read to.unit_id to.place slot read (length known)) (held conn all) frame
      → (all' : List OpenOne) → Changes conn (with_query (asking.Read to.unit_id to.place slot read (length known))) all all'
      → Goes (StandsFor holds now known all) (StandsFor holds now known all') (event.Ask conn device slot read) (answer.Query frame)
  asking_goes frame none next all' queried =
      let same : asked_of (Reads (question now known device slot read)) ≡ asking.Read to.unit_id to.place slot read (length known) = ap (λ t. asked_of (Reads (question_to t device slot read (length known)))) there in
      asked_goes holds now known all conn device slot read frame
      (λ before stands. fault_is before stands ∙ ap (option_map refused_by) (sym (refusal_is before stands) ∙ none))
      (λ before stands.
      let on : next.on ≡ open_one conn (queries before conn) to.line = same_Some next.on (open_one conn (queries before conn) to.line) (sym next.is_open ∙ held_is before stands) in
      let number : frame.transaction ≡ length (asked before conn) % 65536 =
      next.transaction ∙ ap (λ (o : OpenOne). o.made % 65536) on ∙ ap (λ n. n % 65536) (length-queries before conn 0 (asked before conn)) in
      let valid : is_valid_read read ≡ true = (and_parts (is_valid_read read) _ readable).0 in
      let text : frame.unit ≡ read_text read = read_spelled read frame.unit (can_be_asked (asking.Read to.unit_id to.place slot read (length known)) valid) next.unit in
      (λ i. record { transaction = number i; unit_id = next.unit_id i; unit = text i })
      ∙ sym (ap (λ t. query_frame (length (asked before conn)) (Reads (question_to t device slot read (length known)))) there))
      all' (subst (λ q. Changes conn (with_query q) all all') (sym same) queried)

-- an ask that is refused for its line, its device or its read
pub asking_judged : (holds : Tables → Type 0) (now : Site) (known : List PointRow) (all : List OpenOne) (conn : ℕ) (device : List ℕ) (slot : ℕ) (read : Read) (line : Option ℕ)
    → line_of (held conn all) ≡ line → (e : OfficeError) → ((made : ℕ) → ask_fault line now known made device read ≡ Some e)
    → Goes (StandsFor holds now known all) (StandsFor holds now known all) (event.Ask conn device slot read) (answer.Refused e)
asking_judged holds now known all conn device slot read line is e fault =
    ask_refused_goes holds now known all conn device slot read e
    (λ before stands. ap (λ o. ask_fault o now known (length (asked before conn)) device read) (sym (line_held holds now known all before stands conn) ∙ is) ∙ fault (length (asked before conn)))

-- no refusal of an ask is the store's
pub ask_own : (line : Option ℕ) (now : Site) (known : List PointRow) (made : ℕ) (device : List ℕ) (read : Read) (e : OfficeError)
    → ask_fault line now known made device read ≡ Some e → is_of_store e ≡ false
ask_own None now known made device read e is = ap is_of_store (sym (same_Some error.NoConnection e is))
ask_own (Some line) now known made device read e is = by_target (target now device) is
  where
    by : (x y z : Bool) → cond x (Some error.WrongLine) (cond y (Some error.NoRead) (cond z (Some error.Exhausted) None)) ≡ Some e → is_of_store e ≡ false
    by true y z h = ap is_of_store (sym (same_Some error.WrongLine e h))
    by false true z h = ap is_of_store (sym (same_Some error.NoRead e h))
    by false false true h = ap is_of_store (sym (same_Some error.Exhausted e h))
    by false false false h = absurd (cc)

    by_target : (o : Option Target) → ask_fault_on o line known made device read ≡ Some e → is_of_store e ≡ false
    by_target None h = ap is_of_store (sym (same_Some error.WrongLine e h))
    by_target (Some to) h = by (not (eqb to.line line)) (not (is_readable known device read)) (leb 4294967295 made) h

-- nor is one of a query that the matcher refuses
pub next_own : (former : Option OpenOne) (e : MatchError) → next_refusal former ≡ Some e → is_of_store (refused_by e) ≡ false
next_own None e is = ap (λ x. is_of_store (refused_by x)) (sym (same_Some matching.NoConnection e is))
next_own (Some on) e is = by (leb 4294967295 on.made) is
  where
    by : (b : Bool) → cond b (Some matching.Exhausted) None ≡ Some e → is_of_store (refused_by e) ≡ false
    by true h = ap (λ x. is_of_store (refused_by x)) (sym (same_Some matching.Exhausted e h))
    by false h = absurd (cc)
