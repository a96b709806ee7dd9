-- What the keeper and the matcher answer to a send is what the history says of it.
use Rattle.std.proofs.Common.{◌≡◌, ℕ, ◌%◌, Bool, true, false, cond, leb, List, length, Some, None, Option, refl, sym, ap, ◌∙◌, subst, inl, inr}
use Rattle.std.specs.Prelude.{option_map}
use Rattle.std.proofs.lemmas.Bool.{false≢true}
use Rattle.std.proofs.lemmas.Option.{same_Some}
use Rattle.mb_pdu.specs.Grammar.{spells}
use Rattle.mb_mbap.specs.declared.frame.Frame.{Frame}
use Rattle.point_list.specs.declared.site.Site.{Site}
use Rattle.poll_match.specs.declared.asked.Asked.{Asked}
use Rattle.poll_match.specs.declared.error.MatchError.{MatchError}
use Rattle.poll_match.specs.declared.error.MatchError.TheVariants as matching
use Rattle.poll_match.specs.Queries.{request_of, unit_id_of as asked_unit_id}
use Rattle.poll_match.specs.Window.{Open as OpenOne, held, line_of, next_refusal, IsNextFrame, Changes, with_query}
use Rattle.poll_book.specs.declared.rows.PointRow.{PointRow}
use Rattle.poll_book.specs.Tables.{Tables}
use Rattle.office_core.specs.declared.error.OfficeError.{OfficeError}
use Rattle.office_core.specs.declared.error.OfficeError.TheVariants as error
use Rattle.office_core.specs.declared.event.Event.TheVariants as event
use Rattle.office_core.specs.declared.event.EventAnswer.TheVariants as answer
use Rattle.office_core.specs.Errors.{refused_by, is_of_store}
use Rattle.office_core.specs.History.{History, open_line, asked, settings}
use Rattle.office_core.specs.Orders.{send_fault, writing}
use Rattle.office_core.specs.Queries.{Writing, Writes, asked_of}
use Rattle.office_core.specs.Sending.{IsRefused, IsSent}
use Rattle.office_core.specs.Standing.{queries, open_one, StandsFor, Goes}
use Rattle.office_core.proofs.Opens.{line_held}
use Rattle.office_core.proofs.Queries.{length-queries}
use Rattle.office_core.proofs.Steps.{send_refused_goes, sent_goes, store_goes}
use Rattle.office_core.proofs.Written.{write_spelled}

module _ (holds : Tables → Type 0) (now : Site) (known : List PointRow) (all : List OpenOne) (conn number : ℕ) (line : Option ℕ) (at : line_of (held conn all) ≡ line)
    (holds' : Tables → Type 0) (keeps : (kept : Tables) → holds kept → holds' kept) where
  line_is : (before : History) → StandsFor holds now known all before → open_line before conn ≡ line
  line_is before stands = sym (line_held holds now known all before stands conn) ∙ at

  -- a send that the store or the office refuses
  pub sending_judged : (e : OfficeError) → ((before : History) → StandsFor holds now known all before → IsRefused line now known (settings before) number e)
      → Goes (StandsFor holds now known all) (StandsFor holds' now known all) (event.Send conn number) (answer.Refused e)
  sending_judged e refused = by (is_of_store e) refl
    where
      by : (b : Bool) → is_of_store e ≡ b → Goes (StandsFor holds now known all) (StandsFor holds' now known all) (event.Send conn number) (answer.Refused e)
      by true store = store_goes holds now known all holds' (λ kept h copy. keeps kept h) all (λ d. refl) (event.Send conn number) (answer.Refused e) store
      by false other = send_refused_goes holds now known all conn number e holds' keeps (λ before stands. elim (refused before stands) [
        | inl store ↦ absurd (false≢true (sym other ∙ store))
        | inr fault ↦ ap (λ o. send_fault o now known (settings before) (length (asked before conn)) number) (line_is before stands) ∙ fault (length (asked before conn))
      ])

  module _ (query : Asked) (sent : (before : History) → StandsFor holds now known all before → IsSent line now known (settings before) number query) where
    full : ℕ → Option MatchError
    full made = cond (leb 4294967295 made) (Some matching.Exhausted) None

    -- the connection is open
    open_one_is : (before : History) → StandsFor holds now known all before → (l : ℕ) × (open_line before conn ≡ Some l)
    open_one_is before stands = by line (line_is before stands) (sent before stands)
      where
        by : (o : Option ℕ) → open_line before conn ≡ o → IsSent o now known (settings before) number query → (l : ℕ) × (open_line before conn ≡ Some l)
        by None is s = let e : Some error.NoConnection ≡ None = s.fault 0 in absurd (cc)
        by (Some l) is s = (l, is)

    held_is : (before : History) → StandsFor holds now known all before → (l : ℕ) × (held conn all ≡ Some (open_one conn (queries before conn) l))
    held_is before stands =
        let o = open_one_is before stands in
        (o.0, stands.connections conn ∙ ap (option_map (open_one conn (queries before conn))) o.1)

    refusal_is : (before : History) → StandsFor holds now known all before → next_refusal (held conn all) ≡ full (length (asked before conn))
    unfolding full
    refusal_is before stands = ap next_refusal (held_is before stands).1 ∙ ap full (length-queries before conn 0 (asked before conn))

    fault_is : (before : History) → StandsFor holds now known all before
        → send_fault (open_line before conn) now known (settings before) (length (asked before conn)) number ≡ option_map refused_by (next_refusal (held conn all))
    unfolding full
    fault_is before stands =
        ap (λ o. send_fault o now known (settings before) (length (asked before conn)) number) (line_is before stands)
        ∙ (sent before stands).fault (length (asked before conn))
        ∙ by (leb 4294967295 (length (asked before conn)))
        ∙ ap (option_map refused_by) (sym (refusal_is before stands))
      where
        by : (b : Bool) → cond b (Some error.Exhausted) None ≡ option_map refused_by (cond b (Some matching.Exhausted) None)
        by true = refl
        by false = refl

    -- a query that the matcher refuses
    pub sending_refused : (e : MatchError) → next_refusal (held conn all) ≡ Some e → (all' : List OpenOne) → all' ≡ all
        → Goes (StandsFor holds now known all) (StandsFor holds' now known all') (event.Send conn number) (answer.Refused (refused_by e))
    sending_refused e refused all' same =
        subst (λ l. Goes (StandsFor holds now known all) (StandsFor holds' now known l) (event.Send conn number) (answer.Refused (refused_by e))) (sym same)
        (send_refused_goes holds now known all conn number (refused_by e) holds' keeps (λ before stands. fault_is before stands ∙ ap (option_map refused_by) refused))

    -- a query that goes out
    pub sending_goes : (frame : Frame) → next_refusal (held conn all) ≡ None → IsNextFrame query (held conn all) frame → (all' : List OpenOne) → Changes conn (with_query query) all all'
        → Goes (StandsFor holds now known all) (StandsFor holds' now known all') (event.Send conn number) (answer.Query frame)
    sending_goes frame none next all' queried =
        sent_goes holds now known all conn number frame holds' keeps
        (λ before stands. fault_is before stands ∙ ap (option_map refused_by) none)
        (λ before stands.
        let h = held_is before stands in
        let on : next.on ≡ open_one conn (queries before conn) h.0 = same_Some next.on (open_one conn (queries before conn) h.0) (sym next.is_open ∙ h.1) in
        let w : Writing = writing now known (settings before) number in
        let writes : query ≡ asked_of (Writes w) = (sent before stands).writes in
        let transaction : frame.transaction ≡ length (asked before conn) % 65536 =
        next.transaction ∙ ap (λ (o : OpenOne). o.made % 65536) on ∙ ap (λ n. n % 65536) (length-queries before conn 0 (asked before conn)) in
        let unit_id : frame.unit_id ≡ w.unit_id = next.unit_id ∙ ap asked_unit_id writes in
        let unit = write_spelled w.address w.payload frame.unit (subst (λ (x : Asked). spells (request_of x) frame.unit) writes next.unit) in
        λ i. record { transaction = transaction i; unit_id = unit_id i; unit = unit i })
        all' (λ before stands. subst (λ (x : Asked). Changes conn (with_query x) all all') (sent before stands).writes queried)
