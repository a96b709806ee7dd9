-- How a caller's place stands, by its mood.
use Rattle.std.proofs.Common.{◌≡◌, List, [], ◌∷◌, ◌++◌, ℕ, refl, sym, ap, subst}
use Rattle.poll_book.specs.declared.keeper.Neighbours.{Ghosts}
use Rattle.run_beat.specs.declared.sockets.Source.{Source}
use Rattle.run_beat.specs.Acts.{Act, Ends, Reads}
use Rattle.office_core.specs.declared.office.Office.{Office}
use Rattle.std.specs.Prelude.{◌≢◌}
use Rattle.office_http.specs.declared.heard.Heard.{Heard as AHeard}
use Rattle.office_http.specs.declared.heard.Heard.TheVariants as heards
use Rattle.office_http.specs.declared.heard.Page.{Page}
use Rattle.office_http.specs.Heard.{meaning_of}
use Rattle.office_http.specs.Meanings.{page}
use Rattle.office_http.specs.Exchanges.{bytes_of}
use Rattle.run_callers.specs.declared.caller.Caller.{Caller}
use Rattle.run_callers.specs.declared.caller.Mood.{Mood}
use Rattle.run_callers.specs.declared.caller.Mood.TheVariants as mood
use Rattle.run_callers.specs.Callers.{session_in, session_of}
use Rattle.run_callers.specs.Sessions.{Answering, Exchanges, Heard, Hearing, Moves, Session}
use Rattle.run_deeds.proofs.Passing.{acting_once, part_acting}

pub is_hearing : (caller : Caller) → caller.mood ≡ mood.Hearing → session_of caller ≡ Hearing (bytes_of caller.exchange)
is_hearing caller is = ap (λ (m : Mood). session_in m (bytes_of caller.exchange) caller.showing caller.out) is

pub is_answering : (caller : Caller) → caller.mood ≡ mood.Answering → session_of caller ≡ Answering caller.showing caller.out
is_answering caller is = ap (λ (m : Mood). session_in m (bytes_of caller.exchange) caller.showing caller.out) is

module _ {K : Type 0} {g : Ghosts K} (source : Source) (office : Office K g) (acted : List Act → Type 0) (caller : Caller) (is : caller.mood ≡ mood.Hearing) where
  -- bytes came
  pub hears : (bytes : List ℕ) → acted (Reads source bytes ∷ []) → Exchanges source office office acted (session_of caller) (Hearing (bytes_of caller.exchange ++ bytes))
  hears bytes acts =
      subst (λ (session : Session). Exchanges source office office acted session (Hearing (bytes_of caller.exchange ++ bytes))) (sym (is_hearing caller is))
      (part_acting Moves source office acted (Hearing (bytes_of caller.exchange)) (Hearing (bytes_of caller.exchange ++ bytes))
      (acting_once Moves source acted (Reads source bytes) (Hearing (bytes_of caller.exchange)) (Hearing (bytes_of caller.exchange ++ bytes)) acts refl (λ now. (caller.lacks is, refl))))

  -- no more come
  pub heard : acted (Ends source ∷ []) → Exchanges source office office acted (session_of caller) (Heard (bytes_of caller.exchange))
  heard acts =
      subst (λ (session : Session). Exchanges source office office acted session (Heard (bytes_of caller.exchange))) (sym (is_hearing caller is))
      (part_acting Moves source office acted (Hearing (bytes_of caller.exchange)) (Heard (bytes_of caller.exchange))
      (acting_once Moves source acted (Ends source) (Hearing (bytes_of caller.exchange)) (Heard (bytes_of caller.exchange)) acts refl (λ now. (caller.lacks is, refl))))

-- ---- no page

-- what was heard asks for no page
pub asks_no_page : (heard : AHeard) → ((shown : Page) → heard ≢ heards.Page shown) → (shown : Page) → meaning_of heard ≢ page shown
asks_no_page heards.Nothing none shown is = absurd (cc)
asks_no_page (heards.Refused refusal) none shown is = absurd (cc)
asks_no_page (heards.Load caller key list) none shown is = absurd (cc)
asks_no_page (heards.Order caller key point value) none shown is = absurd (cc)
asks_no_page (heards.Void caller key point slot) none shown is = absurd (cc)
asks_no_page (heards.OrderUnder caller key) none shown is = absurd (cc)
asks_no_page (heards.Readings point from to) none shown is = absurd (cc)
asks_no_page (heards.Total point) none shown is = absurd (cc)
asks_no_page (heards.Report point from to) none shown is = absurd (cc)
asks_no_page (heards.Page other) none shown is = absurd (none other refl)
