-- What a send does to an office that stands for a history.
use Rattle.std.proofs.Common.{◌≡◌, ◌≢◌, ℕ, Bool, true, false, cond, eqb, List, [], ◌∷◌, ◌++◌, length, Some, None, refl, sym, ap, ◌∙◌, subst, ⊎_elim}
use Rattle.std.specs.Prelude.{is_none, ◌&&◌}
use Rattle.std.proofs.lemmas.Bool.{and_from, eq-eqb, ne_eqb, cases_eq}
use Rattle.point_list.specs.declared.site.Site.{Site}
use Rattle.poll_match.specs.Window.{Open as OpenOne, held, with_query, Changes}
use Rattle.poll_book.specs.declared.rows.PointRow.{PointRow}
use Rattle.poll_book.specs.Tables.{Tables}
use Rattle.office_core.specs.declared.error.OfficeError.{OfficeError}
use Rattle.office_core.specs.declared.event.EventAnswer.TheVariants as answer
use Rattle.office_core.specs.Queries.{Writing, Writes, asked_of, query_frame}
use Rattle.office_core.specs.Orders.{send_fault, writing}
use Rattle.office_core.specs.History.{Send, History, points, site_of, open_line, asked, settings}
use Rattle.office_core.specs.Answers.{answer_of, refused_or}
use Rattle.office_core.specs.Standing.{open_of, StandsFor}
use Rattle.office_core.proofs.Asks.{and_off, and_off_left, open_more}
use Rattle.office_core.proofs.Queries.{still_open}

-- whether a send makes a query
abbrev pub send_made : History → ℕ → ℕ → Bool
send_made before conn number = is_none (send_fault (open_line before conn) (site_of before) (points before) (settings before) (length (asked before conn)) number)

-- what is written for an order after that history
abbrev pub sends : History → ℕ → Writing
sends before number = writing (site_of before) (points before) (settings before) number

pub sent_not : (before : History) (conn number other : ℕ) → (eqb conn other && send_made before conn number) ≡ false
    → asked (Send conn number ∷ before) other ≡ asked before other
sent_not before conn number other off = ap (λ b. cond b (asked before other ++ Writes (sends before number) ∷ []) (asked before other)) off

pub sent_one : (before : History) (conn number : ℕ) → send_made before conn number ≡ true
    → asked (Send conn number ∷ before) conn ≡ asked before conn ++ Writes (sends before number) ∷ []
sent_one before conn number made =
    ap (λ b. cond b (asked before conn ++ Writes (sends before number) ∷ []) (asked before conn)) (and_from (eqb conn conn) _ (eq-eqb conn conn refl) made)

module _ (holds : Tables → Type 0) (now : Site) (known : List PointRow) (all : List OpenOne) (before : History) (stands : StandsFor holds now known all before) where
  pub send_refused : (conn number : ℕ) (e : OfficeError)
      → send_fault (open_line before conn) (site_of before) (points before) (settings before) (length (asked before conn)) number ≡ Some e
      → StandsFor holds now known all (Send conn number ∷ before) × (answer.Refused e ≡ answer_of before (Send conn number))
  send_refused conn number e fault =
      let off : send_made before conn number ≡ false = ap is_none fault in (
        record {
          tables = stands.tables;
          site = stands.site;
          points = stands.points;
          connections = λ d. stands.connections d ∙ sym (still_open before (Send conn number ∷ before) d refl
              (sent_not before conn number d (and_off (eqb conn d) (send_made before conn number) off)) (λ k. refl));
        },
        sym (ap (λ o. refused_or o (answer.Query (query_frame (length (asked before conn)) (Writes (sends before number))))) fault),
      )

  pub send_made_so : (conn number : ℕ)
      → send_fault (open_line before conn) (site_of before) (points before) (settings before) (length (asked before conn)) number ≡ None
      → (all' : List OpenOne) → Changes conn (with_query (asked_of (Writes (sends before number)))) all all'
      → StandsFor holds now known all' (Send conn number ∷ before)
      × (answer.Query (query_frame (length (asked before conn)) (Writes (sends before number))) ≡ answer_of before (Send conn number))
  send_made_so conn number fault all' queried =
      let made : send_made before conn number ≡ true = ap is_none fault in (
        record {
          tables = stands.tables;
          site = stands.site;
          points = stands.points;
          connections = λ d. ⊎_elim
              (λ (same : d ≡ conn). subst (λ x. held x all' ≡ open_of (Send conn number ∷ before) x) (sym same)
              (queried.that ∙ ap (with_query (asked_of (Writes (sends before number)))) (stands.connections conn)
              ∙ open_more before (Send conn number ∷ before) conn (Writes (sends before number)) (sent_one before conn number made) refl (λ k. refl)))
              (λ (apart : d ≢ conn). queried.others d apart ∙ stands.connections d
              ∙ sym (still_open before (Send conn number ∷ before) d refl
              (sent_not before conn number d (and_off_left (eqb conn d) (send_made before conn number) (ne_eqb conn d (λ e. apart (sym e))))) (λ k. refl)))
              (cases_eq d conn);
        },
        sym (ap (λ o. refused_or o (answer.Query (query_frame (length (asked before conn)) (Writes (sends before number))))) fault),
      )
