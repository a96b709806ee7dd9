-- What the matcher and the keeper answer to an Open is what the history says of it.
use Rattle.std.proofs.Common.{◌≡◌, ◌≢◌, ℕ, ◌+◌, ◌<◌, ◌≤◌, cond, leb, List, ◌∷◌, Some, None, Option, refl, sym, ap, ◌∙◌, arith, subst, ⊎_elim}
use Rattle.std.specs.Prelude.{is_some, IfSome, IfNone}
use Rattle.std.proofs.lemmas.Bool.{le-leb, lt-leb, cases_eq}
use Rattle.point_list.specs.declared.site.Site.{Site}
use Rattle.poll_match.specs.Window.{Open as OpenOne, held, fresh, closed, line_of, greatest_of, Changes, IsLeastOf}
use Rattle.poll_match.proofs.Greatest.{held_below}
use Rattle.poll_book.specs.declared.rows.PointRow.{PointRow}
use Rattle.poll_book.specs.Tables.{Tables}
use Rattle.office_core.specs.declared.error.OfficeError.TheVariants as error
use Rattle.office_core.specs.declared.event.Event.TheVariants as event
use Rattle.office_core.specs.declared.event.EventAnswer.TheVariants as answer
use Rattle.office_core.specs.Sites.{line_place}
use Rattle.office_core.specs.History.{Happening, History, connections, open_fault, tables}
use Rattle.office_core.specs.Keeping.{IsCopy}
use Rattle.office_core.specs.Standing.{StandsFor, IsFormer, Closes, Goes, Sees}
use Rattle.office_core.proofs.Steps.{open_refused_goes, opened_goes, opened_made}

-- a number above all that are open isn't open
pub not_open : (all : List OpenOne) (conn : ℕ) → greatest_of all < conn → held conn all ≡ None
not_open all conn above = by (held conn all) refl
  where
    by : (o : Option OpenOne) → held conn all ≡ o → o ≡ None
    by None at = refl
    by (Some on) at = let le = held_below conn all (ap is_some at) in absurd (omega arith)

-- a connection that is opened and closed again changes nothing
pub reclosed : (conn line : ℕ) (all all1 all2 : List OpenOne) → held conn all ≡ None → Changes conn (fresh conn line) all all1 → Changes conn closed all1 all2
    → (d : ℕ) → held d all2 ≡ held d all
reclosed conn line all all1 all2 none opens closes d =
    ⊎_elim
    (λ (same : d ≡ conn). subst (λ x. held x all2 ≡ held x all) (sym same) (closes.that ∙ sym none))
    (λ (apart : d ≢ conn). closes.others d apart ∙ opens.others d apart)
    (cases_eq d conn)

pub former_is : (line : ℕ) (all : List OpenOne) (o : Option ℕ) → IfSome o (IsLeastOf line all) → IfNone o ((conn : ℕ) → line_of (held conn all) ≡ Some line → ⊥) → IsFormer line all o
former_is line all None some none = none
former_is line all (Some conn) some none = some

module _ (holds : Tables → Type 0) (now : Site) (known : List PointRow) (all : List OpenOne) (name : List ℕ) (line last : ℕ) (place : line_place now name ≡ Some line)
    (made : (before : History) → StandsFor holds now known all before → last ≡ connections before) where
  fault_is : (before : History) → StandsFor holds now known all before → open_fault (line_place now name) (connections before) ≡ cond (leb 4294967295 last) (Some error.Exhausted) None
  fault_is before stands = ap (λ o. open_fault o (connections before)) place ∙ ap (open_fault (Some line)) (sym (made before stands))

  -- no number is left
  pub opening_full : 4294967295 ≤ last → (holds' : Tables → Type 0) → ((kept : Tables) → holds kept → IsCopy known kept → holds' kept)
      → Goes (StandsFor holds now known all) (StandsFor holds' now known all) (event.Open name) (answer.Refused error.Exhausted)
  opening_full full holds' keeps =
      open_refused_goes holds now known all name error.Exhausted
      (λ before stands. fault_is before stands ∙ ap (λ b. cond b (Some error.Exhausted) None) (le-leb 4294967295 last full)) holds' keeps

  -- the line is opened
  pub opening_goes : last < 4294967295 → (new : ℕ) → new ≡ last + 1
      → (holds' : Tables → Type 0) → ((kept : Tables) → holds kept → IsCopy known kept → holds' (record kept { connections = new }))
      → (former : Option ℕ) → IsFormer line all former → (all1 all' : List OpenOne) → Changes new (fresh new line) all all1 → Closes former all1 all'
      → Goes (StandsFor holds now known all) (StandsFor holds' now known all') (event.Open name) (answer.Opened new)
  opening_goes left new next holds' kept former is_former all1 all' opens closes =
      opened_goes holds now known all name line new place
      (λ before stands. (next ∙ ap (λ n. n + 1) (made before stands), fault_is before stands ∙ ap (λ b. cond b (Some error.Exhausted) None) (lt-leb 4294967295 last left)))
      holds' kept former is_former all1 all' opens closes

  -- the tables with it
  pub opening_made : last < 4294967295 → (new : ℕ) → new ≡ last + 1 → (before : History) (happening : Happening) → StandsFor holds now known all before → Sees before happening (event.Open name)
      → record (tables before) { connections = new } ≡ tables (happening ∷ before)
  opening_made left new next =
      opened_made holds now known all name line new place
      (λ before stands. (next ∙ ap (λ n. n + 1) (made before stands), fault_is before stands ∙ ap (λ b. cond b (Some error.Exhausted) None) (lt-leb 4294967295 last left)))
