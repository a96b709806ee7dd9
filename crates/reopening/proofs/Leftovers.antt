-- What a crash leaves of a run stands for a history, whatever it is.
use Rattle.std.proofs.Common.{◌≡◌, ◌⊎◌, inl, inr, false, List, [], ◌∷◌, refl, sym, ap, subst, ◌∙◌, IsTrue, T}
use Rattle.std.specs.FinMap.Entries as rows
use Rattle.sqlite_trees.specs.declared.store.Store.{Ghosts}
use Rattle.sqlite_trees.specs.Tree.{Trees}
use Rattle.sqlite_trees.specs.Objects.{catalog_tree}
use Rattle.sqlite_catalog.specs.Listing.{Lists}
use Rattle.poll_book.specs.declared.rows.Reading.{Reading}
use Rattle.poll_book.specs.Tables.{Tables, Key, Within, key_cmp, no_tables}
use Rattle.sqlite.specs.Effect.{Database}
use Rattle.sqlite.specs.Held.{Held, state}
use Rattle.sqlite.specs.State.{IsLive}
use Rattle.office_store.specs.Kept.{IsHeld, IsOffice, MayLeave, StandFor}
use Rattle.office_core.specs.declared.event.EventAnswer.{EventAnswer}
use Rattle.office_core.specs.History.{Happening, History, after, tables}
use Rattle.office_core.specs.Leavings.{IsOfRefused, LeftBy, happened}
use Rattle.office_core.proofs.BySlot.{kept_sorted}
use Rattle.office_core.proofs.CrashLeavings.{left_less, only_these}
use Rattle.reopening.specs.Leftover.{IsLeftOf}

of_refused : (before : History) (rest : List Happening) (told : List EventAnswer) (left : Tables) → IsOfRefused before rest told left → (h : History) × (left ≡ tables h)
of_refused before [] told left it = absurd it
of_refused before (h ∷ rest) [] left it = absurd it
of_refused before (h ∷ rest) (a ∷ told) left (inl it) = (h ∷ before, it.1)
of_refused before (h ∷ rest) (a ∷ told) left (inr more) = of_refused _ rest told left more

of_history : (before : History) (rest : List Happening) (told : List EventAnswer) (left : Tables) → (left ≡ tables (after before (happened rest told))) ⊎ IsOfRefused before rest told left
    → (h : History) × (left ≡ tables h) × IsLeftOf before rest told h
of_history before rest told left (inl is) = (after before (happened rest told), is, inl refl)
of_history before rest told left (inr refused) = let it = of_refused before rest told left refused in (it.0, it.1, inr (subst (IsOfRefused before rest told) it.1 refused))

-- tables that no history has
twice : Key × Reading
twice = ((0, 0), record { words = []; counted = false })

abbrev no_history : Tables
no_history = record no_tables { readings = twice ∷ twice ∷ [] }

never : (h : History) → no_history ≡ tables h → ⊥
unfolding twice
never h is = let sorted : T (rows.is_sorted key_cmp no_history.readings) = subst (λ (t : Tables). T (rows.is_sorted key_cmp t.readings)) (sym is) (kept_sorted h) in sorted

-- What a crash left, if it can be decided whether it is an office's, is one's, and stands for a history of the run.
pub left_of : (before : History) (rest : List Happening) (told : List EventAnswer) (may may' : Tables → Type 0) (db : Trees) → IsOffice db ⊎ (IsOffice db → ⊥)
    → ((left : Tables) → (IsOffice db → StandFor db left) → may' left) → Within may' (LeftBy before may rest told) → Within may (λ left. left ≡ tables before)
    → (o : IsOffice db) × (h : History) × (o.some ≡ tables h) × IsLeftOf before rest told h
left_of before rest told may may' db decided left within first =
    let of = λ (kept : Tables) (m : may' kept). of_history before rest told kept (only_these before rest told kept (left_less before (λ kept. kept ≡ tables before) may rest told first kept (within kept m))) in
    elim decided [
      | inl office ↦ let it = of office.some (left office.some (λ _. office.stands)) in (office, it.0, it.1, it.2)
      | inr none ↦ let it = of no_history (left no_history (λ office. absurd (none office))) in absurd (never it.0 it.1)
    ]

-- while the store is open, a crash leaves what it holds
pub first_left : {S : Type 0} (g : Ghosts S) (h : Held S) (kept left : Tables) → ((db : Trees) (a b : Tables) → StandFor db a → StandFor db b → a ≡ b)
    → ((db : Trees) → IsTrue (g.view h.store).is_open → g.recovers h.store db → db ≡ (g.view h.store).committed) → IsTrue (state g h).is_open → IsLive (state g h) → IsHeld (state g h) kept
    → MayLeave (state g h) left → left ≡ kept
first_left g h kept left once settled opened live held may =
    let s = state g h in
    let is : may.0 ≡ s.now.trees = settled may.0 opened may.1 ∙ ap (λ (d : Database). d.trees) (sym held.settled) in
    let office : IsOffice s.now.trees = record { listed = subst (Lists (s.now.trees catalog_tree)) held.schema (live opened).0.lists; some = kept; stands = held.stands } in
    once s.now.trees left kept (subst (λ (t : Trees). IsOffice t → StandFor t left) is may.2 office) held.stands
