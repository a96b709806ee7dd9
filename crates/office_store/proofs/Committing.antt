-- One transaction, from its begin to its commit.
use Rattle.std.proofs.Common.{◌≡◌, ◌⊎◌, inl, inr, true, false, IsTrue, refl, sym, ap, subst, ◌∙◌}
use Rattle.sqlite_trees.specs.declared.store.Store.{Ghosts}
use Rattle.sqlite_trees.specs.Tree.{Trees}
use Rattle.sqlite_trees.specs.Objects.{catalog_tree}
use Rattle.sqlite_catalog.specs.Listing.{Lists, IsSound}
use Rattle.sqlite.specs.Effect.{Database, IsDatabase}
use Rattle.sqlite.specs.declared.error.Error.{Error}
use Rattle.sqlite.specs.Held.{Held, state}
use Rattle.sqlite.specs.State.{State, IsLive, KeepsCommit, Shows}
use Rattle.sqlite.specs.Steps.{FailsToCommit}
use Rattle.poll_book.specs.Tables.{Tables}
use Rattle.office_store.specs.Kept.{IsHeld, IsOffice, MayLeave, StandFor}
use Rattle.office_store.specs.Schema.{office_schema}
use Rattle.office_store.specs.Writing.{Within}
use Rattle.office_store.proofs.Once.{once}

-- sound tables that stand for what an office keeps are an office's
pub office_of : (d : Database) (kept : Tables) → IsSound d.schema d.trees → d.schema ≡ office_schema → StandFor d.trees kept → IsOffice d.trees
office_of d kept sound schema stands = record { listed = subst (Lists (d.trees catalog_tree)) schema sound.lists; some = kept; stands = stands }

-- what tables of an office may be taken for is what they stand for
pub only_those : (db : Trees) (kept left : Tables) → IsOffice db → StandFor db kept → (IsOffice db → StandFor db left) → left ≡ kept
only_those db kept left office stands taken = once db left kept (taken office) stands

module _ {S : Type 0} (g : Ghosts S) (old begun last : Held S) (begins : begun ≡ record old { in_transaction = true }) (kept after : Tables) where
  pub within_begun : IsHeld (state g old) kept → IsTrue (state g old).is_open → IsLive (state g old) → Within (state g begun) (state g old).committed kept
  within_begun held opened live =
      subst (λ h. Within (state g h) (state g old).committed kept) (sym begins)
      (record { is_open = opened; inside = refl; schema = held.schema; committed = refl; sound = (live opened).0; stands = held.stands })

  pub held_after : (new : State) → Within (state g last) (state g old).committed after → Shows (state g last) new (state g last).now (state g last).now false → IsHeld new after
  held_after new w shows = record {
    schema = ap (λ (d : Database). d.schema) shows.now_is ∙ w.schema;
    settled = shows.now_is ∙ sym shows.committed_is;
    stands = subst (λ (d : Database). StandFor d.trees after) (sym shows.now_is) w.stands;
  }

  -- a crash leaves what it might leave before, or what is committed
  pub leaves : (left : Tables) (db : Trees) → Within (state g last) (state g old).committed after → (IsOffice db → StandFor db left)
      → ((state g begun).may_leave db ⊎ ⊥) ⊎ (db ≡ (state g last).now.trees) → MayLeave (state g old) left ⊎ (left ≡ after)
  leaves left db w taken (inl (inl was)) = inl (db, subst (λ h. (state g h).may_leave db) begins was, taken)
  leaves left db w taken (inl (inr none)) = absurd none
  leaves left db w taken (inr made) =
      let trees = (state g last).now.trees in
      inr (only_those trees after left (office_of (state g last).now after w.sound w.schema w.stands) w.stands (subst (λ (t : Trees). IsOffice t → StandFor t left) made taken))

-- while the store is open, a crash leaves the last commit alone
pub leaves_commit : {S : Type 0} (g : Ghosts S) (new : Held S) (kept left : Tables) → ((db : Trees) → IsTrue (g.view new.store).is_open → g.recovers new.store db → db ≡ (g.view new.store).committed)
    → IsTrue (state g new).is_open → IsDatabase (state g new).now → IsHeld (state g new) kept → MayLeave (state g new) left → left ≡ kept
leaves_commit g new kept left settled opened sound held may =
    let s = state g new in
    let trees = s.now.trees in
    let is : may.0 ≡ trees = settled may.0 opened may.1 ∙ ap (λ (d : Database). d.trees) (sym held.settled) in
    only_those trees kept left (office_of s.now kept sound held.schema held.stands) held.stands (subst (λ (t : Trees). IsOffice t → StandFor t left) is may.2)

-- a transaction that wasn't committed leaves what was held
pub held_still : {S : Type 0} (g : Ghosts S) (old begun last : Held S) (new : State) (e : Error) (kept : Tables) → begun ≡ record old { in_transaction = true } → KeepsCommit (state g begun) (state g last)
    → IsTrue (state g last).in_transaction → FailsToCommit (state g last) new e → IsTrue new.is_open → (IsTrue (state g old).is_open → IsHeld (state g old) kept) → IsHeld new kept
held_still g old begun last new e kept begins keeps inside (inl fails) now_open held =
    let back = fails.3 in
    let last_open = back.was_open now_open in
    let begun_open = keeps.was_open last_open in
    let it = held (subst (λ h. IsTrue (state g h).is_open) begins begun_open) in
    let both = back.undone now_open in
    let base : (state g last).committed ≡ (state g old).now = keeps.committed last_open ∙ ap (λ h. (state g h).committed) begins ∙ sym it.settled in
    record {
      schema = ap (λ (d : Database). d.schema) (both.0 ∙ base) ∙ it.schema;
      settled = both.0 ∙ sym both.1;
      stands = subst (λ (d : Database). StandFor d.trees kept) (sym (both.0 ∙ base)) it.stands;
    }
held_still g old begun last new e kept begins keeps inside (inr late) now_open held = absurd (let bad = rw late.1 at inside in cc)

-- a transaction that was dropped leaves no more than it might before
pub leaves_dropped : {S : Type 0} (g : Ghosts S) (old begun : Held S) (left after : Tables) (db : Trees) → begun ≡ record old { in_transaction = true } → (IsOffice db → StandFor db left)
    → (state g begun).may_leave db → MayLeave (state g old) left ⊎ (left ≡ after)
leaves_dropped g old begun left after db begins taken was = inl (db, subst (λ h. (state g h).may_leave db) begins was, taken)

-- a change that isn't empty is put into an open store alone
pub was_open : {S : Type 0} (g : Ghosts S) (old begun : Held S) → begun ≡ record old { in_transaction = true } → (empty : Type 0) → ¬ empty → empty ⊎ IsTrue (state g begun).is_open → IsTrue (state g old).is_open
was_open g old begun begins empty filled (inl nothing) = absurd (filled nothing)
was_open g old begun begins empty filled (inr opened) = subst (λ h. IsTrue (state g h).is_open) begins opened
