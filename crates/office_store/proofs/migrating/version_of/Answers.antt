use Rattle.std.proofs.Common.{◌≡◌, ◌∷◌, List, [], ℕ, Some, Ok, Err, Result, IfOk, subst}
use Rattle.sqlite_value.specs.Order.{Row, column}
use Rattle.sqlite.specs.Held.{state}
use Rattle.sqlite.specs.State.{Shown}
use Rattle.office_store.specs.Rows.{number_of}
use Rattle.office_store.specs.Texts.{version_text}
use Rattle.office_store.specs.declared.error.StoreError.{StoreError}
use Rattle.office_store.proofs.Versions.{earlier_shown, office_shown}
use Rattle.office_store.proofs.migrating.version_of.Goals as goal

-- what holds of the version in one row that was shown
of_one : (P : List Row → Type 0) (want : ℕ) (rows : List Row) (r : Result ℕ StoreError) → P rows → ((row : Row) → P (row ∷ []) → (n : ℕ) → number_of (column row 0) ≡ Some n → n ≡ want)
    → IfOk r (λ version. (row : Row) × (rows ≡ row ∷ []) × (number_of (column row 0) ≡ Some version)) → IfOk r (λ version. version ≡ want)
of_one P want rows (Ok n) shown each h = each h.0 (subst P h.1 shown) n h.2
of_one P want rows (Err e) shown each h = tt

pub returns-in-Ok-clause-earlier : goal.returns-in-Ok-clause-earlier
returns-in-Ok-clause-earlier g c clean kept was =
    let old = state g.S.Store c.args.connection.now in
    let new = state g.S.Store c.ask_version.new.connection in
    let rows = c.in-Ok.rows.items in
    of_one (Shown version_text [] old new) 1 rows c.version_in.result (c.in-Ok.ensures.rows clean) (earlier_shown old new kept was)
    (subst (λ (all : List Row). IfOk c.version_in.result (λ version. (row : Row) × (all ≡ row ∷ []) × (number_of (column row 0) ≡ Some version))) c.deref.ensures.value c.version_in.ensures.version)

pub returns-in-Ok-clause-office : goal.returns-in-Ok-clause-office
returns-in-Ok-clause-office g c clean kept held =
    let old = state g.S.Store c.args.connection.now in
    let new = state g.S.Store c.ask_version.new.connection in
    let rows = c.in-Ok.rows.items in
    of_one (Shown version_text [] old new) 2 rows c.version_in.result (c.in-Ok.ensures.rows clean) (office_shown old new kept held)
    (subst (λ (all : List Row). IfOk c.version_in.result (λ version. (row : Row) × (all ≡ row ∷ []) × (number_of (column row 0) ≡ Some version))) c.deref.ensures.value c.version_in.ensures.version)
