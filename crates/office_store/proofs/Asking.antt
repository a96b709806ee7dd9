-- A query changes nothing.
use Rattle.std.proofs.Common.{◌≡◌, ◌⊎◌, inl, inr, ℕ, List, Ok, Err, Result, IfOk, IfErr, OnOk, IsTrue, sym, ap, subst, ◌∙◌, arith}
use Rattle.sqlite_value.specs.Order.{Row}
use Rattle.sqlite_trees.specs.Tree.{Trees}
use Rattle.sqlite.specs.declared.error.Error.{Error}
use Rattle.sqlite.specs.Effect.{Database}
use Rattle.sqlite.specs.State.{State, HasCleanDisk, Shown, ShowsRows, FailsToQuery, FailsToShow, IsNotRun, IsUnchanged, IsRolledBack, Survives, CommitsShowing}
use Rattle.sqlite.specs.Clock.{timed}
use Rattle.poll_book.specs.Tables.{Tables}
use Rattle.office_store.specs.Kept.{StandFor, IsHeld, Keeps, IsQuery}

module _ (sql : List ℕ) (params : Row) (old new : State) (query : IsQuery sql) where
  pub after_ok : (rows : List Row) → Shown sql params old new rows → IsUnchanged old new
  unfolding Shown
  after_ok rows h = (subst (ShowsRows old new sql h.0 (timed params h.0.formats h.1.now) rows) (query old.now.schema h.0 h.1.is) h.2).3

  after_err : (e : Error) → FailsToQuery sql params old new e → IsUnchanged old new ⊎ IsRolledBack old new
  unfolding FailsToQuery IsNotRun
  after_err e (inl (inl h)) = inl h.1
  after_err e (inl (inr h)) = inr h.3
  after_err e (inr h) = inl (subst (FailsToShow old new sql h.0 (timed params h.0.formats h.1.now) e) (query old.now.schema h.0 h.1.is) h.2).3

  no_commit : (db : Trees) → ¬ CommitsShowing sql params old db
  unfolding CommitsShowing
  no_commit db h = let none = query old.now.schema h.0 h.1.is in absurd (let e = (rw none at h.2) in cc)

  held_after : (kept : Tables) → IsTrue new.is_open → (IsTrue old.is_open → IsHeld old kept) → IsUnchanged old new ⊎ IsRolledBack old new → IsHeld new kept
  held_after kept now_open held (inl same) =
      let it = held same.0.was_open in record {
        schema = ap (λ (d : Database). d.schema) same.0.now_is ∙ it.schema;
        settled = same.0.now_is ∙ it.settled ∙ sym same.0.committed_is;
        stands = subst (λ (d : Database). StandFor d.trees kept) (sym same.0.now_is) it.stands;
      }
  held_after kept now_open held (inr back) =
      let it = held (back.was_open now_open) in
      let both = back.undone now_open in
      let now : new.now ≡ old.now = both.0 ∙ sym it.settled in record {
        schema = ap (λ (d : Database). d.schema) now ∙ it.schema;
        settled = both.0 ∙ sym both.1;
        stands = subst (λ (d : Database). StandFor d.trees kept) (sym now) it.stands;
      }

  pub ending : {X : Type 0} (items : X → List Row) (r : Result X Error) → IfOk r (λ x. Shown sql params old new (items x)) → IfErr r (FailsToQuery sql params old new) → IsUnchanged old new ⊎ IsRolledBack old new
  ending items (Ok x) ok err = inl (after_ok (items x) ok)
  ending items (Err e) ok err = after_err e err

  pub same_if_ok : {X : Type 0} (items : X → List Row) (r : Result X Error) → IfOk r (λ x. Shown sql params old new (items x)) → OnOk r (IsUnchanged old new)
  same_if_ok items (Ok x) ok = after_ok (items x) ok
  same_if_ok items (Err e) ok = tt

  pub keeps : {X : Type 0} (items : X → List Row) (r : Result X Error) → (HasCleanDisk new → IfOk r (λ x. Shown sql params old new (items x))) → (HasCleanDisk new → IfErr r (FailsToQuery sql params old new))
      → Survives old new (CommitsShowing sql params old) → Keeps old new
  keeps items r ok err survives = record {
    clean = λ clean. omega (arith, survives.clean);
    was_open = λ clean now_open. elim (ending items r (ok clean) (err clean)) [ inl same ↦ same.0.was_open | inr back ↦ back.was_open now_open ];
    holds = λ kept held clean now_open. held_after kept now_open (held (omega (arith, survives.clean))) (ending items r (ok clean) (err clean));
    crash = λ clean db left. elim (survives.crash clean db left) [ inl was ↦ was | inr made ↦ absurd (no_commit db made) ];
  }
