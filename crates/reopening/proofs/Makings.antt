-- What a stop while an office's tables are made leaves, and what opening it comes to.
use Rattle.std.proofs.Common.{◌≡◌, ◌⊎◌, inl, inr, ◌≤◌, List, [], ◌∷◌, length, false, Some, Ok, Err, Result, IfOk, IsTrue, refl, sym, ap, subst, ◌∙◌, arith}
use Rattle.std.specs.Prelude.{◌≢◌, MatchResult}
use Rattle.sqlite_value.specs.Order.{Row, column}
use Rattle.sqlite_trees.specs.Tree.{Trees}
use Rattle.sqlite_trees.specs.Objects.{catalog_tree}
use Rattle.sqlite_catalog.specs.Listing.{Lists}
use Rattle.sqlite_catalog.proofs.ReadLemmas.{lists_once}
use Rattle.sqlite.specs.declared.error.Error.{Error}
use Rattle.sqlite.specs.Effect.{Database}
use Rattle.sqlite.specs.State.{State, HasCleanDisk, IsLive, FailsToQuery, Shown}
use Rattle.poll_book.specs.Tables.{no_tables}
use Rattle.poll_book.specs.declared.fault.StoreFault.{StoreFault}
use Rattle.poll_book.specs.declared.fault.StoreFault.TheVariants.{Other}
use Rattle.office_store.specs.Schema.{no_schema, office_schema}
use Rattle.office_store.specs.Blank.{IsEmptyOffice}
use Rattle.office_store.specs.Kept.{IsHeld}
use Rattle.office_store.specs.Faults.{IsOfStore, fault_of}
use Rattle.office_store.specs.Rows.{number_of}
use Rattle.office_store.specs.Texts.{version_text}
use Rattle.office_store.specs.declared.error.StoreError.{StoreError}
use Rattle.office_store.specs.declared.error.StoreError.TheVariants.{Store, BadVersion, NotOffice}
use Rattle.office_store.proofs.Versions.{bare_shows, by_store, fails_limited, other_open, row_shown, shown_open, version_shown}
use Rattle.reopening.specs.Making.{IsBareOrEmpty, IsLeftByMaking, IsRefusal}

-- What a stop leaves has no table, or is an office that knows nothing.
pub bare_or_empty : (old new found : State) → IsLive old → (IsTrue old.is_open → old.now ≡ old.committed) → ((db : Trees) → IsTrue old.is_open → old.may_leave db → db ≡ old.committed.trees)
    → (HasCleanDisk new → old.now.schema ≡ no_schema → (db : Trees) → new.may_leave db → old.may_leave db ⊎ IsEmptyOffice db)
    → IsLive found → (IsTrue found.is_open → found.now ≡ found.committed) → IsLeftByMaking old new found.now.trees → IsTrue found.is_open → IsBareOrEmpty found
bare_or_empty old new found live settled alone stop lives idle it opened =
    let db = found.now.trees in
    let lists = (lives opened).0.lists in
    let none : Lists (old.now.trees catalog_tree) no_schema = subst (Lists (old.now.trees catalog_tree)) it.bare (live it.is_open).0.lists in
    let as_before = λ (may : old.may_leave db).
    let is : db ≡ old.now.trees = alone db it.is_open may ∙ ap (λ (d : Database). d.trees) (sym (settled it.is_open)) in
    lists_once (db catalog_tree) found.now.schema no_schema lists (subst (λ (t : Trees). Lists (t catalog_tree) no_schema) (sym is) none) in
    elim it.left [
      | inl may ↦ inl (as_before may)
      | inr may ↦ elim (stop it.clean it.bare db may) [
        | inl was ↦ inl (as_before was)
        | inr made ↦ inr (record { schema = lists_once (db catalog_tree) found.now.schema office_schema lists made.listed; settled = idle opened; stands = made.stands })
      ]
    ]

module _ (found new : State) (left : IsTrue found.is_open → IsBareOrEmpty found) where
  -- What shows a row of a version is an office.
  pub is_empty : (row : Row) → Shown version_text [] found new (row ∷ []) → IsHeld found no_tables
  is_empty row shown = elim (left (shown_open found new (row ∷ []) shown)) [ inl bare ↦ absurd (bare_shows found new (row ∷ []) bare shown) | inr held ↦ held ]

  -- What isn't opened is no office, or the store failed.
  pub refusal : (error : StoreError) → (error ≡ BadVersion → (row : Row) × Shown version_text [] found new (row ∷ []) × (number_of (column row 0) ≢ Some 2))
      → (error ≡ NotOffice → Shown version_text [] found new [] ⊎ ((cause : Error) × FailsToQuery version_text [] found new cause × (fault_of cause ≡ Other)))
      → (error ≡ Store Other → IsTrue found.in_transaction ⊎ ((rows : List Row) × Shown version_text [] found new rows × (2 ≤ length rows)))
      → ((fault : StoreFault) → error ≡ Store fault → fault ≢ Other → (cause : Error) × FailsToQuery version_text [] found new cause × (fault_of cause ≡ fault)) → found.in_transaction ≡ false
      → IsRefusal found new error
  refusal BadVersion bad none other failed idle =
      let it = bad refl in
      let held = is_empty it.0 it.1 in
      absurd (it.2 (version_shown found new 0 held.schema held.stands.numbers it.0 it.1))
  refusal NotOffice bad none other failed idle = elim (none refl) [
    | inl shown ↦ elim (left (shown_open found new [] shown)) [
      | inl bare ↦ inl bare
      | inr held ↦ absurd (let no = row_shown found new 0 held.schema held.stands.numbers [] shown in omega arith)
    ]
    | inr fails ↦ elim (left (other_open found new fails.0 fails.1 fails.2)) [
      | inl bare ↦ inl bare
      | inr held ↦ inr (fails_limited found new 0 held.schema held.stands.numbers fails.0 fails.1 fails.2)
    ]
  ]
  refusal (Store fault) bad none other failed idle =
      let known : fault ≢ Other = λ is. elim (other (ap Store is)) [
        | inl inside ↦ absurd (let no = sym inside ∙ idle in cc)
        | inr several ↦ elim (left (shown_open found new several.0 several.1)) [
          | inl bare ↦ absurd (bare_shows found new several.0 bare several.1)
          | inr held ↦ absurd (let one = row_shown found new 0 held.schema held.stands.numbers several.0 several.1 in let many = several.2 in omega arith)
        ]
      ] in
      let it = failed fault refl known in
      subst (IsOfStore found new) it.2 (by_store found new it.0 it.1 (λ is. known (sym it.2 ∙ is)))

-- three facts of an outcome together
pub of_three : {T E : Type 0} (r : Result T E) {A B C P : T → Type 0} {D F Q : E → Type 0} → IfOk r A → MatchResult r B D → MatchResult r C F
    → ((x : T) → A x → B x → C x → P x) → ((y : E) → D y → F y → Q y) → MatchResult r P Q
of_three (Ok x) a b c p q = p x a b c
of_three (Err y) a b c p q = q y b c
