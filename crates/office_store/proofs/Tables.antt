-- What the statements of CREATE TABLE make.
use Rattle.std.proofs.Common.{◌≡◌, ◌⊎◌, inl, inr, ℕ, List, [], true, false, None, Ok, Err, Result, refl, sym, ap, subst, ◌∙◌, IfOk, OnOk}
use Rattle.sqlite_schema.specs.declared.schema.Schema.{Schema}
use Rattle.sqlite_schema.specs.declared.schema.Table.{Table}
use Rattle.sqlite_schema.specs.declared.command.Command.TheVariants.{CreateTable}
use Rattle.sqlite_catalog.specs.Change.{created, next_tree, KeepsRows}
use Rattle.sqlite.specs.Compile.{table_defined_by}
use Rattle.poll_book.specs.declared.fault.StoreFault.{StoreFault}
use Rattle.sqlite.specs.Effect.{Database}
use Rattle.sqlite.specs.Does.{Tally, lacks_sequence}
use Rattle.sqlite.specs.State.{State, Writes, Executes, Shows}
use Rattle.sqlite.proofs.Callers.{runs_as}
use Rattle.office_store.specs.Schema.{meta_text, point_text, reading_text, setting_text, request_text, total_text, void_text, swapped_text, meta, point, reading, setting, request, total, void, swapped, no_schema}
use Rattle.office_store.specs.Blank.{first_schema, six_schema, AreFirst, AreSix}
use Rattle.office_store.specs.Earlier.{AreAdded}
use Rattle.office_store.proofs.Texts.{IsMade, tables_are, one, two, four, five, seven, meta_made, point_made, reading_made, setting_made, request_made, total_made, void_made, swapped_made}

-- a part that gave a value wasn't stopped
pub went : {B E R : Type 0} {b : B} {Stops : E → Type 0} → ((stop : E) × Stops stop × (Ok b ≡ Err stop)) ⊎ R → R
went (inl stopped) = absurd (let e = stopped.2 in cc)
went (inr on) = on

pub same_value : {B E : Type 0} {a b : B} → ◌≡◌ {A = Result B E} (Ok a) (Ok b) → a ≡ b
same_value e = cc

record Made (schema : Schema) (table : Table) (old new : State) : Type 0 where
  pub schema_is : new.now.schema ≡ created schema table
  pub empty : new.now.trees (next_tree schema) ≡ []
  pub others : KeepsRows schema.tables old.now.trees new.now.trees

module _ (schema : Schema) (table : Table) (text : List ℕ) (defined : table_defined_by text ≡ Ok table) (is : IsMade schema text) (uncounted : lacks_sequence (created schema table) ≡ false) where
  makes : (old new : State) (count : ℕ) → old.now.schema ≡ schema → Executes text [] old new (Ok count) → Made schema table old new
  makes old new count has h =
      let w = subst (λ t. Writes old new None CreateTable t [] count) is.1 (runs_as text [] old new schema has CreateTable is.0 is.2 count h) in
      let all = went w.changed in
      let first = went all.1 in
      let made = first.1 in
      let both : Ok made.table ≡ Ok table = sym made.defined ∙ defined in
      let same : made.table ≡ table = cc in
      let now_has : first.0.schema ≡ created schema table = made.is ∙ ap (λ s. created s made.table) has ∙ ap (created schema) same in
      let none : lacks_sequence first.0.schema ≡ false = ap lacks_sequence now_has ∙ uncounted in
      let now : new.now ≡ first.0 = ap (λ (p : Tally × Database). p.1) (same_value all.2) ∙ same_value (rw none at first.2) in
      record {
        schema_is = ap (λ (d : Database). d.schema) now ∙ now_has;
        empty = ap (λ (d : Database). d.trees (next_tree schema)) now ∙ subst (λ s. first.0.trees (next_tree s) ≡ []) has made.empty;
        others = subst (λ (d : Database). KeepsRows schema.tables old.now.trees d.trees) (sym now) (subst (λ s. KeepsRows s.tables old.now.trees first.0.trees) has made.others);
      }

pub makes_first : (a b c d : State) (k l : ℕ) (r : Result ℕ StoreFault) → a.now.schema ≡ no_schema → Executes meta_text [] a b (Ok k) → Executes point_text [] b c (Ok l)
    → IfOk r (λ n. Executes reading_text [] c d (Ok n) × Shows c d d.now c.committed true) → OnOk r (AreFirst d.now)
makes_first a b c d k l (Ok n) none h1 h2 h3 =
    let m1 = makes no_schema meta meta_text tables_are.0 meta_made refl a b k none h1 in
    let m2 = makes one point point_text tables_are.1 point_made refl b c l m1.schema_is h2 in
    let m3 = makes two reading reading_text tables_are.2 reading_made refl c d n m2.schema_is h3.0 in
    record { schema = m3.schema_is; meta = m3.others.0 ∙ m2.others.0 ∙ m1.empty; point = m3.others.1.0 ∙ m2.empty; reading = m3.empty }
makes_first a b c d k l (Err e) none h1 h2 h3 = tt

pub makes_others : (a b c d : State) (k l : ℕ) (r : Result ℕ StoreFault) → AreFirst a.now → Executes setting_text [] a b (Ok k) → Executes request_text [] b c (Ok l)
    → IfOk r (λ n. Executes total_text [] c d (Ok n) × Shows c d d.now c.committed true) → OnOk r (AreSix d.now)
makes_others a b c d k l (Ok n) first h1 h2 h3 =
    let m1 = makes first_schema setting setting_text tables_are.3 setting_made refl a b k first.schema h1 in
    let m2 = makes four request request_text tables_are.4 request_made refl b c l m1.schema_is h2 in
    let m3 = makes five total total_text tables_are.5 total_made refl c d n m2.schema_is h3.0 in
    record {
      schema = m3.schema_is;
      meta = m3.others.0 ∙ m2.others.0 ∙ m1.others.0 ∙ first.meta;
      point = m3.others.1.0 ∙ m2.others.1.0 ∙ m1.others.1.0 ∙ first.point;
      reading = m3.others.1.1.0 ∙ m2.others.1.1.0 ∙ m1.others.1.1.0 ∙ first.reading;
      setting = m3.others.1.1.1.0 ∙ m2.others.1.1.1.0 ∙ m1.empty;
      request = m3.others.1.1.1.1.0 ∙ m2.empty;
      total = m3.empty;
    }
makes_others a b c d k l (Err e) first h1 h2 h3 = tt

pub makes_last : (a b c : State) (k : ℕ) (r : Result ℕ StoreFault) → a.now.schema ≡ six_schema → Executes void_text [] a b (Ok k) → IfOk r (λ n. Executes swapped_text [] b c (Ok n) × Shows b c c.now b.committed true) → OnOk r (AreAdded a.now c.now)
makes_last a b c k (Ok n) six h1 h2 =
    let m1 = makes six_schema void void_text tables_are.6 void_made refl a b k six h1 in
    let m2 = makes seven swapped swapped_text tables_are.7 swapped_made refl b c n m1.schema_is h2.0 in
    record {
      schema = m2.schema_is;
      meta = m2.others.0 ∙ m1.others.0;
      point = m2.others.1.0 ∙ m1.others.1.0;
      reading = m2.others.1.1.0 ∙ m1.others.1.1.0;
      setting = m2.others.1.1.1.0 ∙ m1.others.1.1.1.0;
      request = m2.others.1.1.1.1.0 ∙ m1.others.1.1.1.1.0;
      total = m2.others.1.1.1.1.1.0 ∙ m1.others.1.1.1.1.1.0;
      void = m2.others.1.1.1.1.1.1.0 ∙ m1.empty;
      swapped = m2.empty;
    }
makes_last a b c k (Err e) six h1 h2 = tt
