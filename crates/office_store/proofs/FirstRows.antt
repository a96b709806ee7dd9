-- The first rows of the table of numbers.
use Rattle.std.proofs.Common.{◌≡◌, ℕ, ℤ, pos, List, [], ◌∷◌, map, codes, Bool, true, false, cond, None, Ok, Err, Result, refl, sym, ap, subst, ◌∙◌, IfOk, OnOk, arith}
use Rattle.std.proofs.lemmas.List.Sorted.{IsPermutation-refl}
use Rattle.sqlite_value.specs.declared.value.Value.{Value}
use Rattle.sqlite_value.specs.declared.value.Value.TheVariants.{Null, Int, Text}
use Rattle.sqlite_value.specs.Order.{Row}
use Rattle.sqlite_value.proofs.OrderLemmas.{value_cmp-Int}
use Rattle.sqlite_trees.specs.Tree.{Trees}
use Rattle.sqlite_trees.specs.Objects.{catalog_tree}
use Rattle.sqlite_trees.specs.View.{IsShaped}
use Rattle.sqlite_trees.specs.declared.store.Shape.TheVariants.{Table}
use Rattle.sqlite_sql.specs.Ops.{unary}
use Rattle.sqlite_schema.specs.declared.schema.Kind.TheVariants.{Integer}
use Rattle.sqlite_schema.specs.declared.schema.Keys.TheVariants.{Enforced}
use Rattle.sqlite_schema.specs.declared.command.Source.TheVariants.{Values}
use Rattle.sqlite_schema.specs.declared.command.Command.TheVariants.{Insert}
use Rattle.sqlite_rules.specs.declared.error.Rowids.TheVariants.{Chosen}
use Rattle.sqlite_rules.specs.Edit.{Edit, edit_of, edited, put_all}
use Rattle.sqlite_rules.specs.Cast.{cast}
use Rattle.sqlite_rules.specs.Action.{Writes}
use Rattle.sqlite_catalog.specs.Listing.{Lists}
use Rattle.poll_book.specs.declared.fault.StoreFault.{StoreFault}
use Rattle.sqlite.specs.Listing.{understood}
use Rattle.sqlite.specs.Effect.{Database}
use Rattle.sqlite.specs.Rows.{Written}
use Rattle.sqlite.specs.Does.{Tally, Does}
use Rattle.sqlite.specs.State.{State, mode_of, Executes, Shows}
use Rattle.sqlite.proofs.Callers.{runs_as, one_step, statement_of}
use Rattle.poll_book.specs.Tables.{no_tables}
use Rattle.office_store.specs.Schema.{meta, office_schema}
use Rattle.office_store.specs.Blank.{AreBlank, IsEmptyOffice}
use Rattle.office_store.specs.Rows.{stored_point, stored_reading, stored_setting, stored_request, stored_sum, stored_swap, stored_void}
use Rattle.office_store.specs.Kept.{StandFor, number_rows}
use Rattle.office_store.proofs.Texts.{numbers_text, numbers_terms, numbers_are}
use Rattle.office_store.proofs.Tables.{went, same_value}

either : (b : Bool) (x : Value) → cond b x x ≡ x
either true x = refl
either false x = refl

pub cast_null : cast Integer Null ≡ Null
unfolding unary
cast_null = either _ Null

pub cast_int : (n : ℤ) → cast Integer (Int n) ≡ Int n
unfolding unary
cast_int n = either _ (Int n)

abbrev first_rows : List Row
first_rows = number_rows 0

abbrev source : List Row
source = (Null ∷ Text (codes "version") ∷ Int (pos 2) ∷ []) ∷ (Null ∷ Text (codes "connections") ∷ Int (pos 0) ∷ []) ∷ []

abbrev edit : Trees → List Row → Edit
edit db rows = edit_of db meta [] Chosen 0 rows

news : (edit (λ t. []) source).news ≡ first_rows
news = rw (cast_null, cast_int (pos 2), cast_int (pos 0)) refl

both_put : put_all [] first_rows ≡ first_rows
both_put = rw (value_cmp-Int (pos 1) (pos 2)) refl

filled : (db : Trees) → db 0 ≡ [] → edited db (edit db source) ≡ first_rows
filled db empty = ap (λ rs. put_all rs (edit (λ t. rs) source).news) empty ∙ ap (put_all []) news ∙ both_put

pub puts_numbers : (old new : State) (r : Result ℕ StoreFault) → AreBlank old.now → IfOk r (λ n. Executes numbers_text [] old new (Ok n) × Shows old new new.now old.committed true)
    → OnOk r ((new.now.schema ≡ office_schema) × StandFor new.now.trees no_tables)
puts_numbers old new (Err e) blank h = tt
puts_numbers old new (Ok count) blank h =
    let db = old.now.trees in
    let command = Insert 0 (Values numbers_terms 3) in
    let w = runs_as numbers_text [] old new office_schema blank.schema command numbers_are.0 numbers_are.1 count h.0 in
    let text = statement_of numbers_text (understood office_schema numbers_text) in
    let done = went (subst (λ x. Does old.step_limit (mode_of old) [] (record old.now { schema = x }) text None command (Ok (w.tally, new.now))) blank.schema w.changed) in
    let now = ap (λ (x : Tally × Database). x.1) (same_value (went (went done.2).2).2) in
    let given = went done.1 in
    let written = went (went given.2).2 in
    let counted = went written.2 in
    let trees : done.0.trees ≡ written.0 = ap (λ (it : Written). it.trees) (same_value counted.2) ∙ same_value counted.1 in
    let made = one_step office_schema Enforced db written.0 (edit db source) refl (subst (λ all. Writes office_schema Enforced db (edit db all) (Ok written.0)) given.1.1 written.1) in
    let at = λ (t : ℕ). ap (λ (d : Database). d.trees t) now ∙ ap (λ (x : Trees). x t) trees in
    let rest = made.tables.1 in
    let points = at 2 ∙ rest.0 (λ e. absurd (omega (arith, e))) ∙ blank.point in
    let readings = at 4 ∙ rest.1.0 (λ e. absurd (omega (arith, e))) ∙ blank.reading in
    let settings = at 6 ∙ rest.1.1.0 (λ e. absurd (omega (arith, e))) ∙ blank.setting in
    let requests = at 7 ∙ rest.1.1.1.0 (λ e. absurd (omega (arith, e))) ∙ blank.request in
    let totals = at 9 ∙ rest.1.1.1.1.0 (λ e. absurd (omega (arith, e))) ∙ blank.total in
    let voids = at 10 ∙ rest.1.1.1.1.1.0 (λ e. absurd (omega (arith, e))) ∙ blank.void in
    let swapped = at 12 ∙ rest.1.1.1.1.1.1.0 (λ e. absurd (omega (arith, e))) ∙ blank.swapped in (
      ap (λ (d : Database). d.schema) now,
      record {
        points = record { stored = ap (map stored_point) points; sorted = tt };
        readings = record { entries = []; stored = ap (map stored_reading) readings; numbered = subst (IsShaped Table) (sym readings) (tt, tt); same = IsPermutation-refl []; sorted = tt };
        settings = record { stored = ap (map stored_setting) settings; sorted = tt };
        requests = record { entries = []; stored = ap (map stored_request) requests; same = IsPermutation-refl []; sorted = tt };
        totals = record { stored = ap (map stored_sum) totals; sorted = tt };
        voids = record { entries = []; stored = ap (map stored_void) voids; same = IsPermutation-refl []; sorted = tt };
        swapped = record { stored = ap (map stored_swap) swapped };
        numbers = at 0 ∙ made.rows ∙ filled db blank.meta;
      },
    )

-- the insertion ends the making: the tables are those of an office that knows nothing
pub makes_office : (old new : State) (r : Result ℕ StoreFault) → AreBlank old.now → IfOk r (λ n. Executes numbers_text [] old new (Ok n) × Shows old new new.now old.committed true)
    → OnOk r (IsEmptyOffice new.now.trees)
makes_office old new (Err e) blank h = tt
makes_office old new (Ok count) blank h =
    let w = runs_as numbers_text [] old new office_schema blank.schema (Insert 0 (Values numbers_terms 3)) numbers_are.0 numbers_are.1 count h.0 in
    let made : (new.now.schema ≡ office_schema) × StandFor new.now.trees no_tables = puts_numbers old new (Ok count) blank h in
    record { listed = subst (Lists (new.now.trees catalog_tree)) made.0 w.sound.lists; stands = made.1 }
