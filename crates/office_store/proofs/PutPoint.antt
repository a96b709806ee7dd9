-- What the insert of a point's row after all others adds.
use Rattle.std.proofs.Common.{◌≡◌, ℕ, ℤ, pos, negsuc, ◌<◌, ◌^◌, List, [], ◌∷◌, ◌++◌, true, None, Some, Ok, Err, Result, refl, sym, ap, subst, ◌∙◌, arith, IfOk, OnOk, map, option_map, option_and_then, T, SFits, w8}
use Rattle.std.specs.Int.{w64, to_be_bytes}
use Rattle.std.specs.List.{AllByRecursion}
use Rattle.std.specs.FinMap.Entries as rows
use Rattle.std.specs.Cmp.{nat_cmp_total}
use Rattle.std.specs.Ordering.{nat_cmp}
use Rattle.std.proofs.lemmas.Bool.{lt-ltb}
use Rattle.std.proofs.lemmas.List.{map-append}
use Rattle.std.proofs.lemmas.Nat.{from_be_bytes-to_be_bytes_8}
use Rattle.sqlite_value.specs.declared.value.Value.TheVariants.{Null, Int, Text, Blob}
use Rattle.sqlite_value.specs.Order.{Row}
use Rattle.sqlite_trees.specs.Tree.{Trees, put_row}
use Rattle.sqlite_sql.specs.Term.{eval_all}
use Rattle.sqlite_schema.specs.declared.schema.Table.{Table as SqlTable}
use Rattle.sqlite_schema.specs.declared.schema.Keys.TheVariants.{Enforced}
use Rattle.sqlite_schema.specs.declared.command.Source.TheVariants.{Values}
use Rattle.sqlite_schema.specs.declared.command.Command.TheVariants.{Insert}
use Rattle.sqlite_rules.specs.declared.error.Rowids.TheVariants.{Chosen}
use Rattle.sqlite_rules.specs.Edit.{edit_of, put_all}
use Rattle.sqlite_rules.specs.Action.{Writes}
use Rattle.poll_book.specs.declared.fault.StoreFault.{StoreFault}
use Rattle.sqlite.specs.Listing.{understood}
use Rattle.sqlite.specs.Effect.{Database}
use Rattle.sqlite.specs.Rows.{Written}
use Rattle.sqlite.specs.Does.{Tally, Does}
use Rattle.sqlite.specs.State.{State, mode_of, Executes, Shows}
use Rattle.sqlite.proofs.Callers.{runs_as, one_step, statement_of}
use Rattle.mb_pdu.specs.declared.table.Table.{Table}
use Rattle.mb_pdu.specs.declared.table.Table.TheVariants.{Coil, Discrete, Input, Holding}
use Rattle.sunspec.specs.PointType.{row}
use Rattle.sunspec.specs.declared.point_type.PointType.{PointType}
use Rattle.sunspec.specs.declared.point_type.PointType.TheVariants.{Int16, Uint16, Acc16, Enum16, Bitfield16, Sunssf, Int32, Uint32, Acc32, Enum32, Bitfield32, Int64, Uint64, Acc64, Ipaddr, Str, Bit}
use Rattle.sunspec.specs.declared.word_order.WordOrder.TheVariants.{Big}
use Rattle.point_list.specs.Name.{is_name}
use Rattle.point_list.specs.Label.{is_label}
use Rattle.point_list.specs.declared.point.Point.{Point}
use Rattle.point_list.specs.declared.point.Role.{Role}
use Rattle.point_list.specs.declared.point.Role.TheVariants.{Gauge, Counter, Setting}
use Rattle.poll_book.specs.declared.rows.PointRow.{PointRow}
use Rattle.poll_book.specs.Tables.{Tables}
use Rattle.office_store.specs.PointNumbers.{table_number, role_number}
use Rattle.office_store.specs.Schema.{point as point_schema, office_schema}
use Rattle.office_store.specs.Rows.{stored_point, stored_setting, stored_request, stored_sum, stored_swap, number_below, table_coded, role_coded, kind_of, small_of, long_of}
use Rattle.office_store.specs.Swaps.{plain}
use Rattle.office_store.specs.Writing.{Within}
use Rattle.office_store.proofs.Texts.{put_point_text, put_point_terms, put_point_is}
use Rattle.office_store.proofs.Tables.{went, same_value}
use Rattle.office_store.proofs.StayingRows.{readings_stay, voids_stay}
use Rattle.office_store.proofs.FirstRows.{cast_null, cast_int}
use Rattle.office_store.proofs.ByNumber.{numbered, stored_entry, entry_key, as_entries, as_points}
use Rattle.office_store.proofs.Appending.{stands_last, put_last}
use Rattle.office_store.proofs.PlainPoints.{plain_low}
use Rattle.office_store.proofs.Swapping.{no_swap_more}

abbrev pub point_table : SqlTable
point_table = record point_schema { tree = 2 }

-- ---- what is written reads back

table_back : (t : Table) → option_and_then table_coded (number_below 256 (Int (pos (table_number t)))) ≡ Some t
table_back Coil = refl
table_back Discrete = refl
table_back Input = refl
table_back Holding = refl

role_back : (r : Role) → option_and_then role_coded (number_below 256 (Int (pos (role_number r)))) ≡ Some r
role_back Gauge = refl
role_back Counter = refl
role_back Setting = refl

kind_back : (k : PointType) → (row k).registers < 256 → kind_of (Int (pos (row k).code)) (Int (pos (row k).registers)) ≡ Some k
unfolding row
kind_back Int16 few = refl
kind_back Uint16 few = refl
kind_back Acc16 few = refl
kind_back Enum16 few = refl
kind_back Bitfield16 few = refl
kind_back Sunssf few = refl
kind_back Int32 few = refl
kind_back Uint32 few = refl
kind_back Acc32 few = refl
kind_back Enum32 few = refl
kind_back Bitfield32 few = refl
kind_back Int64 few = refl
kind_back Uint64 few = refl
kind_back Acc64 few = refl
kind_back Ipaddr few = refl
kind_back (Str n) few = rw (lt-ltb n 256 few) refl
kind_back Bit few = refl

small_back : (z : ℤ) → SFits w8 z → small_of (Int z) ≡ Some z
small_back (pos n) fits = rw (lt-ltb n 128 fits.sfits) refl
small_back (negsuc n) fits = rw (lt-ltb n 128 fits.sfits) refl

long_back : (n : ℕ) → n < 2 ^ 64 → long_of (Blob (to_be_bytes w64 n)) ≡ Some n
long_back n fits = ap (λ (m : ℕ). Some m) (from_be_bytes-to_be_bytes_8 n fits)

-- what the types of a point and of its parts keep true of it
pub record IsPoint (point : Point) : Type 0 where
  pub name : is_name point.name ≡ true
  pub device : is_label point.device ≡ true
  pub address : point.address < 65536
  pub registers : (row point.kind).registers < 256
  pub scale : SFits w8 point.scale
  pub roll : point.roll < 2 ^ 64

low_entries : (n : ℕ) (points : List PointRow) → AllByRecursion (λ p. p.number < n) points → AllByRecursion (λ e. e.0 < n) (map numbered points)
low_entries n [] low = tt
low_entries n (p ∷ points) low = (low.0, low_entries n points low.1)

module _ (n : ℕ) (point : Point) where
  -- the columns after the number
  abbrev columns : Row
  columns =
      Text point.name ∷ Text point.device ∷ Int (pos (table_number point.table)) ∷ Int (pos point.address) ∷ Int (pos (row point.kind).code) ∷ Int (pos (row point.kind).registers)
      ∷ Int point.scale ∷ Int (pos (role_number point.role)) ∷ Blob (to_be_bytes w64 point.roll) ∷ []

  abbrev pub values : Row
  values = Int (pos n) ∷ columns

  abbrev added : Row
  added = Int (pos n) ∷ Null ∷ columns

  -- its row doesn't tell the order
  abbrev known : PointRow
  known = plain (record { number = n; point = point })

  pub point_added : n < 2 ^ 32 → IsPoint point → stored_point added ≡ Some known
  point_added low is =
      rw (lt-ltb n 4294967296 low, is.name, is.device, table_back point.table, lt-ltb point.address 65536 is.address, kind_back point.kind is.registers, small_back point.scale is.scale, role_back point.role)
      (ap (λ o. option_map (λ p. record { number = n; point = p }) (option_map (λ m. record point { roll = m; order = Big }) o)) (long_back point.roll is.roll))

  -- ---- what is appended

  in_order : (points : List PointRow) → AllByRecursion (λ p. p.number < n) points → rows.put nat_cmp n known.point (map numbered points) ≡ map numbered (points ++ known ∷ [])
  in_order points low = put_last n known.point (map numbered points) (low_entries n points low) ∙ sym (map-append numbered points (known ∷ []))

  stands : (all : List Row) (points : List PointRow) → stored_point added ≡ Some known → map stored_point all ≡ map Some points → AllByRecursion (λ p. p.number < n) points
      → map stored_point (put_row added all) ≡ map Some (points ++ known ∷ [])
  stands all points is stored low =
      let last = stands_last stored_entry entry_key added n known.point refl (ap (option_map numbered) is) all (map numbered points) (as_entries stored_point all points stored) (low_entries n points low) in
      as_points stored_point (put_row added all) (points ++ known ∷ []) (last ∙ ap (map Some) (in_order points low))

  pub adds : (old new : State) (base : Database) (kept : Tables) (r : Result ℕ StoreFault) → n < 2 ^ 32 → IsPoint point → Within old base kept → AllByRecursion (λ p. p.number < n) kept.points
      → IfOk r (λ k. Executes put_point_text values old new (Ok k) × Shows old new new.now old.committed true) → OnOk r (Within new base (record kept { points = kept.points ++ known ∷ [] }))
  adds old new base kept (Err e) low is within below h = tt
  adds old new base kept (Ok count) low is within below h =
      let db = old.now.trees in
      let command = Insert 1 (Values put_point_terms 11) in
      let w = runs_as put_point_text values old new office_schema within.schema command put_point_is.0 put_point_is.1 count h.0 in
      let text = statement_of put_point_text (understood office_schema put_point_text) in
      let done = went (subst (λ x. Does old.step_limit (mode_of old) values (record old.now { schema = x }) text None command (Ok (w.tally, new.now))) within.schema w.changed) in
      let now = ap (λ (x : Tally × Database). x.1) (same_value (went (went done.2).2).2) in
      let given = went done.1 in
      let written = went (went given.2).2 in
      let counted = went written.2 in
      let trees : done.0.trees ≡ written.0 = ap (λ (it : Written). it.trees) (same_value counted.2) ∙ same_value counted.1 in
      let edit = λ (all : List Row). edit_of db point_table [] Chosen 0 all in
      let source : List Row = eval_all put_point_terms (values ∷ []) ∷ [] in
      let made = one_step office_schema Enforced db written.0 (edit source) refl (subst (λ all. Writes office_schema Enforced db (edit all) (Ok written.0)) given.1.1 written.1) in
      let news : (edit source).news ≡ added ∷ [] =
      rw (cast_null, cast_int (pos n), cast_int (pos (table_number point.table)), cast_int (pos point.address), cast_int (pos (row point.kind).code), cast_int (pos (row point.kind).registers), cast_int point.scale, cast_int (pos (role_number point.role))) refl in
      let at = λ (t : ℕ). ap (λ (d : Database). d.trees t) now ∙ ap (λ (x : Trees). x t) trees in
      let at_two : new.now.trees 2 ≡ put_row added (db 2) = at 2 ∙ made.rows ∙ ap (put_all (db 2)) news in
      let others = made.tables in
      let meta = at 0 ∙ others.0 (λ e. absurd (omega (arith, e))) in
      let readings = at 4 ∙ others.1.1.0 (λ e. absurd (omega (arith, e))) in
      let settings = at 6 ∙ others.1.1.1.0 (λ e. absurd (omega (arith, e))) in
      let requests = at 7 ∙ others.1.1.1.1.0 (λ e. absurd (omega (arith, e))) in
      let totals = at 9 ∙ others.1.1.1.1.1.0 (λ e. absurd (omega (arith, e))) in
      let voids = at 10 ∙ others.1.1.1.1.1.1.0 (λ e. absurd (omega (arith, e))) in
      let swapped = at 12 ∙ others.1.1.1.1.1.1.1.0 (λ e. absurd (omega (arith, e))) in
      let was = within.stands in
      record {
        is_open = h.1.is_open;
        inside = h.1.mode;
        schema = ap (λ (d : Database). d.schema) now;
        committed = h.1.committed_is ∙ within.committed;
        sound = w.sound;
        stands = record {
          points = record {
            stored = ap (map stored_point) at_two ∙ stands (db 2) (map plain kept.points) (point_added low is) was.points.stored (plain_low n kept.points below) ∙ ap (map Some) (sym (map-append plain kept.points (known ∷ [])));
            sorted = subst (λ es. T (rows.is_sorted nat_cmp es)) (in_order kept.points below) (rows.is_sorted-put nat_cmp nat_cmp_total n known.point (map numbered kept.points) was.points.sorted);
          };
          readings = readings_stay old.now.trees new.now.trees kept.readings readings was.readings;
          settings = record { stored = ap (map stored_setting) settings ∙ was.settings.stored; sorted = was.settings.sorted };
          requests = record { entries = was.requests.entries; stored = ap (map stored_request) requests ∙ was.requests.stored; same = was.requests.same; sorted = was.requests.sorted };
          totals = record { stored = ap (map stored_sum) totals ∙ was.totals.stored; sorted = was.totals.sorted };
          voids = voids_stay old.now.trees new.now.trees kept.voids voids was.voids;
          swapped = record { stored = ap (map stored_swap) swapped ∙ was.swapped.stored ∙ ap (map Some) (sym (no_swap_more kept.points known refl)) };
          numbers = meta ∙ was.numbers;
        };
      }
