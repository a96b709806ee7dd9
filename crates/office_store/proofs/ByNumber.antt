-- What the queries of the tables by number show.
use Rattle.std.proofs.Common.{◌≡◌, ℕ, pos, negsuc, List, [], ◌∷◌, map, Bool, true, false, cond, ◌&&◌, ◌==◌, None, Some, Ok, Err, Option, Result, Vec, Global, IfOk, refl, sym, ap, ap₂, subst, ◌∙◌, codes, ◌^◌, option_map, map-id}
use Rattle.std.specs.List.{filter, list_all}
use Rattle.std.specs.List.Sorted.{IsPermutation}
use Rattle.std.specs.Ordering.{is_lt, nat_cmp, eq_by_cmp}
use Rattle.std.specs.Cmp.{nat_cmp_total}
use Rattle.std.proofs.lemmas.Map.Lookups.{exact_unsigned}
use Rattle.std.proofs.lemmas.List.Sorted.{IsPermutation-refl}
use Rattle.sqlite_tied.specs.Compute.{everything}
use Rattle.sqlite_value.specs.declared.value.Value.{Value}
use Rattle.sqlite_value.specs.declared.value.Value.TheVariants.{Null, Int}
use Rattle.sqlite_value.specs.declared.keys.Collation.TheVariants.{Binary}
use Rattle.sqlite_value.specs.Order.{Row, column}
use Rattle.sqlite_sql.specs.declared.ops.BinaryOp.TheVariants.{Compare}
use Rattle.sqlite_sql.specs.declared.ops.CompareOp.TheVariants.{Eq}
use Rattle.sqlite_sql.specs.Term.{lit, col, op2, holds}
use Rattle.sqlite_sql.specs.Ops.{binary, is_true}
use Rattle.sqlite_sql.specs.Query.{Query, inner, end, output, key_cmp as sort_cmp}
use Rattle.sqlite_schema.specs.declared.command.Command.TheVariants.{Select}
use Rattle.sqlite.specs.Listing.{understood, reads_listing}
use Rattle.sqlite.specs.State.{State, Shown}
use Rattle.sqlite.proofs.Callers.{IsPlain, command_of, reads_as}
use Rattle.mb_pdu.specs.declared.table.Table.TheVariants.{Coil}
use Rattle.sunspec.specs.declared.point_type.PointType.TheVariants.{Bit}
use Rattle.sunspec.specs.declared.word_order.WordOrder.TheVariants.{Big}
use Rattle.point_list.specs.Name.{is_name}
use Rattle.point_list.specs.Label.{is_label}
use Rattle.point_list.specs.declared.point.Role.TheVariants.{Gauge}
use Rattle.point_list.specs.declared.point.Point.{Point}
use Rattle.poll_book.specs.declared.rows.PointRow.{PointRow}
use Rattle.poll_book.specs.declared.rows.Setting.{Setting}
use Rattle.poll_book.specs.declared.rows.OrderState.TheVariants.{Waiting}
use Rattle.poll_book.specs.Tables.{Tables}
use Rattle.poll_book.specs.Orders.{setting_at, point_at}
use Rattle.office_store.specs.Schema.{office_schema, setting_tree, point_tree}
use Rattle.office_store.specs.Texts.{setting_text, points_text, point_text}
use Rattle.office_store.specs.Rows.{stored_setting, shown_setting, stored_point, shown_point, number_of, words_of, state_of, text_that, described}
use Rattle.office_store.specs.Swaps.{plain}
use Rattle.office_store.specs.Kept.{IsHeld}
use Rattle.office_store.proofs.PlainPoints.{plain_found, plain_sorted}
use Rattle.office_store.proofs.Comparing.{compares, equals, rising, sorts, number_is, and_then_some, map_some}
use Rattle.office_store.proofs.Showing.{picked, answers, same_list, same_some}
use Rattle.office_store.proofs.Sorted.{flips, finds_none, finds_first}

-- ---- settings

abbrev setting_query : Query
setting_query = record {
  from = inner 6 end;
  filter = op2 (Compare Eq Binary) (col 1 0) (col 0 0) ∷ [];
  group = None;
  project = col 1 0 ∷ col 1 2 ∷ col 1 3 ∷ col 1 4 ∷ col 1 5 ∷ [];
  distinct = false;
  collations = [];
  order = (col 1 0, rising) ∷ [];
  limit = lit (Int (negsuc 0));
  offset = lit (Int (pos 0));
}

abbrev pub setting_names : List (List ℕ)
setting_names = codes "number" ∷ codes "point" ∷ codes "words" ∷ codes "state" ∷ codes "code" ∷ []

setting_is : (command_of (understood office_schema setting_text) ≡ Select (record { lets = []; body = setting_query }) setting_names) × (reads_listing office_schema setting_text ≡ false) × IsPlain (understood office_schema setting_text)
unfolding understood everything
setting_is = (refl, refl, (refl, refl))

-- the key of a setting stands in its first column
pub setting_key : (r : Row) (e : ℕ × Setting) → stored_setting r ≡ Some e → column r 0 ≡ Int (pos e.0)
setting_key r e h =
    let n = and_then_some _ (number_of (column r 0)) _ h in
    let p = and_then_some _ (number_of (column r 2)) _ n.2 in
    let w = and_then_some _ (words_of (column r 3)) _ p.2 in
    let s = map_some _ (state_of (column r 4) (column r 5)) _ w.2 in
    number_is (2 ^ 32) (column r 0) e.0 (n.1 ∙ ap (λ (x : ℕ × Setting). Some x.0) s.2)

abbrev pub sort : {X : Type 0} → ℕ × X → Row
sort e = Int (pos e.0) ∷ []

pub alone_and : (b : Bool) → (b && true) ≡ b
alone_and true = refl
alone_and false = refl

pub natural_sorts : {X : Type 0} (keep : ℕ × X → Bool) (a b : ℕ × X) → keep a ≡ true → keep b ≡ true → is_lt (sort_cmp 0 (rising ∷ []) (Int (pos a.0) ∷ []) (Int (pos b.0) ∷ [])) ≡ is_lt (nat_cmp a.0 b.0)
natural_sorts keep a b ka kb = sorts a.0 b.0

module _ (number : ℕ) where
  abbrev pub given : Row
  given = Int (pos number) ∷ []

  abbrev keep : ℕ × Setting → Bool
  keep e = eq_by_cmp nat_cmp number e.0

  agree : (r : Row) (e : ℕ × Setting) → stored_setting r ≡ Some e
      → (list_all (holds (given ∷ r ∷ [])) setting_query.filter ≡ keep e) × (shown_setting (output setting_query (given ∷ r ∷ [])).1 ≡ Some e) × ((output setting_query (given ∷ r ∷ [])).0 ≡ sort e)
  agree r e h =
      let it = setting_key r e h in
      let tests = λ (a : Value). is_true (binary (Compare Eq Binary) a (Int (pos number))) && true in
      (ap tests it ∙ alone_and _ ∙ compares Eq e.0 number ∙ flips nat_cmp nat_cmp_total e.0 number, h, ap (λ v. v ∷ []) it)

  shows_setting : (old new : State) (kept : Tables) (held : IsHeld old kept) (rows : List Row) → Shown setting_text given old new rows → map shown_setting rows ≡ map Some (filter keep kept.settings)
  shows_setting old new kept held rows shown =
      let read = held.stands.settings in
      let a = (reads_as setting_text given old new office_schema held.schema (Select (record { lets = []; body = setting_query }) setting_names) setting_is.0 setting_is.2 setting_is.1 rows shown).answer Null in
      let blank : ℕ × Setting = (0, record { point = 0; words = []; state = Waiting }) in
      let staged = picked stored_setting shown_setting keep sort blank (λ r. list_all (holds (given ∷ r ∷ [])) setting_query.filter) (λ r. given ∷ r ∷ []) (output setting_query) agree (old.now.trees setting_tree) kept.settings read.stored in
      let is : a.kept ≡ _ = a.distinct ∙ ap (map (output setting_query)) a.grouped in
      let done = answers stored_setting shown_setting keep sort blank nat_cmp nat_cmp_total exact_unsigned setting_query (natural_sorts keep) kept.settings kept.settings _ a.ordered read.sorted (IsPermutation-refl kept.settings) staged (subst (λ k. IsPermutation k a.ordered) is a.same) a.sorted in
      ap (map shown_setting) a.shown ∙ done

  pub no_setting : (old new : State) (kept : Tables) (held : IsHeld old kept) → Shown setting_text given old new [] → None ≡ setting_at kept.settings number
  no_setting old new kept held shown = sym (finds_none nat_cmp number keep (λ e. refl) kept.settings (empty (filter keep kept.settings) (shows_setting old new kept held [] shown)))
    where
      empty : (xs : List (ℕ × Setting)) → ◌≡◌ {A = List (Option (ℕ × Setting))} [] (map Some xs) → xs ≡ []
      empty [] h = refl
      empty (x ∷ xs) h = absurd (cc)

  pub one_setting : (old new : State) (kept : Tables) (held : IsHeld old kept) (row : Row) (more : List Row) → Shown setting_text given old new (row ∷ more)
      → (found : ℕ × Setting) → shown_setting row ≡ Some found → Some found.1 ≡ setting_at kept.settings number
  one_setting old new kept held row more shown found is =
      let it = first (filter keep kept.settings) (shows_setting old new kept held (row ∷ more) shown) in
      let same : ◌≡◌ {A = Option (ℕ × Setting)} (Some found) (Some it.0) = sym is ∙ it.2 in
      ap (option_map (λ (e : ℕ × Setting). e.1)) same ∙ sym (finds_first nat_cmp number keep (λ e. refl) kept.settings it.1.0 it.0 it.1.1)
    where
      first : (xs : List (ℕ × Setting)) → map shown_setting (row ∷ more) ≡ map Some xs → (e : ℕ × Setting) × ((rest : List (ℕ × Setting)) × (xs ≡ e ∷ rest)) × (shown_setting row ≡ Some e)
      first [] h = absurd (cc)
      first (x ∷ xs) h = let head : shown_setting row ≡ Some x = cc in (x, (xs, refl), head)

-- ---- points

abbrev points_query : Query
points_query = record {
  from = inner 2 end;
  filter = [];
  group = None;
  project = col 1 0 ∷ col 1 2 ∷ col 1 3 ∷ col 1 4 ∷ col 1 5 ∷ col 1 6 ∷ col 1 7 ∷ col 1 8 ∷ col 1 9 ∷ col 1 10 ∷ [];
  distinct = false;
  collations = [];
  order = (col 1 0, rising) ∷ [];
  limit = lit (Int (negsuc 0));
  offset = lit (Int (pos 0));
}

abbrev points_names : List (List ℕ)
points_names = codes "number" ∷ codes "name" ∷ codes "device" ∷ codes "tab" ∷ codes "addr" ∷ codes "kind" ∷ codes "len" ∷ codes "scale" ∷ codes "role" ∷ codes "roll" ∷ []

points_are : (command_of (understood office_schema points_text) ≡ Select (record { lets = []; body = points_query }) points_names) × (reads_listing office_schema points_text ≡ false) × IsPlain (understood office_schema points_text)
unfolding understood everything
points_are = (refl, refl, (refl, refl))

-- points as entries, by their numbers
abbrev pub numbered : PointRow → ℕ × Point
numbered p = (p.number, p.point)

abbrev pub stored_entry : Row → Option (ℕ × Point)
stored_entry r = option_map numbered (stored_point r)

abbrev shown_entry : Row → Option (ℕ × Point)
shown_entry r = option_map numbered (shown_point r)

module _ (read : Row → Option PointRow) where
  pub as_entries : (all : List Row) (points : List PointRow) → map read all ≡ map Some points → map (λ r. option_map numbered (read r)) all ≡ map Some (map numbered points)
  as_entries [] [] h = refl
  as_entries [] (p ∷ points) h = absurd (cc)
  as_entries (r ∷ all) [] h = absurd (cc)
  as_entries (r ∷ all) (p ∷ points) h =
      let head : read r ≡ Some p = cc in
      let tail : map read all ≡ map Some points = cc in
      ap₂ (λ (x : Option (ℕ × Point)) (xs : List (Option (ℕ × Point))). x ∷ xs) (ap (option_map numbered) head) (as_entries all points tail)

  same_point : (o : Option PointRow) (p : PointRow) → option_map numbered o ≡ Some (numbered p) → o ≡ Some p
  same_point None p h = absurd (cc)
  same_point (Some q) p h =
      let same : numbered q ≡ numbered p = same_some (numbered q) (numbered p) h in
      ap₂ (λ (n : ℕ) (x : Point). Some (record { number = n; point = x })) (ap (λ (e : ℕ × Point). e.0) same) (ap (λ (e : ℕ × Point). e.1) same)

  pub as_points : (all : List Row) (points : List PointRow) → map (λ r. option_map numbered (read r)) all ≡ map Some (map numbered points) → map read all ≡ map Some points
  as_points [] [] h = refl
  as_points [] (p ∷ points) h = absurd (cc)
  as_points (r ∷ all) [] h = absurd (cc)
  as_points (r ∷ all) (p ∷ points) h =
      let head : option_map numbered (read r) ≡ Some (numbered p) = cc in
      let tail : map (λ r. option_map numbered (read r)) all ≡ map Some (map numbered points) = cc in
      ap₂ (λ (x : Option PointRow) (xs : List (Option PointRow)). x ∷ xs) (same_point (read r) p head) (as_points all points tail)

pub all_kept : {X : Type 0} (xs : List X) → filter (λ x. true) xs ≡ xs
all_kept [] = refl
all_kept (x ∷ xs) = ap (λ ys. x ∷ ys) (all_kept xs)

-- the number of a point stands in its first column
pub point_key : (r : Row) (p : PointRow) → stored_point r ≡ Some p → column r 0 ≡ Int (pos p.number)
point_key r p h =
    let n = and_then_some _ (number_of (column r 0)) _ h in
    let name = and_then_some _ (text_that is_name (column r 2)) _ n.2 in
    let device = and_then_some _ (text_that is_label (column r 3)) _ name.2 in
    let rest = map_some _ (described name.0 device.0 (column r 4) (column r 5) (column r 6) (column r 7) (column r 8) (column r 9) (column r 10)) _ device.2 in
    number_is (2 ^ 32) (column r 0) p.number (n.1 ∙ ap (λ (x : PointRow). Some x.number) rest.2)

pub entry_key : (r : Row) (e : ℕ × Point) → stored_entry r ≡ Some e → column r 0 ≡ Int (pos e.0)
entry_key r e h = let it = map_some numbered (stored_point r) e h in point_key r it.0 it.1 ∙ ap (λ (x : ℕ × Point). Int (pos x.0)) it.2

points_agree : (r : Row) (e : ℕ × Point) → stored_entry r ≡ Some e → (true ≡ true) × (shown_entry (output points_query ([] ∷ r ∷ [])).1 ≡ Some e) × ((output points_query ([] ∷ r ∷ [])).0 ≡ sort e)
points_agree r e h = (refl, h, ap (λ v. v ∷ []) (entry_key r e h))

abbrev blank : ℕ × Point
blank = (0, record { name = []; device = []; table = Coil; address = 0; kind = Bit; scale = pos 0; role = Gauge; roll = 0; order = Big })

module _ (old new : State) (kept : Tables) (held : IsHeld old kept) (rows : List Row) (shown : Shown points_text [] old new rows) where
  entries_shown : map shown_entry rows ≡ map Some (map numbered (map plain kept.points))
  entries_shown =
      let read = held.stands.points in
      let table = map numbered (map plain kept.points) in
      let keep : ℕ × Point → Bool = λ e. true in
      let a = (reads_as points_text [] old new office_schema held.schema (Select (record { lets = []; body = points_query }) points_names) points_are.0 points_are.2 points_are.1 rows shown).answer Null in
      let staged = picked stored_entry shown_entry keep sort blank (λ r. true) (λ r. [] ∷ r ∷ []) (output points_query) points_agree (old.now.trees point_tree) table (as_entries stored_point (old.now.trees point_tree) (map plain kept.points) read.stored) in
      let is : a.kept ≡ _ = a.distinct ∙ ap (map (output points_query)) a.grouped in
      let sorted = plain_sorted kept.points read.sorted in
      let done = answers stored_entry shown_entry keep sort blank nat_cmp nat_cmp_total exact_unsigned points_query (natural_sorts keep) table table _ a.ordered sorted (IsPermutation-refl table) staged (subst (λ k. IsPermutation k a.ordered) is a.same) a.sorted in
      ap (map shown_entry) a.shown ∙ done ∙ ap (map Some) (all_kept table)

  points_shown : map shown_point rows ≡ map Some (map plain kept.points)
  points_shown = as_points shown_point rows (map plain kept.points) entries_shown

  -- and so do the points that are made of the rows
  pub plain_points : {E : Type 0} (made : Result (Vec PointRow Global) E) → IfOk made (λ points. map shown_point rows ≡ map Some (map (λ point. point) points.items)) → IfOk made (λ points. points.items ≡ map plain kept.points)
  plain_points (Ok points) is = same_list points.items (map plain kept.points) (sym (ap (map Some) (map-id points.items)) ∙ sym is ∙ points_shown)
  plain_points (Err e) is = tt

-- ---- a point by its number

abbrev point_query : Query
point_query = record points_query { filter = op2 (Compare Eq Binary) (col 1 0) (col 0 0) ∷ [] }

point_is : (command_of (understood office_schema point_text) ≡ Select (record { lets = []; body = point_query }) points_names) × (reads_listing office_schema point_text ≡ false) × IsPlain (understood office_schema point_text)
unfolding understood everything
point_is = (refl, refl, (refl, refl))

module _ (number : ℕ) where
  abbrev has_number : ℕ × Point → Bool
  has_number e = e.0 == number

  point_agrees : (r : Row) (e : ℕ × Point) → stored_entry r ≡ Some e
      → (list_all (holds (given number ∷ r ∷ [])) point_query.filter ≡ has_number e) × (shown_entry (output point_query (given number ∷ r ∷ [])).1 ≡ Some e) × ((output point_query (given number ∷ r ∷ [])).0 ≡ sort e)
  point_agrees r e h =
      let it = entry_key r e h in
      let tests = λ (a : Value). is_true (binary (Compare Eq Binary) a (Int (pos number))) && true in
      (ap tests it ∙ alone_and _ ∙ compares Eq e.0 number ∙ equals e.0 number, h, ap (λ v. v ∷ []) it)

  finds_no_point : (points : List PointRow) → filter has_number (map numbered points) ≡ [] → point_at points number ≡ None
  finds_no_point [] h = refl
  finds_no_point (q ∷ points) h = step (q.number == number) h (finds_no_point points)
    where
      step : (b : Bool) → cond b (numbered q ∷ filter has_number (map numbered points)) (filter has_number (map numbered points)) ≡ []
          → (filter has_number (map numbered points) ≡ [] → point_at points number ≡ None) → cond b (Some q) (point_at points number) ≡ None
      step true h more = absurd (cc)
      step false h more = more h

  finds_point : (points : List PointRow) (found : PointRow) (rest : List (ℕ × Point)) → filter has_number (map numbered points) ≡ numbered found ∷ rest → point_at points number ≡ Some found
  finds_point [] found rest h = absurd (cc)
  finds_point (q ∷ points) found rest h = step (q.number == number) h (finds_point points found rest)
    where
      step : (b : Bool) → cond b (numbered q ∷ filter has_number (map numbered points)) (filter has_number (map numbered points)) ≡ numbered found ∷ rest
          → (filter has_number (map numbered points) ≡ numbered found ∷ rest → point_at points number ≡ Some found) → cond b (Some q) (point_at points number) ≡ Some found
      step true h more = let same : numbered q ≡ numbered found = cc in same_point stored_point (Some q) found (ap (λ (x : ℕ × Point). Some x) same)
      step false h more = more h

  module _ (old new : State) (kept : Tables) (held : IsHeld old kept) where
    shows_point : (rows : List Row) → Shown point_text (given number) old new rows → map shown_entry rows ≡ map Some (filter has_number (map numbered (map plain kept.points)))
    shows_point rows shown =
        let read = held.stands.points in
        let table = map numbered (map plain kept.points) in
        let a = (reads_as point_text (given number) old new office_schema held.schema (Select (record { lets = []; body = point_query }) points_names) point_is.0 point_is.2 point_is.1 rows shown).answer Null in
        let staged = picked stored_entry shown_entry has_number sort blank (λ r. list_all (holds (given number ∷ r ∷ [])) point_query.filter) (λ r. given number ∷ r ∷ []) (output point_query) point_agrees (old.now.trees point_tree) table (as_entries stored_point (old.now.trees point_tree) (map plain kept.points) read.stored) in
        let sorted = plain_sorted kept.points read.sorted in
        let is : a.kept ≡ _ = a.distinct ∙ ap (map (output point_query)) a.grouped in
        let done = answers stored_entry shown_entry has_number sort blank nat_cmp nat_cmp_total exact_unsigned point_query (natural_sorts has_number) table table _ a.ordered sorted (IsPermutation-refl table) staged (subst (λ k. IsPermutation k a.ordered) is a.same) a.sorted in
        ap (map shown_entry) a.shown ∙ done

    pub no_point : Shown point_text (given number) old new [] → None ≡ option_map plain (point_at kept.points number)
    no_point shown = sym (finds_no_point (map plain kept.points) (empty (filter has_number (map numbered (map plain kept.points))) (shows_point [] shown))) ∙ plain_found kept.points number
      where
        empty : (xs : List (ℕ × Point)) → ◌≡◌ {A = List (Option (ℕ × Point))} [] (map Some xs) → xs ≡ []
        empty [] h = refl
        empty (x ∷ xs) h = absurd (cc)

    pub one_point : (row : Row) → Shown point_text (given number) old new (row ∷ []) → (found : PointRow) → shown_point row ≡ Some found → Some found ≡ option_map plain (point_at kept.points number)
    one_point row shown found is =
        let it = first (filter has_number (map numbered (map plain kept.points))) (shows_point (row ∷ []) shown) in
        sym (finds_point (map plain kept.points) found it.0 it.1) ∙ plain_found kept.points number
      where
        first : (xs : List (ℕ × Point)) → map shown_entry (row ∷ []) ≡ map Some xs → (rest : List (ℕ × Point)) × (xs ≡ numbered found ∷ rest)
        first [] h = absurd (cc)
        first (x ∷ xs) h =
            let head : shown_entry row ≡ Some x = cc in
            let same : ◌≡◌ {A = Option (ℕ × Point)} (Some (numbered found)) (Some x) = sym (ap (option_map numbered) is) ∙ head in
            (xs, ap (λ (e : ℕ × Point). e ∷ xs) (sym (same_some (numbered found) x same)))
