-- The words of tables, roles and types.
use Rattle.std.proofs.Common.{◌≡◌, ◌⊎◌, ◌↔◌, inl, inr, ℕ, Bool, true, false, cond, List, [], ◌∷◌, refl, sym, ap, ◌∙◌, subst, Option, Some, None}
use Rattle.std.specs.Prelude.{◌&&◌, codes}
use Rattle.std.specs.Char.{is_ascii}
use Rattle.std.specs.List.{find, list_all}
use Rattle.std.specs.Str.{IsUtf8, bytes_eq}
use Rattle.std.proofs.lemmas.Slice.Eq.{bytes_eq-Decides}
use Rattle.std.proofs.lemmas.Str.{IsUtf8-from_ascii}
use Rattle.mb_pdu.specs.declared.table.Table.{Table}
use Rattle.mb_pdu.specs.declared.table.Table.TheVariants.{Coil, Discrete, Input, Holding}
use Rattle.mb_pdu.specs.Tables.{table_name}
use Rattle.sunspec.specs.declared.point_type.PointType.{PointType}
use Rattle.sunspec.specs.declared.point_type.PointType.TheVariants.{Int16, Uint16, Acc16, Enum16, Bitfield16, Sunssf, Int32, Uint32, Acc32, Enum32, Bitfield32, Int64, Uint64, Acc64, Ipaddr, Str, Bit}
use Rattle.sunspec.specs.PointType.{can_be_swapped, named, row, types}
use Rattle.sunspec.specs.WordOrder.{order_name}
use Rattle.sunspec.specs.declared.word_order.WordOrder.{WordOrder}
use Rattle.sunspec.specs.declared.word_order.WordOrder.TheVariants.{Big, Swapped}
use Rattle.point_list.specs.Columns.{can_be_set, can_be_written, can_count, order_of, role_name, role_of, table_of}
use Rattle.point_list.specs.declared.point.Role.{Role}
use Rattle.point_list.specs.declared.point.Role.TheVariants.{Gauge, Counter, Setting}
use Rattle.point_list.proofs.Labels.{all_ascii}

-- ---- tables

table_again : (table : Table) → table_of (table_name table) ≡ Some table
table_again Coil = refl
table_again Discrete = refl
table_again Input = refl
table_again Holding = refl

-- a table is read from its word alone
table_word : (text : List ℕ) (table : Table) → table_of text ≡ Some table → text ≡ table_name table
table_word text table e =
    by (bytes_eq text (codes "coil")) (bytes_eq text (codes "discrete")) (bytes_eq text (codes "input")) (bytes_eq text (codes "holding"))
    ((bytes_eq-Decides text (codes "coil")).0) ((bytes_eq-Decides text (codes "discrete")).0) ((bytes_eq-Decides text (codes "input")).0) ((bytes_eq-Decides text (codes "holding")).0) e
  where
    by : (a b c d : Bool) → (a ≡ true → text ≡ codes "coil") → (b ≡ true → text ≡ codes "discrete") → (c ≡ true → text ≡ codes "input") → (d ≡ true → text ≡ codes "holding")
        → cond a (Some Coil) (cond b (Some Discrete) (cond c (Some Input) (cond d (Some Holding) None))) ≡ Some table → text ≡ table_name table
    by true b c d ha hb hc hd e = let same : Coil ≡ table = cc in ha refl ∙ ap table_name same
    by false true c d ha hb hc hd e = let same : Discrete ≡ table = cc in hb refl ∙ ap table_name same
    by false false true d ha hb hc hd e = let same : Input ≡ table = cc in hc refl ∙ ap table_name same
    by false false false true ha hb hc hd e = let same : Holding ≡ table = cc in hd refl ∙ ap table_name same
    by false false false false ha hb hc hd e = absurd (cc)

pub table_words : (text : List ℕ) (table : Table) → (table_of text ≡ Some table) ↔ (text ≡ table_name table)
table_words text table = (table_word text table, λ e. ap table_of e ∙ table_again table)

-- ---- roles

-- a role is read from its word alone
pub role_word : (table : Table) (kind : PointType) (text : List ℕ) (role : Role) → role_of table kind text ≡ Some role → text ≡ role_name role
unfolding role_of
role_word table kind text role e =
    by (bytes_eq text (codes "gauge")) (bytes_eq text (codes "counter")) (bytes_eq text (codes "setting")) (can_count kind) (can_be_written table && can_be_set kind)
    ((bytes_eq-Decides text (codes "gauge")).0) ((bytes_eq-Decides text (codes "counter")).0) ((bytes_eq-Decides text (codes "setting")).0) e
  where
    by : (a b c x y : Bool) → (a ≡ true → text ≡ codes "gauge") → (b ≡ true → text ≡ codes "counter") → (c ≡ true → text ≡ codes "setting")
        → cond a (Some Gauge) (cond b (cond x (Some Counter) None) (cond c (cond y (Some Setting) None) None)) ≡ Some role → text ≡ role_name role
    by true b c x y ha hb hc e = let same : Gauge ≡ role = cc in ha refl ∙ ap role_name same
    by false true c true y ha hb hc e = let same : Counter ≡ role = cc in hb refl ∙ ap role_name same
    by false true c false y ha hb hc e = absurd (cc)
    by false false true x true ha hb hc e = let same : Setting ≡ role = cc in hc refl ∙ ap role_name same
    by false false true x false ha hb hc e = absurd (cc)
    by false false false x y ha hb hc e = absurd (cc)

-- ---- orders

-- an order is read from its word alone, or from nothing
pub order_word : (kind : PointType) (text : List ℕ) (order : WordOrder) → order_of kind text ≡ Some order → (text ≡ order_name order) ⊎ ((text ≡ []) × (order ≡ Big))
unfolding order_of
order_word kind [] order e = let same : Big ≡ order = cc in inr (refl, sym same)
order_word kind (byte ∷ bytes) order e = inl (
    by (bytes_eq text (codes "big")) (bytes_eq text (codes "swapped")) (can_be_swapped kind)
    ((bytes_eq-Decides text (codes "big")).0) ((bytes_eq-Decides text (codes "swapped")).0) e
    )
  where
    text : List ℕ
    text = byte ∷ bytes

    by : (a b x : Bool) → (a ≡ true → text ≡ codes "big") → (b ≡ true → text ≡ codes "swapped")
        → cond a (Some Big) (cond b (cond x (Some Swapped) None) None) ≡ Some order → text ≡ order_name order
    by true b x ha hb e = let same : Big ≡ order = cc in ha refl ∙ ap order_name same
    by false true true ha hb e = let same : Swapped ≡ order = cc in hb refl ∙ ap order_name same
    by false true false ha hb e = absurd (cc)
    by false false x ha hb e = absurd (cc)

-- ---- types

-- what is found passes
found_passes : (test : PointType → Bool) (kinds : List PointType) (kind : PointType) → find test kinds ≡ Some kind → test kind ≡ true
found_passes test [] kind e = absurd (cc)
found_passes test (k ∷ ks) kind e = by (test k) refl (λ found. found_passes test ks kind found) e
  where
    by : (b : Bool) → test k ≡ b → (find test ks ≡ Some kind → test kind ≡ true) → cond b (Some k) (find test ks) ≡ Some kind → test kind ≡ true
    by true is later e = let same : k ≡ kind = cc in ap test (sym same) ∙ is
    by false is later e = later e

name_is_ascii : (kind : PointType) → list_all is_ascii (row kind).name ≡ true
unfolding row
name_is_ascii Int16 = refl
name_is_ascii Uint16 = refl
name_is_ascii Acc16 = refl
name_is_ascii Enum16 = refl
name_is_ascii Bitfield16 = refl
name_is_ascii Sunssf = refl
name_is_ascii Int32 = refl
name_is_ascii Uint32 = refl
name_is_ascii Acc32 = refl
name_is_ascii Enum32 = refl
name_is_ascii Bitfield32 = refl
name_is_ascii Int64 = refl
name_is_ascii Uint64 = refl
name_is_ascii Acc64 = refl
name_is_ascii Ipaddr = refl
name_is_ascii (Str registers) = refl
name_is_ascii Bit = refl

-- what is no text names no type
pub none_named : (text : List ℕ) → (IsUtf8 text → ⊥) → None ≡ named text
none_named text other = by (named text) refl
  where
    by : (o : Option PointType) → named text ≡ o → None ≡ o
    by None is = refl
    by (Some kind) is =
        let same = (bytes_eq-Decides (row kind).name text).0 (found_passes (λ k. bytes_eq (row k).name text) types kind is) in
        absurd (other (subst IsUtf8 same (IsUtf8-from_ascii (row kind).name (all_ascii (row kind).name (name_is_ascii kind)))))
