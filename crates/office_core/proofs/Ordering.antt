-- Why orders and sends are refused.
use Rattle.std.proofs.Common.{◌≡◌, ◌≢◌, ◌≤◌, ℕ, ℤ, Bool, true, false, cond, not, eqb, leb, Some, None, Option, List, refl, sym, ap, ◌∙◌, subst}
use Rattle.std.proofs.lemmas.Bool.{le-leb}
use Rattle.std.proofs.lemmas.Option.{same_Some}
use Rattle.point_list.specs.declared.point.Role.{Role}
use Rattle.point_list.specs.declared.point.Role.TheVariants.{Gauge, Counter, Setting as IsSet}
use Rattle.point_list.specs.declared.site.Site.{Site}
use Rattle.poll_book.specs.declared.fault.StoreFault.{StoreFault}
use Rattle.poll_book.specs.declared.rows.PointRow.{PointRow}
use Rattle.poll_book.specs.declared.rows.OrderState.{OrderState}
use Rattle.poll_book.specs.declared.rows.Setting.{Setting}
use Rattle.poll_book.specs.declared.requests.RequestFault.TheVariants as fault
use Rattle.poll_book.specs.Orders.{Settings, is_waiting, point_at, oldest_waiting}
use Rattle.office_core.specs.declared.error.OfficeError.{OfficeError}
use Rattle.office_core.specs.declared.error.OfficeError.TheVariants as error
use Rattle.office_core.specs.declared.site.Target.{Target}
use Rattle.office_core.specs.Errors.{IsCaused}
use Rattle.office_core.specs.Orders.{Refused, Taken, is_setting, ordering_of, ordering_words, is_number, send_fault_of, send_fault_at, send_fault_on}
use Rattle.office_core.specs.Registers.{registers_for}
use Rattle.office_core.specs.Sites.{target}

-- ---- orders

not_set : (role : Role) → role ≢ IsSet → is_setting role ≡ false
not_set IsSet apart = absurd (apart refl)
not_set Gauge apart = refl
not_set Counter apart = refl

-- a point whose role isn't setting
pub no_setting : (orders : ℕ) (known : PointRow) (value : ℤ) → known.point.role ≢ IsSet → ordering_of orders (Some known) value ≡ Refused fault.NotASetting
no_setting orders known value apart =
    ap (λ b. cond b (ordering_words orders known.number (registers_for known.point value)) (Refused fault.NotASetting)) (not_set known.point.role apart)

set_so : (orders : ℕ) (known : PointRow) (value : ℤ) → known.point.role ≡ IsSet
    → ordering_of orders (Some known) value ≡ ordering_words orders known.number (registers_for known.point value)
set_so orders known value is =
    ap (λ r. cond (is_setting r) (ordering_words orders known.number (registers_for known.point value)) (Refused fault.NotASetting)) is

-- a value that no registers have
pub no_registers : (orders : ℕ) (known : PointRow) (value : ℤ) → known.point.role ≡ IsSet → None ≡ registers_for known.point value
    → ordering_of orders (Some known) value ≡ Refused fault.OutOfRange
no_registers orders known value is none = set_so orders known value is ∙ ap (ordering_words orders known.number) (sym none)

-- no order more
pub no_number : (orders : ℕ) (known : PointRow) (value : ℤ) (words : List ℕ) → known.point.role ≡ IsSet → Some words ≡ registers_for known.point value → 1000000 ≤ orders
    → ordering_of orders (Some known) value ≡ Refused fault.TooManyOrders
no_number orders known value words is some full =
    set_so orders known value is ∙ ap (ordering_words orders known.number) (sym some)
    ∙ ap (λ b. cond b (Refused fault.TooManyOrders) (Taken known.number words)) (le-leb 1000000 orders full)

-- ---- sends

module _ (may_refuse : StoreFault → Type 0) where
  chosen : (x y z w : Bool) (e : OfficeError)
      → cond x (Some error.WrongLine) (cond y (Some error.Settled) (cond z (Some error.NotNext) (cond w (Some error.Exhausted) None))) ≡ Some e → IsCaused may_refuse e
  chosen true y z w e is = subst (IsCaused may_refuse) (same_Some error.WrongLine e is) tt
  chosen false true z w e is = subst (IsCaused may_refuse) (same_Some error.Settled e is) tt
  chosen false false true w e is = subst (IsCaused may_refuse) (same_Some error.NotNext e is) tt
  chosen false false false true e is = subst (IsCaused may_refuse) (same_Some error.Exhausted e is) tt
  chosen false false false false e is = absurd (cc)

  by_target : (o : Option Target) (line : ℕ) (state : OrderState) (next : Bool) (made : ℕ) (e : OfficeError) → send_fault_on o line state next made ≡ Some e → IsCaused may_refuse e
  by_target None line state next made e is = subst (IsCaused may_refuse) (same_Some error.WrongLine e is) tt
  by_target (Some to) line state next made e is = chosen (not (eqb to.line line)) (not (is_waiting state)) (not next) (leb 4294967295 made) e is

  by_point : (o : Option PointRow) (line : ℕ) (site : Site) (known : List PointRow) (table : Settings) (made number : ℕ) (state : OrderState) (e : OfficeError)
      → send_fault_at o line site known table made number state ≡ Some e → IsCaused may_refuse e
  by_point None line site known table made number state e is = subst (IsCaused may_refuse) (same_Some error.WrongLine e is) tt
  by_point (Some row) line site known table made number state e is =
      by_target (target site row.point.device) line state (is_number (oldest_waiting known row.point.device table) number) made e is

  -- no refusal of a send is the store's
  pub send_caused : (setting : Setting) (line : ℕ) (site : Site) (known : List PointRow) (table : Settings) (made number : ℕ) (e : OfficeError)
      → send_fault_of (Some setting) line site known table made number ≡ Some e → IsCaused may_refuse e
  send_caused setting line site known table made number e is = by_point (point_at known setting.point) line site known table made number setting.state e is
