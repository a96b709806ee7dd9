use Rattle.std.proofs.Common.{◌≡◌, ◌∙◌, Err, false, IfSome, None, Ok, OnOk, Option, Result, Some, sym}
use Rattle.std.specs.Result.{is_err}
use Rattle.office_core.specs.History.{tables}
use Rattle.reopening.proofs.migrate_and_open.Goals as goal

ok_of : {A E P : Type 0} (r : Result A E) → is_err r ≡ false → OnOk r P → P
ok_of (Ok x) fine p = p
ok_of (Err e) fine p = absurd (cc)

-- two facts of what is there give a third
both : {A : Type 0} {P Q R : A → Type 0} (o : Option A) → ((x : A) → P x → Q x → R x) → IfSome o P → IfSome o Q → IfSome o R
both (Some x) then p q = then x p q
both None then p q = tt

pub returns-clause-stands : goal.returns-clause-stands
returns-clause-stands g c =
    let fine = sym c.is_err.ensures.value ∙ c.if-is_err.false in
    both c.over.result (λ office stands _ clean before was. stands clean before (λ held_clean _. ok_of c.migrate.result fine (c.migrate.ensures.done held_clean (tables before) was))) c.over.ensures.stands c.over.ensures.clean

-- a crash leaves an office's tables, and they stand for one state alone
pub returns-clause-leaves : goal.returns-clause-leaves
returns-clause-leaves g c =
    let fine = sym c.is_err.ensures.value ∙ c.if-is_err.false in
    both c.over.result
    (λ office leaves was_clean clean before was left may.
    let it = leaves clean left may in
    let of = ok_of c.migrate.result fine (c.migrate.ensures.durable (was_clean clean) (tables before) was) it.0 it.1 in
    c.stands_once.ensures it.0 left (tables before) (it.2 (record { listed = of.listed; some = tables before; stands = of.stands })) of.stands)
    c.over.ensures.leaves c.over.ensures.clean
