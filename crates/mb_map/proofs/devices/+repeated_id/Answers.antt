use Rattle.std.proofs.Common.{◌∙◌, ℕ, eqb, sym}
use Rattle.toml_members.proofs.Places.{any_found, none_found}
use Rattle.mb_map.specs.Tables.{Tables}
use Rattle.mb_map.proofs.Differ.{differ_found, differ_more, differ_none}
use Rattle.mb_map.proofs.devices.+repeated_id.Goals as goal

pub returns-in_err-first-clause-none : goal.returns-in_err-first-clause-none
returns-in_err-first-clause-none t c = rw c.from_residual.ensures (sym (differ_none c.args.devices.now c.in_err-first.ensures.cases))

pub returns-in-Some-clause-none : goal.returns-in-Some-clause-none
returns-in-Some-clause-none t c =
    let first = c.in_ok-first.first.now in
    let rest = c.in_ok-first.rest.now in
    let found = any_found (λ (d : ℕ × Tables). eqb d.0 first.0) rest c.in-Some.index (sym c.in-Some.ensures) in
    sym (differ_found c.args.devices.now first rest c.in_ok-first.ensures.cases.0 found)

pub returns-in_err-repeated_id-in-None-clause-none : goal.returns-in_err-repeated_id-in-None-clause-none
returns-in_err-repeated_id-in-None-clause-none t c =
    let first = c.in_ok-first.first.now in
    let rest = c.in_ok-first.rest.now in
    let none = none_found (λ (d : ℕ × Tables). eqb d.0 first.0) rest (sym c.in-None.ensures) in
    let more = differ_more c.args.devices.now first rest c.in_ok-first.ensures.cases.0 none in
    rw c.from_residual-in_err-repeated_id-in-None.ensures (c.in_err-repeated_id-in-None.ensures.none ∙ sym more)

pub returns-in_ok-repeated_id-in-None-clause-none : goal.returns-in_ok-repeated_id-in-None-clause-none
returns-in_ok-repeated_id-in-None-clause-none t c =
    let first = c.in_ok-first.first.now in
    let rest = c.in_ok-first.rest.now in
    let none = none_found (λ (d : ℕ × Tables). eqb d.0 first.0) rest (sym c.in-None.ensures) in
    let more = differ_more c.args.devices.now first rest c.in_ok-first.ensures.cases.0 none in
    c.in_ok-repeated_id-in-None.ensures.none ∙ sym more
