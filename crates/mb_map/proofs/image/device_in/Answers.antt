use Rattle.std.proofs.Common.{refl}
use Rattle.std.specs.Prelude.{codes}
use Rattle.std.proofs.lemmas.Result.{err_from_is_err_and}
use Rattle.toml.specs.View.{table_view, view}
use Rattle.mb_map.specs.Image.{cells_at, device_in}
use Rattle.mb_map.proofs.Failing.{fails_more}
use Rattle.mb_map.proofs.image.device_in.Goals as goal

pub returns-in_err-input : goal.returns-in_err-input
unfolding device_in
returns-in_err-input c =
    let p = err_from_is_err_and c.from_residual-in_err-input.result c.from_residual-in_err-input.ensures.1 in
    let table = table_view c.in_ok-table.table.now in
    rw (p.1, p.2) (fails_more c.in_err-input.field-0.0 (cells_at (codes "input") (codes "input_start") 65535 table) (device_in (view c.args.unit.now)) c.in_err-input.ensures.gives
    (λ none. rw (← c.as_table.ensures, c.in_ok-table.ensures.ok_part, c.in_ok-id.ensures.number, c.in_ok-coils.ensures.gives, c.in_ok-discrete.ensures.gives, none) refl))

pub returns : goal.returns
unfolding device_in
returns c = rw (← c.as_table.ensures, c.in_ok-table.ensures.ok_part, c.in_ok-id.ensures.number, c.in_ok-coils.ensures.gives, c.in_ok-discrete.ensures.gives, c.in_ok-input.ensures.gives, c.in_ok-holding.ensures.gives) refl
