use Rattle.std.proofs.Common.{None, Some, sym}
use Rattle.office_core.proofs.Proceeding.{along_still, along_then}
use Rattle.office_net.proofs.Querying.{nothing_then_makes, nothing_then_misses, told_err}
use Rattle.office_net.specs.Kinds.{Asks}
use Rattle.run_lines.specs.Wires.{Queries, SomeQuery}
use Rattle.run_lines.proofs.Wires.{asks_made, asks_missed, made_none}
use Rattle.run_lines.proofs.round.Progress.read_of.Goals as goal

pub loop-place-init : goal.loop-place-init
loop-place-init g c = along_still c.args.office.now

pub loop-place-preserved : goal.loop-place-preserved
loop-place-preserved g c =
    along_then c.args.office.now c.loop-place.office c.ask_among.new.office c.loop-place.invariant
    (made_none (Asks c.args.conn c.args.slot c.as_str.result.now c.index-read.result.now) c.loop-place.office c.ask_among.new.office c.in_ok-query.query
    (sym c.if-is_some.ensures) c.in_ok-query.ensures.made)

pub returns-in_err-query : goal.returns-in_err-query
returns-in_err-query g c =
    told_err c.from_residual.result _ _ c.from_residual.ensures.0
    (nothing_then_misses (SomeQuery c.args.conn (Some c.args.slot) c.args.window.now) c.args.office.now c.loop-place.office c.ask_among.new.office c.loop-place.invariant
    (asks_missed c.args.conn c.args.slot c.args.window.now c.as_str.result.now c.loop-place.office c.ask_among.new.office c.index-read.result.now c.in_err-query.ensures.made))

pub returns-then-is_some : goal.returns-then-is_some
returns-then-is_some g c =
    nothing_then_makes (Queries c.args.conn (Some c.args.slot) c.args.window.now None) c.args.office.now c.loop-place.office c.ask_among.new.office c.in_ok-query.query c.loop-place.invariant
    (asks_made c.args.conn c.args.slot c.args.window.now c.as_str.result.now c.loop-place.office c.ask_among.new.office c.index-read.result.now c.in_ok-query.query c.in_ok-query.ensures.made)
