use Rattle.std.proofs.Common.{Option, None, Some, ap, subst}
use Rattle.std.specs.Prelude.{is_some}
use Rattle.mb_mbap.specs.declared.frame.Frame.{Frame}
use Rattle.office_core.proofs.Proceeding.{along_still, along_then}
use Rattle.office_net.proofs.Querying.{nothing_then_makes, nothing_then_misses, told_err}
use Rattle.office_net.specs.Querying.{Makes}
use Rattle.run_lines.specs.Wires.{Queries, SomeQuery}
use Rattle.run_lines.proofs.Wires.{made_none}
use Rattle.run_lines.proofs.round.Progress.next_read.Goals as goal

pub loop-device-init : goal.loop-device-init
loop-device-init g c = along_still c.args.office.now

pub loop-device-preserved : goal.loop-device-preserved
loop-device-preserved g c =
    along_then c.args.office.now c.loop-device.office c.read_of.new.office c.loop-device.invariant
    (made_none (Queries c.args.conn (Some c.args.slot) c.args.window.now None) c.loop-device.office c.read_of.new.office _ (ap is_some c.in_default.is) c.in_ok-query.ensures)

pub returns-in_err-query : goal.returns-in_err-query
returns-in_err-query g c =
    told_err c.from_residual.result _ _ c.from_residual.ensures.0
    (nothing_then_misses (SomeQuery c.args.conn (Some c.args.slot) c.args.window.now) c.args.office.now c.loop-device.office c.read_of.new.office c.loop-device.invariant c.in_err-query.ensures)

pub returns-in-Some : goal.returns-in-Some
returns-in-Some g c =
    nothing_then_makes (Queries c.args.conn (Some c.args.slot) c.args.window.now None) c.args.office.now c.loop-device.office c.read_of.new.office (Some c.in-Some.query) c.loop-device.invariant
    (subst (λ (told : Option Frame). Makes (Queries c.args.conn (Some c.args.slot) c.args.window.now None) c.loop-device.office c.read_of.new.office told) c.in-Some.is c.in_ok-query.ensures)
