use Rattle.std.proofs.Common.{rules}
use Rattle.mb_map.specs.Tables.{IsWhole}
use Rattle.mb_map.proofs.Perform.{none_of}
use Rattle.mb_map.proofs.Ranges.{whole_after}
use Rattle.mb_map.proofs.mapping.Mapping.write_and_read.Goals as goal

pub returns-clause-outside : goal.returns-clause-outside
returns-clause-outside c =
    let before : IsWhole c.args.read.start c.args.read.quantity c.self.inside.holding = search rules in
    let after : IsWhole c.args.read.start c.args.read.quantity c.put.new.self = rw c.if-not-put.ensures.done (whole_after c.args.start c.args.words.now c.args.read.start c.args.read.quantity c.self.inside.holding before) in
    none_of _ c.registers.result c.registers.ensures.none after

pub returns-clause-same : goal.returns-clause-same
returns-clause-same c =
    let before : IsWhole c.args.read.start c.args.read.quantity c.self.inside.holding = search rules in
    let after : IsWhole c.args.read.start c.args.read.quantity c.put.new.self = rw c.if-not-put.ensures.done (whole_after c.args.start c.args.words.now c.args.read.start c.args.read.quantity c.self.inside.holding before) in
    none_of _ c.registers.result c.registers.ensures.none after
