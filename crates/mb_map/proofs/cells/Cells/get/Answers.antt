use Rattle.std.proofs.Common.{length, ap, sym, arith, Some}
use Rattle.mb_map.proofs.Ranges.{cell_below, cell_past, cell_inside}
use Rattle.mb_map.proofs.cells.Cells.get.Goals as goal

pub returns-then-address-self : goal.returns-then-address-self
returns-then-address-self c = rw (← c.self.view_is) (sym (cell_below c.self.inside.start c.self.inside.numbers.items c.args.address (omega arith)))

pub returns-in-Some : goal.returns-in-Some
returns-in-Some c =
    let s = c.self.inside.start in
    let xs = c.self.inside.numbers.items in
    let lt = c.in-Some.ensures.lookup.3.0 in
    let len = ap length c.deref.ensures.value in
    let found = c.in-Some.ensures.lookup.4 (omega arith) 0 in
    rw (← c.self.view_is, cell_inside s xs c.args.address (omega arith) (omega arith), ← c.from-address.ensures, ← c.deref.ensures.value) (ap Some found)

pub returns-in-None : goal.returns-in-None
returns-in-None c =
    let s = c.self.inside.start in
    let xs = c.self.inside.numbers.items in
    let past = c.in-None.ensures.lookup.3 in
    let len = ap length c.deref.ensures.value in
    rw (← c.self.view_is) (sym (cell_past s xs c.args.address (omega arith)))
