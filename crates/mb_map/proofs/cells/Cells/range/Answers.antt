use Rattle.std.proofs.Common.{◌≡◌, ◌+◌, ◌-◌, length, ap, arith, rules}
use Rattle.mb_map.proofs.Ranges.{whole_begins, whole_ends, range_holds}
use Rattle.mb_map.proofs.cells.Cells.range.Goals as goal

pub overflow_sub-place : goal.overflow_sub-place
overflow_sub-place c =
    let s = c.self.inside.start in
    let xs = c.self.inside.numbers.items in
    let begins = whole_begins s xs c.args.start c.args.quantity c.requires.some (rw c.self.view_is c.requires.whole) in
    omega arith

pub overflow_add-result : goal.overflow_add-result
overflow_add-result c =
    let s = c.self.inside.start in
    let xs = c.self.inside.numbers.items in
    let ends = whole_ends s xs c.args.start c.args.quantity c.requires.some (rw c.self.view_is c.requires.whole) in
    let len = ap length c.as_slice.ensures.value in
    search rules

pub slice_bounds-result-end : goal.slice_bounds-result-end
slice_bounds-result-end c =
    let s = c.self.inside.start in
    let xs = c.self.inside.numbers.items in
    let begins = whole_begins s xs c.args.start c.args.quantity c.requires.some (rw c.self.view_is c.requires.whole) in
    let ends = whole_ends s xs c.args.start c.args.quantity c.requires.some (rw c.self.view_is c.requires.whole) in
    let len = ap length c.as_slice.ensures.value in
    search rules

pub returns-clause-numbers : goal.returns-clause-numbers
returns-clause-numbers c =
    let s = c.self.inside.start in
    let xs = c.self.inside.numbers.items in
    let begins = whole_begins s xs c.args.start c.args.quantity c.requires.some (rw c.self.view_is c.requires.whole) in
    let ends = whole_ends s xs c.args.start c.args.quantity c.requires.some (rw c.self.view_is c.requires.whole) in
    let count : c.from.result - s + c.args.quantity - (c.from.result - s) ≡ c.args.quantity = omega arith in
    rw (count, ← c.self.view_is, c.as_slice.ensures.value, c.from.ensures) (range_holds s xs c.args.start c.args.quantity begins ends)
