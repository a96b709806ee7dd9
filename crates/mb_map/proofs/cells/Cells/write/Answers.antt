use Rattle.std.proofs.Common.{◌≡◌, ◌+◌, ◌-◌, ◌∙◌, sym, length, ap, arith, rules}
use Rattle.mb_map.proofs.Ranges.{whole_begins, whole_ends, written_over}
use Rattle.std.specs.List.{enumerate_from}
use Rattle.std.proofs.lemmas.List.{with_items_is}
use borrow.Rule.Slice.PartMut.{put_mid, same_len_mid}
use Rattle.mb_map.proofs.cells.Cells.write.Goals as goal

pub overflow_sub-place : goal.overflow_sub-place
overflow_sub-place c =
    let s = c.self.inside.start in
    let xs = c.self.inside.numbers.items in
    let begins = whole_begins s xs c.args.start (length c.args.numbers.now) c.requires.some (rw c.self.view_is c.requires.whole) in
    omega arith

pub slice_bounds-copy_from_slice-end : goal.slice_bounds-copy_from_slice-end
slice_bounds-copy_from_slice-end c =
    let s = c.self.inside.start in
    let xs = c.self.inside.numbers.items in
    let q = length c.args.numbers.now in
    let begins = whole_begins s xs c.args.start q c.requires.some (rw c.self.view_is c.requires.whole) in
    let ends = whole_ends s xs c.args.start q c.requires.some (rw c.self.view_is c.requires.whole) in
    let len = ap length c.as_mut_slice.ensures.value in
    search rules

pub returns : goal.returns
returns c =
    let s = c.self.inside.start in
    let xs = c.self.inside.numbers.items in
    let q = length c.args.numbers.now in
    let begins = whole_begins s xs c.args.start q c.requires.some (rw c.self.view_is c.requires.whole) in
    let ends = whole_ends s xs c.args.start q c.requires.some (rw c.self.view_is c.requires.whole) in
    let new = put_mid (c.from.result - s) (c.from.result - s + q - (c.from.result - s)) c.as_mut_slice.result.now c.copy_from_slice.new.self in
    let size : length new ≡ c.self.inside.numbers.len = same_len_mid _ _ c.as_mut_slice.result.now c.copy_from_slice.new.self c.copy_from_slice.ensures.len ∙ ap length c.as_mut_slice.ensures.value ∙ sym c.self.inside.numbers.ok.0 in
    ap (enumerate_from s) (with_items_is c.self.inside.numbers new size) ∙
    rw (← c.self.view_is, c.as_mut_slice.ensures.value, c.copy_from_slice.ensures.after, c.from.ensures) (written_over s c.args.start xs c.args.numbers.now _ begins ends (omega arith))
