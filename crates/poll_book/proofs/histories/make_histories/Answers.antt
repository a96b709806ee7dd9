use Rattle.std.proofs.Common.{◌≡◌, ◌<◌, get_or, length, inl, inr, sym, ap, subst, ◌∙◌, arith}
use Rattle.std.specs.Prelude.{Contains, map}
use Rattle.std.proofs.lemmas.Bool.{cases_lt}
use Rattle.std.proofs.lemmas.List.{get_or_default}
use Rattle.poll_book.specs.declared.rows.ReadingRow.{ReadingRow}
use Rattle.poll_book.specs.Histories.{point_of}
use Rattle.poll_book.proofs.histories.make_histories.Goals as goal

pub loop-row-preserved : goal.loop-row-preserved
loop-row-preserved c = record {
  ordered = c.make_history.ensures.ordered;
  same = c.make_history.ensures.same ∙ c.loop-row.invariant.same;
  made = λ k d lt. elim (cases_lt k c.loop-row.row-index) [
    | inl below ↦ c.make_history.ensures.kept _ (c.loop-row.invariant.made k d below)
    | inr at_least ↦
        let here : k ≡ c.loop-row.row-index = omega arith in
        let in_range : c.loop-row.row-index < length c.args.added.now = omega (arith, c.loop-row-test.true) in
        let row : get_or c.args.added.now k d ≡ c.row-item.result =
        ap (λ n. get_or c.args.added.now n d) here ∙ get_or_default c.args.added.now c.loop-row.row-index d c.row-item.result in_range ∙ sym c.row-item.is in
        subst (λ (r : ReadingRow). Contains (map point_of c.make_history.new.histories.items) r.point) (sym row) c.in_ok-make_history.ensures.made
  ];
}
