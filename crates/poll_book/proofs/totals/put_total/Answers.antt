use Rattle.std.proofs.Common.{◌≡◌, refl, ap, subst, ◌∙◌, arith}
use Rattle.std.specs.List.{insert}
use Rattle.poll_book.specs.Changes.{as_sums}
use Rattle.poll_book.specs.Histories.{IsAt, IsGap}
use Rattle.poll_book.specs.Marks.{total_point}
use Rattle.poll_book.proofs.Places.{rising_insert}
use Rattle.poll_book.proofs.Sums.{put_over, put_in}
use Rattle.poll_book.proofs.totals.put_total.Goals as goal

pub returns-in-Ok-clause-put : goal.returns-in-Ok-clause-put
returns-in-Ok-clause-put c =
    put_over c.args.row c.args.totals.now.items c.in-Ok.place (subst (λ l. IsAt total_point l c.args.row.point c.in-Ok.place) c.deref.ensures.value c.in-Ok.ensures.found)

gap : (c : goal.After-insert) → IsGap total_point c.args.totals.now.items c.args.row.point c.in-Err.place
gap c = subst (λ l. IsGap total_point l c.args.row.point c.in-Err.place) c.deref.ensures.value c.in-Err.ensures.absent

inserted : (c : goal.After-insert) → c.insert.new.self.items ≡ insert c.args.totals.now.items c.in-Err.place c.args.row
inserted c = let ok = c.insert.ensures.succeeds c.requires.room in let items = c.insert.ensures.items in grind arith

pub returns-in-Err-clause-rising : goal.returns-in-Err-clause-rising
returns-in-Err-clause-rising c =
    rw (inserted c) (rising_insert total_point c.args.totals.now.items c.args.row.point c.in-Err.place (gap c) c.args.row refl c.requires.rising)

pub returns-in-Err-clause-put : goal.returns-in-Err-clause-put
returns-in-Err-clause-put c = ap as_sums (inserted c) ∙ put_in c.args.row c.args.totals.now.items c.in-Err.place (gap c)
