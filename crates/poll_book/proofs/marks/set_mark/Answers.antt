use Rattle.std.proofs.Common.{◌≡◌, ◌∙◌, ℕ, List, sym, subst}
use Rattle.point_list.specs.Label.{is_label}
use Rattle.poll_book.specs.Marks.{IsPast}
use Rattle.poll_book.proofs.Marked.{label_is, past_set}
use Rattle.poll_book.proofs.marks.set_mark.Goals as goal

pub returns-in-Some : goal.returns-in-Some
returns-in-Some c = λ points orders right past.
    let text = c.as_bytes.result.now in
    let label : c.in-Some.device ≡ c.args.device.now = label_is (is_label text) c.in-Some.device text c.in-Some.ensures ∙ c.as_bytes.ensures.value in (
      past_set points orders c.insert.result c.args.marks.now.past c.insert.new.self c.in-Some.device c.args.past c.insert.ensures.updates c.insert.ensures.err right.0
          (subst (λ (device : List ℕ). IsPast points orders device c.args.past) (sym label) past),
      right.1,
    )
