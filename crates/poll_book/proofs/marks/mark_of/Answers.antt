use Rattle.std.proofs.Common.{◌≡◌, ◌∙◌, ℕ, Option, sym, ap, subst}
use Rattle.std.specs.Option.{unwrap_or}
use Rattle.point_list.specs.Label.{is_label}
use Rattle.poll_book.specs.Marks.{IsPast, past_in}
use Rattle.poll_book.proofs.Marked.{label_is}
use Rattle.poll_book.proofs.marks.mark_of.Goals as goal

pub returns-in-Some : goal.returns-in-Some
returns-in-Some c = λ points orders right.
    let device = c.args.device.now in
    let text = c.as_bytes.result.now in
    let label : c.in-Some.device ≡ device = label_is (is_label text) c.in-Some.device text c.in-Some.ensures ∙ c.as_bytes.ensures.value in
    let past : c.unwrap_or.result ≡ past_in c.args.past.now device =
    c.unwrap_or.ensures ∙ ap (λ (o : Option ℕ). unwrap_or o 0) (c.copied.ensures ∙ c.get.ensures.value) ∙ ap (past_in c.args.past.now) label in
    subst (IsPast points orders device) (sym past) (right device)
