use Rattle.std.proofs.Common.{◌≡◌, false, ap, subst, ◌∙◌}
use Rattle.std.specs.Prelude.{IfSome}
use Rattle.std.specs.BTreeMap.{is_at}
use Rattle.std.specs.Map.{remove_entry}
use Rattle.poll_book.specs.Changes.{void_key, with_voided}
use Rattle.poll_book.specs.Tables.{is_void, key_cmp}
use Rattle.poll_book.proofs.Voided.{taken_again}
use Rattle.poll_book.proofs.voids.take_void.Goals as goal

pub returns-in-Some : goal.returns-in-Some
returns-in-Some c before fresh put =
    let row = c.in-Some.row in
    c.remove.ensures.entries
    ∙ ap (remove_entry (is_at (key_cmp (void_key row)))) (put ∙ ap (λ o. with_voided o before) c.in-Some.is)
    ∙ taken_again (void_key row) before (subst (λ o. IfSome o (λ r. is_void before (void_key r) ≡ false)) c.in-Some.is fresh)
