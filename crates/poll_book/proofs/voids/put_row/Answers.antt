use Rattle.std.proofs.Common.{ap, ◌∙◌}
use Rattle.std.specs.Prelude.{is_some}
use Rattle.poll_book.specs.Changes.{void_key}
use Rattle.poll_book.specs.Tables.{key_cmp}
use Rattle.poll_book.proofs.Entries.{insert-put}
use Rattle.poll_book.proofs.Voided.{same_pairs}
use Rattle.poll_book.proofs.voids.put_row.Goals as goal

pub returns-in-Ok-Some-clause-put : goal.returns-in-Ok-Some-clause-put
returns-in-Ok-Some-clause-put c = c.in-Ok-Some.ensures.entries ∙ insert-put key_cmp c.args.voids.now.entries (void_key c.args.row) tt

pub returns-in-Ok-Some-clause-new : goal.returns-in-Ok-Some-clause-new
returns-in-Ok-Some-clause-new c = same_pairs c.insert.new.self.entries c.args.voids.now.entries (c.in-Ok-Some.ensures.keys_stay (ap is_some c.in-Ok-Some.field-0-is))

pub returns-in-Ok-None-clause-put : goal.returns-in-Ok-None-clause-put
returns-in-Ok-None-clause-put c = c.in-Ok-None.ensures.entries ∙ insert-put key_cmp c.args.voids.now.entries (void_key c.args.row) tt

pub returns-in-Ok-None-clause-new : goal.returns-in-Ok-None-clause-new
returns-in-Ok-None-clause-new c = c.in-Ok-None.ensures.entries ∙ insert-put key_cmp c.args.voids.now.entries (void_key c.args.row) tt
