use Rattle.std.proofs.Common.{◌∙◌}
use Rattle.poll_book.specs.declared.requests.KeptRequest.{KeptRequest}
use Rattle.poll_book.specs.Requests.{request_cmp}
use Rattle.poll_book.proofs.Entries.{insert-put}
use Rattle.poll_book.proofs.asked.put_row.Goals as goal

pub returns-in-Ok-clause-put : goal.returns-in-Ok-clause-put
returns-in-Ok-clause-put c =
    let row = c.args.row in
    let request : KeptRequest = record { body = row.body; outcome = row.outcome } in
    c.in-Ok.ensures.entries ∙ insert-put request_cmp c.args.requests.now.entries (row.caller, row.key) request
