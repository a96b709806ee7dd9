use Rattle.std.proofs.Common.{sym}
use Rattle.sqlite_value.specs.Value.{owned}
use Rattle.poll_book.specs.Callers.{is_caller}
use Rattle.office_store.proofs.Spoken.{no_text, word_is_text}
use Rattle.office_store.proofs.requests.caller_of.Goals as goal

pub returns-in-None : goal.returns-in-None
returns-in-None c = sym (no_text is_caller (word_is_text 32) (owned c.args.value) c.in-None.ensures)
