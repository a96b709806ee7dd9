use Rattle.std.proofs.Common.{sym}
use Rattle.sqlite_value.specs.Value.{owned}
use Rattle.poll_book.specs.Callers.{is_key}
use Rattle.office_store.proofs.Spoken.{no_text, word_is_text}
use Rattle.office_store.proofs.requests.key_of.Goals as goal

pub returns-in-None : goal.returns-in-None
returns-in-None c = sym (no_text is_key (word_is_text 64) (owned c.args.value) c.in-None.ensures)
