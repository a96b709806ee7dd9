use Rattle.std.proofs.Common.{◌≡◌, sym, subst, List, ℕ, true}
use Rattle.poll_book.specs.Callers.{is_key}
use Rattle.poll_book.proofs.Callers.{word_is_text}
use Rattle.poll_book.proofs.caller.Key.as_text.Goals as goal

pub from_utf8_unchecked-requires : goal.from_utf8_unchecked-requires
from_utf8_unchecked-requires c =
    let P : List ℕ → Type 0 = λ text. is_key text ≡ true in
    word_is_text 64 c.as_bytes.result.now (subst P (sym c.as_bytes.ensures.value) c.as_bytes.ensures.key)
