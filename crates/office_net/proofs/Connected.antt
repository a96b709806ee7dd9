-- One connection, from what was read to what was written.
use Rattle.std.proofs.Common.{◌≡◌, ℕ, inl, inr, List, Option, Some, None, Result, Ok, Err, refl}
use Rattle.std.specs.Prelude.{IsErr, MatchResult, String, string_bytes}
use Rattle.std.specs.declared.alloc.Global.{Global}
use Rattle.std.specs.Io.KnownBytes.{Appends}
use Rattle.poll_book.specs.declared.fault.StoreFault.{StoreFault}
use Rattle.poll_book.specs.Tables.{Tables}
use Rattle.office_core.specs.History.{History}
use Rattle.office_http.specs.declared.heard.Heard.{Heard}
use Rattle.office_http.specs.Heard.{meaning_of}
use Rattle.office_core.specs.Following.{Stays}
use Rattle.office_net.specs.Serving.{Answers, Breaks, Hears, Serves, Unanswered, written_for}

module _ (stood stands : History → Type 0) (might may : Tables → Type 0) (ended : Type 0) (unread left : Option (List ℕ)) where
  -- what was answered is what was written
  pub serves : (wrote writes : Option (List ℕ)) (heard : Option Heard) (reply : Result (String Global) StoreFault) → Hears ended unread left heard
      → ((asked : Heard) → heard ≡ Some asked → MatchResult reply (λ text. Answers stood stands might may (meaning_of asked) (string_bytes text)) (λ _. Unanswered stood stands might may (meaning_of asked)))
      → (heard ≡ None → IsErr reply × Stays stood stands might may) → Appends wrote writes (written_for reply) → Serves stood stands might may ended unread left wrote writes
  serves wrote writes (Some asked) (Ok text) hears known unknown written = record {
    bytes = hears.bytes;
    read = hears.read;
    replied = inl (record { meaning = meaning_of asked; heard = hears.asked asked refl; text = string_bytes text; answers = known asked refl; written = written });
  }
  serves wrote writes (Some asked) (Err fault) hears known unknown written = record {
    bytes = hears.bytes;
    read = hears.read;
    replied = inr (inr (record { meaning = meaning_of asked; heard = hears.asked asked refl; unanswered = known asked refl }), written);
  }
  serves wrote writes None (Ok text) hears known unknown written = let bad = (unknown refl).0 in absurd (cc)
  serves wrote writes None (Err fault) hears known unknown written = record {
    bytes = hears.bytes;
    read = hears.read;
    replied = inr (inl (unknown refl).1, written);
  }

  -- what was done stands, whether or not it was written
  pub breaks : (heard : Option Heard) (reply : Result (String Global) StoreFault) → Hears ended unread left heard
      → ((asked : Heard) → heard ≡ Some asked → MatchResult reply (λ text. Answers stood stands might may (meaning_of asked) (string_bytes text)) (λ _. Unanswered stood stands might may (meaning_of asked)))
      → (heard ≡ None → IsErr reply × Stays stood stands might may) → Breaks stood stands might may ended unread left
  breaks (Some asked) (Ok text) hears known unknown = record {
    bytes = hears.bytes;
    read = hears.read;
    came = inr (record { meaning = meaning_of asked; heard = hears.asked asked refl; unanswered = inr (known asked refl).acts });
  }
  breaks (Some asked) (Err fault) hears known unknown = record {
    bytes = hears.bytes;
    read = hears.read;
    came = inr (record { meaning = meaning_of asked; heard = hears.asked asked refl; unanswered = known asked refl });
  }
  breaks None (Ok text) hears known unknown = let bad = (unknown refl).0 in absurd (cc)
  breaks None (Err fault) hears known unknown = record {
    bytes = hears.bytes;
    read = hears.read;
    came = inl (unknown refl).1;
  }
