-- One request over HTTP, from the bytes that are read to the bytes that are written.
use Rattle.std.specs.Prelude.{◌≡◌, ◌⊎◌, ℕ, Bool, true, false, List, ◌∷◌, Option, Some, None, Result, Ok, Err, String, string_bytes}
use Rattle.std.specs.declared.alloc.Global.{Global}
use Rattle.std.specs.Io.KnownBytes.{Appends, Consumes}
use Rattle.poll_book.specs.declared.fault.StoreFault.{StoreFault}
use Rattle.poll_book.specs.Tables.{Tables, Within}
use Rattle.office_core.specs.History.{Happening, History, tables}
use Rattle.office_core.specs.Leavings.{LeftAfter}
use Rattle.office_http.specs.declared.heard.Heard.{Heard}
use Rattle.office_http.specs.declared.routes.Routes.TheVariants.{Basic}
use Rattle.office_http.specs.Answers.{unavailable_text}
use Rattle.office_http.specs.Heard.{meaning_of}
use Rattle.office_http.specs.Deciding.{Decides, Means}
use Rattle.office_http.specs.Meanings.{Meaning}
use Rattle.office_net.specs.declared.serving.ServeFault.{ServeFault}
use Rattle.office_net.specs.declared.serving.ServeFault.TheVariants as fault
use Rattle.office_core.specs.Following.{Stays}
use Rattle.office_net.specs.Replies.{after_request, event_of, reply_text}

-- what a crash may leave after what happens, which the store may have refused
abbrev pub LeftSo : (Tables → Type 0) → History → Option Happening → Bool → Tables → Type 0
LeftSo might now None refused = might
LeftSo might now (Some happening) refused = LeftAfter might (tables now) (tables (happening ∷ now)) refused

-- what the request makes happen happened
pub record Acts (stood stands : History → Type 0) (might may : Tables → Type 0) (meaning : Meaning) : Type 0 where
  pub follows : (now : History) → stood now → stands (after_request meaning now)
  pub leaves : (now : History) → stood now → Within may (LeftSo might now (event_of meaning) false)

-- the store refused: nothing happened
pub record Misses (stood stands : History → Type 0) (might may : Tables → Type 0) (meaning : Meaning) : Type 0 where
  pub follows : (now : History) → stood now → stands now
  pub leaves : (now : History) → stood now → Within may (LeftSo might now (event_of meaning) true)

-- the request was done, and this is its answer
pub record Answers (stood stands : History → Type 0) (might may : Tables → Type 0) (meaning : Meaning) (text : List ℕ) : Type 0 where
  pub acts : Acts stood stands might may meaning
  pub answered : (now : History) → stood now → text ≡ reply_text now meaning

-- the store or memory refused: before the request was done, or after
abbrev pub Unanswered : (History → Type 0) → (History → Type 0) → (Tables → Type 0) → (Tables → Type 0) → Meaning → Type 0
Unanswered stood stands might may meaning = Misses stood stands might may meaning ⊎ Acts stood stands might may meaning

-- ---- what was read

-- whatever follows these bytes, that is asked for of the basic routes; or it is where the reader has ended
abbrev pub IsHeard : Type 0 → List ℕ → Meaning → Type 0
IsHeard ended bytes meaning = Decides Basic bytes meaning ⊎ (ended × Means Basic bytes meaning)

-- these bytes were read; if memory wasn't refused, that is asked for in them
pub record Hears (ended : Type 0) (unread left : Option (List ℕ)) (heard : Option Heard) : Type 0 where
  pub bytes : List ℕ
  pub read : Consumes unread left bytes
  pub asked : (asked : Heard) → heard ≡ Some asked → IsHeard ended bytes (meaning_of asked)

-- ---- the connection

-- what is written where that was answered, or couldn't be
abbrev pub written_for : Result (String Global) StoreFault → List ℕ
written_for (Ok text) = string_bytes text
written_for (Err refused) = unavailable_text

-- what was asked for in the bytes was done and answered, and nothing else was written
pub record Replies (follows follows' : History → Type 0) (might may : Tables → Type 0) (ended : Type 0) (bytes : List ℕ) (wrote writes : Option (List ℕ)) : Type 0 where
  pub meaning : Meaning
  pub heard : IsHeard ended bytes meaning
  pub text : List ℕ
  pub answers : Answers follows follows' might may meaning text
  pub written : Appends wrote writes text

-- what was asked for wasn't answered: it was done or not
pub record Unmet (follows follows' : History → Type 0) (might may : Tables → Type 0) (ended : Type 0) (bytes : List ℕ) : Type 0 where
  pub meaning : Meaning
  pub heard : IsHeard ended bytes meaning
  pub unanswered : Unanswered follows follows' might may meaning

-- the store or memory refused, while the request was read or after, and that was written and nothing else
abbrev pub IsUnavailable : (History → Type 0) → (History → Type 0) → (Tables → Type 0) → (Tables → Type 0) → Type 0 → List ℕ → Option (List ℕ) → Option (List ℕ) → Type 0
IsUnavailable follows follows' might may ended bytes wrote writes =
    (Stays follows follows' might may ⊎ Unmet follows follows' might may ended bytes) × Appends wrote writes unavailable_text

-- these bytes were read, and what was asked for in them was answered, or that it couldn't be
pub record Serves (follows follows' : History → Type 0) (might may : Tables → Type 0) (ended : Type 0) (unread left wrote writes : Option (List ℕ)) : Type 0 where
  pub bytes : List ℕ
  pub read : Consumes unread left bytes
  pub replied : Replies follows follows' might may ended bytes wrote writes ⊎ IsUnavailable follows follows' might may ended bytes wrote writes

-- these bytes were read, and nothing happened, or what was asked for in them was done or refused by the store
pub record Breaks (follows follows' : History → Type 0) (might may : Tables → Type 0) (ended : Type 0) (unread left : Option (List ℕ)) : Type 0 where
  pub bytes : List ℕ
  pub read : Consumes unread left bytes
  pub came : Stays follows follows' might may ⊎ Unmet follows follows' might may ended bytes

-- a fault has its cause
abbrev pub IsCausedBy : Type 0 → Type 0 → ServeFault → Type 0
IsCausedBy reader writer fault.Read = reader
IsCausedBy reader writer fault.Write = writer
