-- What a table of TOML holds at a key, and the document of a text.
use Rattle.std.specs.Prelude.{◌≡◌, ℕ, pos, List, [], ◌∷◌, nat_le, Option, Some, None, if◌then◌else◌}
use Rattle.std.specs.Str.{IsUtf8}
use Rattle.toml.specs.Data.{Data, Items, Members, as_array, as_str, get_member, integer, item, no_items}
use Rattle.toml.specs.Parse.{parse_document}
use Rattle.toml_members.specs.declared.error.MemberError.{MemberError}
use Rattle.toml_members.specs.declared.error.MemberFault.{MemberFault}
use Rattle.toml_members.specs.declared.error.MemberFault.TheVariants.{Missing, OutOfRange, WrongKind}

-- what a second reading makes of what a first one gave
infixl 10 ◌>>=◌
abbrev pub ◌>>=◌ : {A B : Type 0} → Option A → (A → Option B) → Option B
(Some x) >>= f = f x
None >>= f = None

-- the text at a key
unfoldable pub text_at : List ℕ → Members → Option (List ℕ)
text_at key table = get_member key table >>= as_str

-- a whole number up to a limit
abbrev pub number_in : ℕ → Data → Option ℕ
number_in limit (integer (pos n)) = if nat_le n limit then Some n else None
number_in limit _ = None

unfoldable pub number_at : List ℕ → ℕ → Members → Option ℕ
number_at key limit table = get_member key table >>= number_in limit

-- the same where the member may be missing, and is then 0
abbrev pub optional_in : ℕ → Option Data → Option ℕ
optional_in limit None = Some 0
optional_in limit (Some value) = number_in limit value

unfoldable pub optional_at : List ℕ → ℕ → Members → Option ℕ
optional_at key limit table = optional_in limit (get_member key table)

-- the entries of an array
unfoldable pub entries_at : List ℕ → Members → Option Items
entries_at key table = get_member key table >>= as_array

-- the same where the member may be missing, and then has none
abbrev pub optional_entries_in : Option Data → Option Items
optional_entries_in None = Some no_items
optional_entries_in (Some value) = as_array value

unfoldable pub optional_entries_at : List ℕ → Members → Option Items
optional_entries_at key table = optional_entries_in (get_member key table)

-- every entry, read in turn
unfoldable pub each : {A : Type 0} → (Data → Option A) → Items → Option (List A)
each read no_items = Some []
each read (item entry entries) = do
  x ← read entry
  xs ← each read entries
  Some (x ∷ xs)

-- why a member is no text or no array
abbrev pub kind_fault : Option Data → MemberFault
kind_fault None = Missing
kind_fault (Some value) = WrongKind

-- why a member is no number up to a limit
abbrev pub number_fault : Option Data → MemberFault
number_fault None = Missing
number_fault (Some (integer number)) = OutOfRange
number_fault (Some value) = WrongKind

-- an error names the key, and why there is nothing at it
pub record IsFaultOf (fault_of : Option Data → MemberFault) (key : List ℕ) (table : Members) (e : MemberError) : Type 0 where
  pub named : e.key.now ≡ key
  pub fault : e.fault ≡ fault_of (get_member key table)

-- the document of a text
abbrev pub IsDocument : List ℕ → Members → Type 0
IsDocument bytes document = IsUtf8 bytes × (parse_document bytes ≡ Some document)
