-- Which histories can be.
use Rattle.std.specs.Prelude.{◌≡◌, ◌⊎◌, ℕ, ◌+◌, ◌%◌, ◌<◌, ◌≤◌, ℤ, pos, negsuc, Bool, true, false, ◌&&◌, ◌==◌, [], ◌∷◌, length, Some, None, IsSome, slice_get, ⊤}
use Rattle.mb_pdu.specs.Replies.{IsBytes}
use Rattle.mb_mbap.specs.declared.frame.Frame.{Frame}
use Rattle.point_list.specs.Sites.{IsSound}
use Rattle.office_core.specs.Sites.{has_devices}
use Rattle.poll_book.specs.Callers.{is_caller, is_key}
use Rattle.poll_book.specs.Requests.{RequestKey}
use Rattle.office_core.specs.Queries.{Query, unit_id_of, fits}
use Rattle.office_core.specs.History.{Happening, Restart, Load, Order, Void, Open, Ask, Send, Reply, Noise, History, points, open_line, asked}

-- a frame answers a query: its unit identifier is the query's, and its unit spells a reply to the request
abbrev pub frame_answers : Query → Frame → Bool
frame_answers query frame = frame.unit_id == unit_id_of query && fits query frame.unit

-- no frame but a reply answers one of the last 65,536 queries of an open connection
abbrev pub IsNoise : History → ℕ → Frame → Type 0
IsNoise before c frame =
    (open_line before c ≡ None)
    ⊎ ((n : ℕ) (query : Query) → slice_get (asked before c) n ≡ Some query → length (asked before c) ≤ n + 65536
    → n % 65536 ≡ frame.transaction → frame_answers query frame ≡ false)

-- a reply comes over its open connection, after its query and before 65,536 later ones
abbrev pub IsTimely : History → ℕ → ℕ → Type 0
IsTimely before c n = IsSome (open_line before c) × (n < length (asked before c)) × (length (asked before c) ≤ n + 65536)

-- a caller's name and a key
abbrev pub AreWords : RequestKey → Type 0
AreWords key = (is_caller key.0 ≡ true) × (is_key key.1 ≡ true)

-- a number of 128 bits with sign
abbrev pub IsNumber : ℤ → Type 0
IsNumber (pos n) = n ≤ 170141183460469231731687303715884105727
IsNumber (negsuc n) = n ≤ 170141183460469231731687303715884105727

-- what may happen after that history. A site has the devices of the points that were accepted
abbrev pub MayHappen : History → Happening → Type 0
MayHappen before (Restart site) = IsSound site × (has_devices site (points before) ≡ true)
MayHappen before (Load edition caller key list) = IsBytes list × AreWords (caller, key)
MayHappen before (Order caller key point value) = IsBytes point × IsNumber value × AreWords (caller, key)
MayHappen before (Void caller key point slot) = IsBytes point × (slot ≤ 4294967295) × AreWords (caller, key)
MayHappen before (Open line) = IsBytes line
MayHappen before (Ask c device slot read) = IsBytes device × (c ≤ 4294967295) × (slot ≤ 4294967295)
MayHappen before (Send c number) = (c ≤ 4294967295) × (number ≤ 4294967295)
MayHappen before (Reply c n unit) = IsBytes unit × IsTimely before c n
MayHappen before (Noise c frame) = IsBytes frame.unit × IsNoise before c frame

abbrev pub is_restart : Happening → Bool
is_restart (Restart site) = true
is_restart happening = false

-- it begins with a Restart, and each event may happen where it stands
abbrev pub Legal : History → Type 0
Legal [] = ⊤
Legal (happening ∷ before) = MayHappen before happening × (before ≡ [] → is_restart happening ≡ true) × Legal before
