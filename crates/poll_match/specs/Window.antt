-- The last 65,536 queries of each open connection, by their numbers.
use Rattle.std.specs.Prelude.{◌≡◌, ◌≢◌, ℕ, zero, suc, ◌+◌, ◌-◌, ◌%◌, ◌<◌, ◌≤◌, Bool, not, ◌==◌, List, [], ◌∷◌, ◌++◌, length, drop, slice_get, find, is_none, ◌&&◌, true, false, Option, Some, None, option_map, if◌then◌else◌, nat_lt, nat_le, get_or}
use Rattle.std.specs.List.{position}
use Rattle.mb_pdu.specs.Grammar.{spells}
use Rattle.mb_pdu.specs.declared.reply.Reply.{Reply}
use Rattle.mb_pdu.specs.Replies.{answers, spells_reply}
use Rattle.mb_mbap.specs.declared.frame.Frame.{Frame}
use Rattle.poll_match.specs.declared.asked.Asked.{Asked}
use Rattle.poll_match.specs.declared.asked.Matched.{Matched}
use Rattle.poll_match.specs.declared.error.MatchError.{MatchError}
use Rattle.poll_match.specs.declared.error.MatchError.TheVariants.{NoConnection, NoQuery, WrongUnit, Repeat, WrongReply, Exhausted}
use Rattle.poll_match.specs.Queries.{request_of, unit_id_of}

-- an open connection: its number, its line, how many queries it made, and the last 65,536 of them
pub record Open : Type 0 where
  pub number : ℕ
  pub line : ℕ
  pub made : ℕ
  pub last : List Matched

-- at most the last 65,536 of a list
abbrev pub last_of : {A : Type 0} → List A → List A
last_of xs = drop (length xs - 65536) xs

-- the number of the oldest query that is kept
abbrev pub first_number : Open → ℕ
first_number on = on.made - 65536

-- n is the number of a kept query
abbrev pub IsKept : Open → ℕ → Type 0
IsKept on n = (n < on.made) × (on.made ≤ n + 65536)

-- the kept query of this number
abbrev pub query_at : Open → ℕ → Option Matched
query_at on n = if nat_lt n (first_number on) then None else slice_get on.last (n - first_number on)

-- the newest of so many queries whose number has this remainder; it is among the last 65,536
abbrev pub numbered : ℕ → ℕ → Option ℕ
numbered transaction zero = None
numbered transaction (suc n) = if n % 65536 == transaction then Some n else numbered transaction n

-- ---- the open connections

-- the open connection of this number
abbrev pub held : ℕ → List Open → Option Open
held conn all = find (λ (on : Open). on.number == conn) all

-- no two connections have one number
abbrev pub are_apart : List Open → Bool
are_apart [] = true
are_apart (on ∷ rest) = is_none (held on.number rest) && are_apart rest

-- a connection changes so, and the others stay
pub record Changes (conn : ℕ) (change : Option Open → Option Open) (old new : List Open) : Type 0 where
  pub that : held conn new ≡ change (held conn old)
  pub others : (other : ℕ) → other ≢ conn → held other new ≡ held other old

-- a connection of a line that made no query
abbrev pub fresh : ℕ → ℕ → Option Open → Option Open
fresh conn line former = Some (record { number = conn; line = line; made = 0; last = [] })

abbrev pub closed : Option Open → Option Open
closed former = None

-- one query more, which takes the next number
abbrev pub with_next : Asked → Open → Open
with_next asked on = record on { made = on.made + 1; last = last_of (on.last ++ record { asked = asked; settled = false } ∷ []) }

abbrev pub with_query : Asked → Option Open → Option Open
with_query asked former = option_map (with_next asked) former

-- the query at a place answered
abbrev pub settled_at : ℕ → List Matched → List Matched
settled_at place [] = []
settled_at zero (query ∷ rest) = record query { settled = true } ∷ rest
settled_at (suc place) (query ∷ rest) = query ∷ settled_at place rest

abbrev pub with_settled : ℕ → Open → Open
with_settled number on = record on { last = settled_at (number - first_number on) on.last }

abbrev pub with_answer : ℕ → Option Open → Option Open
with_answer number former = option_map (with_settled number) former

-- the connection is open, and n is the number of one of its kept queries
abbrev pub KeepsQuery : Option Open → ℕ → Type 0
KeepsQuery None n = ⊥
KeepsQuery (Some on) n = IsKept on n

-- ---- the query of a frame

abbrev pub query_refusal : Matched → Frame → Option MatchError
query_refusal query frame =
    if not (frame.unit_id == unit_id_of query.asked) then Some WrongUnit
    else if query.settled then Some Repeat
    else if not (answers (request_of query.asked) frame.unit) then Some WrongReply
    else None

abbrev pub named_refusal : Option Matched → Frame → Option MatchError
named_refusal None frame = Some NoQuery
named_refusal (Some query) frame = query_refusal query frame

abbrev pub number_refusal : Open → Option ℕ → Frame → Option MatchError
number_refusal on None frame = Some NoQuery
number_refusal on (Some number) frame = named_refusal (query_at on number) frame

-- the first refusal that holds, if one does
abbrev pub refusal : Option Open → Frame → Option MatchError
refusal None frame = Some NoConnection
refusal (Some on) frame = number_refusal on (numbered frame.transaction on.made) frame

-- a frame names this query of a connection, which isn't answered, and its unit is this reply to it
pub record Names (former : Option Open) (frame : Frame) (number : ℕ) (asked : Asked) (reply : Reply) : Type 0 where
  pub on : Open
  pub is_open : former ≡ Some on
  pub numbered_so : numbered frame.transaction on.made ≡ Some number
  pub query : query_at on number ≡ Some (record { asked = asked; settled = false })
  pub unit_id : frame.unit_id ≡ unit_id_of asked
  pub spelled : spells_reply (request_of asked) reply frame.unit

-- ---- a query that goes out

-- the frame of the next query of a connection
pub record IsNextFrame (asked : Asked) (former : Option Open) (frame : Frame) : Type 0 where
  pub on : Open
  pub is_open : former ≡ Some on
  pub transaction : frame.transaction ≡ on.made % 65536
  pub unit_id : frame.unit_id ≡ unit_id_of asked
  pub unit : spells (request_of asked) frame.unit

-- the first refusal of a next query that holds, but for memory
abbrev pub next_refusal : Option Open → Option MatchError
next_refusal None = Some NoConnection
next_refusal (Some on) = if nat_le 4294967295 on.made then Some Exhausted else None

-- ---- lines

abbrev pub line_of : Option Open → Option ℕ
line_of former = option_map (λ (on : Open). on.line) former

abbrev pub made_of : Option Open → Option ℕ
made_of former = option_map (λ (on : Open). on.made) former

-- the least number of the open connections of a line
pub record IsLeastOf (line : ℕ) (all : List Open) (conn : ℕ) : Type 0 where
  pub there : line_of (held conn all) ≡ Some line
  pub least : (other : ℕ) → line_of (held other all) ≡ Some line → conn ≤ other

abbrev pub greater : ℕ → ℕ → ℕ
greater a b = if nat_le a b then b else a

-- the greatest number of these connections, 0 where there is none
abbrev pub greatest_of : List Open → ℕ
greatest_of [] = 0
greatest_of (on ∷ rest) = greater on.number (greatest_of rest)

-- the place of the open connection of this number
abbrev pub place : ℕ → List Open → Option ℕ
place conn all = position (λ (on : Open). on.number == conn) all

-- the lesser of a number and the least so far
abbrev pub lesser : Option ℕ → ℕ → ℕ
lesser None number = number
lesser (Some least) number = if nat_le least number then least else number

-- the least number of the connections of a line, in a list, or none where the list has none
abbrev pub LeastIn : ℕ → List Open → Option ℕ → Type 0
LeastIn line all None = (k : ℕ) (d : Open) → k < length all → (get_or all k d).line ≡ line → ⊥
LeastIn line all (Some number) =
    ((k : ℕ) × (k < length all) × ((d : Open) → ((get_or all k d).line ≡ line) × ((get_or all k d).number ≡ number)))
    × ((k : ℕ) (d : Open) → k < length all → (get_or all k d).line ≡ line → number ≤ (get_or all k d).number)
