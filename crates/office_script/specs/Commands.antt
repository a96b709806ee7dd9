-- What a line asks of the office.
use Rattle.std.specs.Prelude.{ℕ, ℤ, List, [], ◌∷◌, ◌++◌, ◌&&◌, Option, Some, None, if◌then◌else◌, length, ◌==◌, codes, decimal, drop, take, ⊤}
use Rattle.std.specs.Char.{is_ascii}
use Rattle.std.specs.List.{list_all}
use Rattle.std.specs.Str.{bytes_eq}
use Rattle.mb_mbap.specs.declared.frame.Frame.{Frame}
use Rattle.sunspec.specs.Digits.{number_within}
use Rattle.read_planner.specs.declared.Read.{Read}
use Rattle.office_core.specs.declared.event.Event.{Event}
use Rattle.office_core.specs.declared.event.Event.TheVariants.{Load, Order, Void, Open, Ask, Send, Arrive, Restart}
use Rattle.office_script.specs.declared.command.Verb.{Verb}
use Rattle.office_script.specs.declared.command.Verb.TheVariants as verb
use Rattle.office_core.specs.Messages.{IsMessage}
use Rattle.office_script.specs.Words.{words_of, word_at, is_text, key_of, value_of, bytes_of}
use Rattle.mb_mbap.specs.Whole.{frame_of}

abbrev pub byte_limit : ℕ
byte_limit = 255

abbrev pub word_limit : ℕ
word_limit = 65535

abbrev pub number_limit : ℕ
number_limit = 4294967295

-- who asks for what a script asks for
abbrev pub caller_name : List ℕ
caller_name = codes "replay"

-- the key of the list on the line of this number
abbrev pub line_key : ℕ → List ℕ
line_key number = codes "p" ++ decimal number

-- the header of a point list, and its end of line
abbrev pub list_header : List ℕ
list_header = codes "name,device,table,address,type,length,scale,role,roll\n"

-- the list of the header and one record
abbrev pub list_with : List ℕ → List ℕ
list_with said = list_header ++ said

-- `point RECORD`: the record is all that follows the space
abbrev pub point_of : ℕ → List ℕ → Option Event
point_of number said = if list_all is_ascii said then Some (Load caller_name (line_key number) (list_with said)) else None

-- an order of a point by any word
abbrev pub ordering : Option (List ℕ) → List ℕ → Option ℤ → Option Event
ordering (Some key) point (Some value) = if is_text point then Some (Order caller_name key point value) else None
ordering _ point _ = None

-- `order KEY POINT VALUE`
abbrev pub order_of : List (List ℕ) → Option Event
order_of words = if length words == 3 then ordering (key_of (word_at words 0)) (word_at words 1) (value_of (word_at words 2)) else None

-- a void of a slot of a point by any word
abbrev pub voiding : Option (List ℕ) → List ℕ → Option ℕ → Option Event
voiding (Some key) point (Some slot) = if is_text point then Some (Void caller_name key point slot) else None
voiding _ point _ = None

-- `void KEY POINT SLOT`
abbrev pub void_of : List (List ℕ) → Option Event
void_of words = if length words == 3 then voiding (key_of (word_at words 0)) (word_at words 1) (number_within number_limit (word_at words 2)) else None

-- `open LINE`
abbrev pub open_of : List (List ℕ) → Option Event
open_of words = if length words == 1 && is_text (word_at words 0) then Some (Open (word_at words 0)) else None

-- the read that three numbers are
abbrev pub read_of : Option ℕ → Option ℕ → Option ℕ → Option Read
read_of (Some function) (Some start) (Some quantity) = Some (record { function = function; span = record { start = start; quantity = quantity } })
read_of _ _ _ = None

abbrev pub asking : Option ℕ → List ℕ → Option ℕ → Option Read → Option Event
asking (Some conn) device (Some slot) (Some read) = if is_text device then Some (Ask conn device slot read) else None
asking _ device _ _ = None

-- `ask CONNECTION DEVICE SLOT FUNCTION START QUANTITY`
abbrev pub ask_of : List (List ℕ) → Option Event
ask_of words =
    if length words == 6
    then asking (number_within number_limit (word_at words 0)) (word_at words 1) (number_within number_limit (word_at words 2))
    (read_of (number_within byte_limit (word_at words 3)) (number_within word_limit (word_at words 4)) (number_within word_limit (word_at words 5)))
    else None

abbrev pub sending : Option ℕ → Option ℕ → Option Event
sending (Some conn) (Some number) = Some (Send conn number)
sending _ _ = None

-- `send CONNECTION ORDER`
abbrev pub send_of : List (List ℕ) → Option Event
send_of words =
    if length words == 2 then sending (number_within number_limit (word_at words 0)) (number_within number_limit (word_at words 1)) else None

abbrev pub frame_in : Option (List ℕ) → Option Frame
frame_in None = None
frame_in (Some bytes) = frame_of bytes

abbrev pub arriving : Option ℕ → Option Frame → Option Event
arriving (Some conn) (Some frame) = Some (Arrive conn frame)
arriving _ _ = None

-- `reply CONNECTION` and the bytes of one whole frame
abbrev pub reply_of : List (List ℕ) → Option Event
reply_of [] = None
reply_of (conn ∷ bytes) = arriving (number_within number_limit conn) (frame_in (bytes_of bytes))

-- `restart`, alone
abbrev pub restart_of : List (List ℕ) → Option Event
restart_of words = if length words == 0 then Some Restart else None

-- the first word is the verb
abbrev pub verb_of : List ℕ → Option Verb
verb_of name =
    if bytes_eq name (codes "open") then Some verb.Open else
    if bytes_eq name (codes "ask") then Some verb.Ask else
    if bytes_eq name (codes "reply") then Some verb.Reply else
    if bytes_eq name (codes "order") then Some verb.Order else
    if bytes_eq name (codes "void") then Some verb.Void else
    if bytes_eq name (codes "send") then Some verb.Send else
    if bytes_eq name (codes "restart") then Some verb.Restart else None

abbrev pub event_for : Verb → List (List ℕ) → Option Event
event_for verb.Open words = open_of words
event_for verb.Ask words = ask_of words
event_for verb.Reply words = reply_of words
event_for verb.Order words = order_of words
event_for verb.Void words = void_of words
event_for verb.Send words = send_of words
event_for verb.Restart words = restart_of words

abbrev pub event_by : Option Verb → List (List ℕ) → Option Event
event_by None words = None
event_by (Some asked) words = event_for asked words

abbrev pub event_of_words : List (List ℕ) → Option Event
event_of_words [] = None
event_of_words (name ∷ rest) = event_by (verb_of name) rest

-- what follows `point` and its space
abbrev pub record_in : List ℕ → Option (List ℕ)
record_in line = if bytes_eq (take 6 line) (codes "point ") then Some (drop 6 line) else None

abbrev pub event_with : ℕ → Option (List ℕ) → List (List ℕ) → Option Event
event_with number (Some said) words = point_of number said
event_with number None words = event_of_words words

-- the event that the line of this number asks for
abbrev pub event_of : ℕ → List ℕ → Option Event
event_of number line = event_with number (record_in line) (words_of line)

-- what a script can make come to an office: a message of a caller or a device, or that the office begins anew
abbrev pub Comes : Event → Type 0
Comes Restart = ⊤
Comes seen = IsMessage seen
