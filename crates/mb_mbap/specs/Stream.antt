-- The frames of a stream (Messaging on TCP/IP, the MBAP header).
use Rattle.std.specs.Prelude.{◌≡◌, ℕ, ◌+◌, ◌<◌, ◌≤◌, ◌⊎◌, List, [], ◌∷◌, ◌++◌, length, All, not, ◌==◌, ◌&&◌, nat_lt, nat_le, if◌then◌else◌, Option, Some, None, drop, IsSome}
use Rattle.std.specs.List.{flat_map}
use Rattle.byteorder.specs.Endian.{big_bytes, big_number}
use Rattle.mb_mbap.specs.declared.frame.Frame.{Frame}
use Rattle.mb_mbap.specs.declared.fault.FrameFault.{FrameFault}
use Rattle.mb_mbap.specs.declared.fault.FrameFault.TheVariants.{NotModbus, BadLength}

-- transaction, protocol 0, length of what follows, unit identifier, unit
abbrev pub spelled : Frame → List ℕ
spelled f = big_bytes 2 f.transaction ++ (0 ∷ 0 ∷ []) ++ big_bytes 2 (length f.unit + 1) ++ f.unit_id ∷ f.unit

-- the numbers of a frame fit their fields, and the unit has 1 to 253 bytes
pub record IsFrame (f : Frame) : Type 0 where
  pub transaction : f.transaction < 65536
  pub unit_id : f.unit_id < 256
  pub not_empty : 0 < length f.unit
  pub short : length f.unit ≤ 253

-- the protocol field and the length field of a header
abbrev pub protocol_of : List ℕ → ℕ
protocol_of xs = big_number 2 (drop 2 xs)

abbrev pub length_of : List ℕ → ℕ
length_of xs = big_number 2 (drop 4 xs)

-- the fault of a header with these fields
unfoldable pub header_fault : ℕ → ℕ → Option FrameFault
header_fault protocol length =
    if not (protocol == 0) then Some NotModbus
    else (if nat_le 2 length && nat_le length 254 then None else Some BadLength)

-- the fault of what begins with a bad header, which six bytes show
unfoldable pub fault_of : List ℕ → Option FrameFault
fault_of xs = if nat_lt (length xs) 6 then None else header_fault (protocol_of xs) (length_of xs)

-- how many bytes have to come before the next judgement
unfoldable pub wanted : List ℕ → ℕ
wanted xs = if nat_lt (length xs) 6 then 6 else 6 + length_of xs

-- less than a frame, with no bad header
pub record IsOpen (xs : List ℕ) : Type 0 where
  pub no_fault : fault_of xs ≡ None
  pub partial : length xs < wanted xs

-- what may follow the frames: a part of a frame, or what begins with a bad header
abbrev pub IsRest : List ℕ → Type 0
IsRest xs = IsOpen xs ⊎ IsSome (fault_of xs)

-- the frames one after another, and then the rest
abbrev pub stream_of : List Frame → List ℕ → List ℕ
stream_of frames rest = flat_map spelled frames ++ rest

-- the stream is these frames, and then this rest
pub record Splits (stream : List ℕ) (frames : List Frame) (rest : List ℕ) : Type 0 where
  pub whole : stream ≡ stream_of frames rest
  pub each : All IsFrame frames
  pub rest_ok : IsRest rest
