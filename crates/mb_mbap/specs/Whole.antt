-- Bytes that are one whole frame (Messaging on TCP/IP V1.0b, section 3.1.3).
use Rattle.std.specs.Prelude.{◌≡◌, ℕ, ◌<◌, List, ◌++◌, Bool, ◌&&◌, Option, Some, None, if◌then◌else◌, nat_le, length, drop, slice_index}
use Rattle.std.specs.Str.{bytes_eq}
use Rattle.byteorder.specs.Endian.{big_number}
use Rattle.mb_mbap.specs.declared.frame.Frame.{Frame}
use Rattle.mb_mbap.specs.declared.fault.FrameFault.{FrameFault}
use Rattle.mb_mbap.specs.declared.fault.FrameFault.TheVariants.{NotModbus, BadLength, Short, Long, Failed}
use Rattle.mb_mbap.specs.Stream.{spelled, IsFrame, IsOpen, fault_of}

-- more bytes follow a frame
abbrev pub IsLonger : List ℕ → Type 0
IsLonger bytes = (f : Frame) × (rest : List ℕ) × IsFrame f × (0 < length rest) × (bytes ≡ spelled f ++ rest)

-- why bytes are no frame: they are a part of one, more than one, or begin with a bad header
abbrev pub IsNoFrame : List ℕ → FrameFault → Type 0
IsNoFrame bytes Short = IsOpen bytes
IsNoFrame bytes Long = IsLonger bytes
IsNoFrame bytes NotModbus = fault_of bytes ≡ Some NotModbus
IsNoFrame bytes BadLength = fault_of bytes ≡ Some BadLength
IsNoFrame bytes Failed = ⊥

-- ---- computed

-- the transaction identifier, unit identifier and unit that stand in these bytes
abbrev pub fields_in : List ℕ → Frame
fields_in bytes = record { transaction = big_number 2 bytes; unit_id = slice_index bytes 6; unit = drop 7 bytes }

-- 8 to 260 bytes, which the fields that stand in them spell again
abbrev pub is_whole : List ℕ → Bool
is_whole bytes = nat_le 8 (length bytes) && (nat_le (length bytes) 260 && bytes_eq (spelled (fields_in bytes)) bytes)

-- the frame that bytes are, no less and no more
abbrev pub frame_of : List ℕ → Option Frame
frame_of bytes = if is_whole bytes then Some (fields_in bytes) else None
