-- The tokens of sources: a line's is its place, a caller's comes behind all of those.
use Rattle.std.specs.Prelude.{ℕ, ◌+◌, ◌<◌}
use Rattle.mio.specs.declared.token.Token.{Token}
use Rattle.run_beat.specs.declared.sockets.Source.{Source}
use Rattle.run_beat.specs.declared.sockets.Source.TheVariants.{Line, Caller}

-- there are 64 places of lines, and as many of callers
abbrev pub IsPlace : Source → Type 0
IsPlace (Line place) = place < 64
IsPlace (Caller place) = place < 64

abbrev pub number_of : Source → ℕ
number_of (Line place) = place
number_of (Caller place) = 64 + place

abbrev pub token_at : ℕ → Token
token_at number = record { 0 = number }
