-- What is known of a request of which a front came.
use Rattle.std.specs.Prelude.{ℕ, ◌<◌, ⊤, List, length, Option, Some, None}
use Rattle.office_http.specs.declared.heard.Heard.{Heard}
use Rattle.office_http.specs.declared.routes.Routes.{Routes}
use Rattle.office_http.specs.Heard.{meaning_of}
use Rattle.office_http.specs.Deciding.{Decides, Lacks}

-- it is known what is asked for, whatever follows; or no whole request is there
abbrev pub Judges : Routes → List ℕ → Option Heard → Type 0
Judges routes input (Some asked) = Decides routes input (meaning_of asked)
Judges routes input None = Lacks routes input

-- where it isn't known what is asked for, the bytes are fewer than a whole head and a whole body have together
abbrev pub IsShort : List ℕ → Option Heard → Type 0
IsShort input (Some asked) = ⊤
IsShort input None = length input < 270336
