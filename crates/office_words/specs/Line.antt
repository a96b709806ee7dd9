-- The command line of the program.
use Rattle.std.specs.Prelude.{List, [], ◌∷◌, ◌++◌, true, Some, codes}
use Rattle.clap.specs.Words.{App, Rule, Shape, Text, app_of, new_app, new_rule, with_rule, with_subcommand}
use Rattle.clap.specs.declared.builder.command.Command.{Command}

-- ---- building

-- what a parse reads of a command
unfoldable pub line_of : Command → App
line_of command = app_of command

unfoldable pub named : Text → App
named name = new_app name

-- with one more option or place
unfoldable pub with_value : App → Rule → App
with_value a r = with_rule a r

-- with one more command
unfoldable pub with_line : App → App → App
with_line a line = with_subcommand a line.top

-- ---- options and places

-- `--name VALUE`, which must be there
unfoldable pub option : Text → Rule
option name = record (new_rule name) { long = Some name; value_names = 1; required = true }

-- `--name VALUE`, which may be missing
unfoldable pub spare : Text → Rule
spare name = record (new_rule name) { long = Some name; value_names = 1 }

-- `--name VALUE`, with a value where it is missing
unfoldable pub preset : Text → Text → Rule
preset name value = record (new_rule name) { long = Some name; value_names = 1; defaults = value ∷ [] }

-- a word at its place, which must be there
unfoldable pub place : Text → Rule
place name = record (new_rule name) { value_names = 1; required = true }

abbrev pub store : Rule
store = option (codes "store")

abbrev pub site : Rule
site = option (codes "site")

abbrev pub caller : Rule
caller = option (codes "caller")

abbrev pub key : Rule
key = option (codes "key")

abbrev pub timeout : Rule
timeout = preset (codes "timeout") (codes "5")

abbrev pub every : Rule
every = preset (codes "every") (codes "60")

abbrev pub bind : Rule
bind = preset (codes "bind") (codes "127.0.0.1")

abbrev pub port : Rule
port = preset (codes "port") (codes "8080")

-- ---- the commands

abbrev pub with_values : App → List Rule → App
with_values a [] = a
with_values a (r ∷ rs) = with_values (with_value a r) rs

unfoldable pub replay_line : App
replay_line = named (codes "replay")

unfoldable pub load_line : App
load_line = with_values (named (codes "load")) (store ∷ site ∷ timeout ∷ caller ∷ key ∷ place (codes "list") ∷ [])

unfoldable pub plan_line : App
plan_line = with_values (named (codes "plan")) (site ∷ place (codes "list") ∷ [])

unfoldable pub discover_line : App
discover_line = with_values (named (codes "discover")) (site ∷ timeout ∷ place (codes "device") ∷ [])

unfoldable pub poll_line : App
poll_line = with_values (named (codes "poll")) (store ∷ site ∷ timeout ∷ option (codes "slot") ∷ place (codes "line") ∷ [])

unfoldable pub order_line : App
order_line = with_values (named (codes "order")) (store ∷ site ∷ timeout ∷ caller ∷ key ∷ place (codes "point") ∷ place (codes "value") ∷ [])

unfoldable pub void_line : App
void_line = with_values (named (codes "void")) (store ∷ site ∷ timeout ∷ caller ∷ key ∷ place (codes "point") ∷ place (codes "slot") ∷ [])

unfoldable pub report_line : App
report_line = with_values (named (codes "report")) (store ∷ site ∷ timeout ∷ place (codes "point") ∷ place (codes "from") ∷ place (codes "to") ∷ [])

unfoldable pub serve_line : App
serve_line = with_values (named (codes "serve")) (store ∷ site ∷ timeout ∷ option (codes "port") ∷ spare (codes "count") ∷ [])

unfoldable pub sim_line : App
sim_line = with_values (named (codes "sim")) (option (codes "image") ∷ spare (codes "port") ∷ [])

unfoldable pub migrate_line : App
migrate_line = with_values (named (codes "migrate")) (store ∷ timeout ∷ [])

unfoldable pub run_line : App
run_line =
    with_values (named (codes "run")) (store ∷ site ∷ timeout ∷ every ∷ bind ∷ port ∷ [])

-- ---- the program

abbrev pub with_lines : App → List App → App
with_lines a [] = a
with_lines a (line ∷ lines) = with_lines (with_line a line) lines

-- for scripts and point lists
abbrev pub list_lines : List App
list_lines = replay_line ∷ load_line ∷ plan_line ∷ []

-- that ask devices
abbrev pub device_lines : List App
device_lines = discover_line ∷ poll_line ∷ order_line ∷ []

-- that tell and play
abbrev pub answer_lines : List App
answer_lines = report_line ∷ serve_line ∷ sim_line ∷ []

-- that put right what is stored, and the one that stays up
abbrev pub store_lines : List App
store_lines = void_line ∷ migrate_line ∷ run_line ∷ []

unfoldable pub with_commands : App → App
with_commands a = with_lines a (list_lines ++ device_lines ++ answer_lines ++ store_lines)

-- no word is the program's own name, and a command must be there
abbrev pub plain_top : Shape → Shape
plain_top s = record s { no_binary_name = true; subcommand_required = true }

-- no word asks for help
abbrev pub without_help_shape : Shape → Shape
without_help_shape s = record s { disable_help_flag = true; disable_help_subcommand = true }

-- `--version` asks for the version
abbrev pub with_version_shape : Shape → Shape
with_version_shape s = record s { has_version = true }

unfoldable pub bare_line : App
bare_line = record (new_app (codes "office")) { top = plain_top (new_app (codes "office")).top }

unfoldable pub without_help : App → App
without_help a = record a { top = without_help_shape a.top }

unfoldable pub with_version : App → App
with_version a = record a { top = with_version_shape a.top }

-- the command line of the jobs
unfoldable pub office_line : App
office_line = with_commands (without_help bare_line)

-- the same, where words may ask for help and for the version
unfoldable pub help_line : App
help_line = with_commands (with_version bare_line)
