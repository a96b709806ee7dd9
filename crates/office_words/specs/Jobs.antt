-- The job that words ask for.
use Rattle.std.specs.Prelude.{◌≡◌, ◌≢◌, ◌⊎◌, ℕ, ℤ, List, [], ◌∷◌, map, ◌&&◌, ◌+◌, nat_le, nat_lt, Option, Some, None, if◌then◌else◌, codes, string_bytes, String, Vec}
use Rattle.std.specs.declared.alloc.Global.{Global}
use Rattle.std.specs.Str.{bytes_eq}
use Rattle.clap.specs.Words.{IsAmong, Kinds, Row, Text, fault_of, first_of, subcommand_of}
use Rattle.clap.specs.declared.error.kind.ErrorKind.{ErrorKind}
use Rattle.clap.specs.declared.error.kind.ErrorKind.TheVariants.{DisplayHelp, DisplayVersion}
use Rattle.poll_book.specs.Tables.{most_apart}
use Rattle.office_words.specs.Line.{help_line, office_line}
use Rattle.office_words.specs.Values.{◌>>=◌, caller_of, if_given, key_of, number_of, period_of, port_of, seconds_of, value_of}
use Rattle.office_words.specs.declared.job.Errand.{Errand}
use Rattle.office_words.specs.declared.job.Errand.TheVariants as errand
use Rattle.office_words.specs.declared.job.Job.{Job}
use Rattle.office_words.specs.declared.job.Job.TheVariants as job

-- an errand in an office, with texts as lists of bytes
pub data ErrandView : Type 0 where
  load : (caller key list : Text) → ErrandView
  poll : (slot : ℕ) (line : Text) → ErrandView
  order : (caller key point : Text) (value : ℤ) → ErrandView
  void : (caller key point : Text) (slot : ℕ) → ErrandView
  report : (point : Text) (from to : ℕ) → ErrandView
  serve : (port : ℕ) (count : Option ℕ) → ErrandView
  run : (every : ℕ) (bind : Text) (port : ℕ) → ErrandView

abbrev pub errand_view : Errand → ErrandView
errand_view (errand.Load caller key list) = load caller key (string_bytes list)
errand_view (errand.Poll slot line) = poll slot (string_bytes line)
errand_view (errand.Order caller key point value) = order caller key (string_bytes point) value
errand_view (errand.Void caller key point slot) = void caller key (string_bytes point) slot
errand_view (errand.Report point from to) = report (string_bytes point) from to
errand_view (errand.Serve port count) = serve port count
errand_view (errand.Run every bind port) = run every (string_bytes bind) port

-- a job, with texts as lists of bytes
pub data JobView : Type 0 where
  replay : JobView
  plan : (site list : Text) → JobView
  discover : (site : Text) (timeout : ℕ) (device : Text) → JobView
  sim : (image : Text) (port : Option ℕ) → JobView
  migrate : (store : Text) (timeout : ℕ) → JobView
  office : (store site : Text) (timeout : ℕ) (does : ErrandView) → JobView

abbrev pub job_view : Job → JobView
job_view job.Replay = replay
job_view (job.Plan site list) = plan (string_bytes site) (string_bytes list)
job_view (job.Discover site timeout device) = discover (string_bytes site) timeout (string_bytes device)
job_view (job.Sim image port) = sim (string_bytes image) port
job_view (job.Migrate store timeout) = migrate (string_bytes store) timeout
job_view (job.Office store site timeout does) = office (string_bytes store) (string_bytes site) timeout (errand_view does)

-- ---- the job of each command, by the values that were matched

-- an errand in the office that the values name
unfoldable pub office_of : List Row → ErrandView → Option JobView
office_of rows does = do
  store ← first_of (codes "store") rows
  site ← first_of (codes "site") rows
  timeout ← first_of (codes "timeout") rows >>= seconds_of
  Some (office store site timeout does)

unfoldable pub load_of : List Row → Option JobView
load_of rows = do
  caller ← first_of (codes "caller") rows >>= caller_of
  key ← first_of (codes "key") rows >>= key_of
  list ← first_of (codes "list") rows
  office_of rows (load caller key list)

unfoldable pub plan_of : List Row → Option JobView
plan_of rows = do
  site ← first_of (codes "site") rows
  list ← first_of (codes "list") rows
  Some (plan site list)

unfoldable pub discover_of : List Row → Option JobView
discover_of rows = do
  site ← first_of (codes "site") rows
  timeout ← first_of (codes "timeout") rows >>= seconds_of
  device ← first_of (codes "device") rows
  Some (discover site timeout device)

unfoldable pub poll_of : List Row → Option JobView
poll_of rows = do
  slot ← first_of (codes "slot") rows >>= number_of
  line ← first_of (codes "line") rows
  office_of rows (poll slot line)

unfoldable pub order_of : List Row → Option JobView
order_of rows = do
  caller ← first_of (codes "caller") rows >>= caller_of
  key ← first_of (codes "key") rows >>= key_of
  point ← first_of (codes "point") rows
  value ← first_of (codes "value") rows >>= value_of
  office_of rows (order caller key point value)

unfoldable pub void_of : List Row → Option JobView
void_of rows = do
  caller ← first_of (codes "caller") rows >>= caller_of
  key ← first_of (codes "key") rows >>= key_of
  point ← first_of (codes "point") rows
  slot ← first_of (codes "slot") rows >>= number_of
  office_of rows (void caller key point slot)

unfoldable pub migrate_of : List Row → Option JobView
migrate_of rows = do
  store ← first_of (codes "store") rows
  timeout ← first_of (codes "timeout") rows >>= seconds_of
  Some (migrate store timeout)

-- the slots are in order, and at most 9,999 apart
unfoldable pub report_of : List Row → Option JobView
report_of rows = do
  point ← first_of (codes "point") rows
  from ← first_of (codes "from") rows >>= number_of
  to ← first_of (codes "to") rows >>= number_of
  if nat_le from to && nat_le to (from + most_apart) then office_of rows (report point from to) else None

unfoldable pub serve_of : List Row → Option JobView
serve_of rows = do
  port ← first_of (codes "port") rows >>= port_of
  count ← if_given number_of (first_of (codes "count") rows)
  office_of rows (serve port count)

-- an answer is waited for for less than a slot
unfoldable pub run_of : List Row → Option JobView
run_of rows = do
  timeout ← first_of (codes "timeout") rows >>= seconds_of
  every ← first_of (codes "every") rows >>= period_of
  bind ← first_of (codes "bind") rows
  port ← first_of (codes "port") rows >>= port_of
  if nat_lt timeout every then office_of rows (run every bind port) else None

unfoldable pub sim_of : List Row → Option JobView
sim_of rows = do
  image ← first_of (codes "image") rows
  port ← if_given port_of (first_of (codes "port") rows)
  Some (sim image port)

-- the job of a command with its matches that does an errand in an office
abbrev pub errand_job_in : Text × List Row → Option JobView
errand_job_in (name, rows) =
    if bytes_eq name (codes "load") then load_of rows
    else if bytes_eq name (codes "poll") then poll_of rows
    else if bytes_eq name (codes "order") then order_of rows
    else if bytes_eq name (codes "void") then void_of rows
    else if bytes_eq name (codes "report") then report_of rows
    else if bytes_eq name (codes "serve") then serve_of rows
    else if bytes_eq name (codes "run") then run_of rows
    else None

-- and of any command
abbrev pub job_in : Text × List Row → Option JobView
job_in (name, rows) =
    if bytes_eq name (codes "replay") then Some replay
    else if bytes_eq name (codes "plan") then plan_of rows
    else if bytes_eq name (codes "discover") then discover_of rows
    else if bytes_eq name (codes "sim") then sim_of rows
    else if bytes_eq name (codes "migrate") then migrate_of rows
    else errand_job_in (name, rows)

abbrev pub job_found : Option (Text × List Row) → Option JobView
job_found found = found >>= job_in

-- ---- the job of words

abbrev pub unless_refused : {A : Type 0} → Kinds → Option A → Option A
unless_refused [] job = job
unless_refused (kind ∷ kinds) job = None

-- the job of the words after the program's name: none where the command line refuses the words, or
-- a value isn't in its form
unfoldable pub job_of : List Text → Option JobView
job_of words = unless_refused (fault_of office_line words) (job_found (subcommand_of office_line words))

-- the words may ask for help or for the version
abbrev pub AsksHelp : List Text → Type 0
AsksHelp words = IsAmong DisplayHelp (fault_of help_line words) ⊎ IsAmong DisplayVersion (fault_of help_line words)

-- they may ask for something else: a parse takes them, or refuses them by another kind
abbrev pub AsksElse : List Text → Type 0
AsksElse words = (fault_of help_line words ≡ []) ⊎ ((kind : ErrorKind) × (IsAmong kind (fault_of help_line words) × (kind ≢ DisplayHelp × kind ≢ DisplayVersion)))

-- the words as texts
abbrev pub texts : Vec (String Global) Global → List Text
texts words = map (λ (w : String Global). string_bytes w) words.items
