-- What a parse of either command line says of words: their matches, or why there are none.
use Rattle.std.proofs.Common.{◌≡◌, ◌≢◌, ◌∙◌, List, [], ◌∷◌, true, Option, Some, None, Result, Ok, Err, refl, sym, ap, ap₂, inl, inr, subst}
use Rattle.std.specs.Prelude.{IfOk}
use Rattle.clap.specs.Words.{App, HasKind, HasMatchesOf, IsAmong, Kinds, Text, fault_of, is_simple, is_simple_and_free, kind_of, subcommand_of, subcommand_rows_of}
use Rattle.clap.specs.declared.error.kind.ErrorKind.{ErrorKind}
use Rattle.clap.specs.declared.error.kind.ErrorKind.TheVariants.{OutOfMemory}
use Rattle.clap.specs.declared.error.Error.{Error}
use Rattle.clap.specs.declared.parser.matches.ArgMatches.{ArgMatches}
use Rattle.clap.proofs.OnLiterals.{clap_on_literals}
use Rattle.office_words.specs.Jobs.{JobView, job_found, job_of, job_view, unless_refused}
use Rattle.office_words.specs.Line.{help_line, without_help, bare_line, discover_line, load_line, migrate_line, named, office_line, option, order_line, place, plan_line, poll_line, preset, replay_line, report_line, run_line, serve_line, sim_line, spare, void_line, with_version, with_commands, with_line, with_value}
use Rattle.office_words.specs.Values.{Gives}
use Rattle.office_words.specs.declared.job.Job.{Job}
use Rattle.office_words.specs.declared.job.WordFault.{WordFault}
use Rattle.office_words.specs.declared.job.WordFault.TheVariants.{Words}

-- what a proof unfolds to compute either command line
unfoldable pub lines : Unit {0}
unfolding clap_on_literals office_line help_line with_commands with_line with_value named option spare preset place bare_line without_help with_version replay_line load_line plan_line discover_line poll_line order_line report_line serve_line sim_line void_line migrate_line run_line
lines = tt

-- matches and faults are functions of the words
pub simple : is_simple office_line ≡ true
unfolding lines
simple = refl

pub free : is_simple_and_free office_line ≡ true
unfolding lines
free = refl

pub free_with_help : is_simple_and_free help_line ≡ true
unfolding lines
free_with_help = refl

-- the job of words is that of their matches
pub found_job : (a : App) (words words' : List Text) (m : ArgMatches) → HasMatchesOf a words m → (is_simple_and_free a ≡ true → fault_of a words ≡ [])
    → a ≡ office_line → words ≡ words' → job_of words' ≡ job_found (subcommand_rows_of m)
unfolding job_of
found_job a words words' m has none same at =
    let kinds : fault_of office_line words' ≡ [] = sym (ap₂ fault_of same at) ∙ none (ap is_simple_and_free same ∙ free) in
    let rows : subcommand_rows_of m ≡ subcommand_of office_line words' = (has (ap is_simple same ∙ simple)).1 ∙ ap₂ subcommand_of same at in
    ap₂ (λ (ks : Kinds) (j : Option JobView). unless_refused ks j) kinds (ap job_found (sym rows))

pub job_given : (r : Result Job WordFault) (o o' : Option JobView) → Gives job_view r o → o' ≡ o → IfOk r (λ j. o' ≡ Some (job_view j))
job_given (Ok j) o o' h e = e ∙ h
job_given (Err x) o o' h e = tt

pub no_job : (r : Result Job WordFault) (o o' : Option JobView) → Gives job_view r o → o' ≡ o → r ≡ Err Words → o' ≡ None
no_job r o o' h e is = e ∙ subst (λ (x : Result Job WordFault). Gives job_view x o) is h

some_kind : (k : ErrorKind) (kinds : Kinds) (job : Option JobView) → IsAmong k kinds → unless_refused kinds job ≡ None
some_kind k [] job among = absurd among
some_kind k (x ∷ xs) job among = refl

-- words that the command line refuses have no job
pub refused : (a : App) (words words' : List Text) (e : Error) → (is_simple_and_free a ≡ true → HasKind (fault_of a words) e) → a ≡ office_line → words ≡ words'
    → kind_of e ≢ OutOfMemory → job_of words' ≡ None
unfolding job_of
refused a words words' e has same at other =
    let kinds : HasKind (fault_of office_line words') e = subst (λ (ks : Kinds). HasKind ks e) (ap₂ fault_of same at) (has (ap is_simple_and_free same ∙ free)) in
    elim kinds [
      | inl memory ↦ absurd (other memory)
      | inr among ↦ some_kind (kind_of e) (fault_of office_line words') (job_found (subcommand_of office_line words')) among
    ]

-- the kind with which the other command line refuses words
pub shown : (a : App) (words words' : List Text) (e : Error) (k : ErrorKind) → (is_simple_and_free a ≡ true → HasKind (fault_of a words) e) → a ≡ help_line → words ≡ words'
    → kind_of e ≡ k → k ≢ OutOfMemory → IsAmong k (fault_of help_line words')
shown a words words' e k has same at is other =
    let kinds : HasKind (fault_of help_line words') e = subst (λ (ks : Kinds). HasKind ks e) (ap₂ fault_of same at) (has (ap is_simple_and_free same ∙ free_with_help)) in
    elim kinds [
      | inl memory ↦ absurd (other (sym is ∙ memory))
      | inr among ↦ subst (λ (x : ErrorKind). IsAmong x (fault_of help_line words')) is among
    ]

-- words that the other command line takes
pub taken : (a : App) (words words' : List Text) → (is_simple_and_free a ≡ true → fault_of a words ≡ []) → a ≡ help_line → words ≡ words' → fault_of help_line words' ≡ []
taken a words words' none same at = sym (ap₂ fault_of same at) ∙ none (ap is_simple_and_free same ∙ free_with_help)
