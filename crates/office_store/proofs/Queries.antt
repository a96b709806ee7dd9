-- A text that is a SELECT is a query, whatever the tables are.
use Rattle.std.proofs.Common.{◌≡◌, ℕ, List, Ok, Err, Result, None, refl, sym, ap, ◌+◌, if◌then◌else◌, Bool, true, false}
use Rattle.sqlite_schema.specs.declared.schema.Schema.{Schema}
use Rattle.sqlite_schema.specs.declared.command.Command.{Command}
use Rattle.sqlite_resolve.specs.declared.compiled.Compiled.{Compiled}
use Rattle.sqlite_resolve.specs.declared.error.CompileError.{CompileError}
use Rattle.sqlite_syntax.specs.declared.statement.Parsed.{Parsed}
use Rattle.sqlite_resolve.specs.Lowering.{and_then}
use Rattle.sqlite_resolve.specs.Compile.{compiled, first, planned, meaning, returning, command, timed, with_command, small}
use Rattle.sqlite_resolve.specs.declared.error.CompileError.TheVariants.{NoSuchTable}
use Rattle.sqlite_tied.specs.Compute.{everything}
use Rattle.office_store.specs.Texts.{names_text, version_text, readings_text, reading_key_text, value_before_text, value_after_text, last_reading_text, points_text, point_text, swaps_text, setting_text, connections_text, request_text, total_text, next_void_text, void_slots_text, voids_text, last_text, waiting_text}
use Rattle.sqlite.specs.Listing.{understood, reads_listing, if_select, listing_schema, is_select}
use Rattle.office_store.specs.Kept.{IsQuery}

abbrev pub ShowsNothing : Result Parsed CompileError → Type 0
ShowsNothing (Ok p) = (schema : Schema) (base : ℕ) → returning schema base p.statement ≡ Ok None
ShowsNothing (Err e) = Unit {0}

plan_shows_nothing : (schema : Schema) (p : Parsed) (c : Compiled) → ((base : ℕ) → returning schema base p.statement ≡ Ok None) → and_then (planned schema p) (λ plan. Ok (with_command p plan)) ≡ Ok c → c.returning ≡ None
unfolding planned meaning
plan_shows_nothing schema p c none h =
    let formats = timed schema p.formats p.statement in
    let base = small p.names + small formats in
    after (command schema p.formats base p.statement) (rw (none base) at h)
  where
    after : (made : Result Command CompileError) → and_then (and_then (and_then made (λ k. Ok (k, None))) (λ found. Ok (timed schema p.formats p.statement, found))) (λ plan. Ok (with_command p plan)) ≡ Ok c → c.returning ≡ None
    after (Ok k) h = let same : with_command p (timed schema p.formats p.statement, (k, None)) ≡ c = cc in ap (λ (x : Compiled). x.returning) (sym same)
    after (Err e) h = absurd (cc)

compiled_shows_nothing : (schema : Schema) (sql : List ℕ) (c : Compiled) → ShowsNothing (first sql) → compiled schema sql ≡ Ok c → c.returning ≡ None
unfolding compiled
compiled_shows_nothing schema sql c =
    elim (first sql) as (λ r. ShowsNothing r → and_then r (λ p. and_then (planned schema p) (λ plan. Ok (with_command p plan))) ≡ Ok c → c.returning ≡ None) [
      | Ok p ↦ λ nothing h. plan_shows_nothing schema p c (nothing schema) h
      | Err e ↦ λ nothing h. absurd (cc)
    ]

selected_if : (b : Bool) (d c : Compiled) → ◌≡◌ {A = Result Compiled CompileError} (if b then Ok d else Err NoSuchTable) (Ok c) → ◌≡◌ {A = Result Compiled CompileError} (Ok d) (Ok c)
selected_if true d c h = h
selected_if false d c h = absurd (cc)

selected : (r : Result Compiled CompileError) (c : Compiled) → if_select r ≡ Ok c → r ≡ Ok c
selected (Ok d) c h = selected_if (is_select d.command) d c h
selected (Err e) c h = absurd (cc)

pub is_query : (sql : List ℕ) → ShowsNothing (first sql) → IsQuery sql
unfolding understood
is_query sql nothing schema c =
    elim (reads_listing schema sql) as (λ b. (if b then if_select (compiled listing_schema sql) else compiled schema sql) ≡ Ok c → c.returning ≡ None) [
      | true ↦ λ h. compiled_shows_nothing listing_schema sql c nothing (selected _ c h)
      | false ↦ λ h. compiled_shows_nothing schema sql c nothing h
    ]

pub names_is_query : IsQuery names_text
unfolding everything
names_is_query = is_query names_text (λ schema base. refl)

pub version_is_query : IsQuery version_text
unfolding everything
version_is_query = is_query version_text (λ schema base. refl)

pub readings_is_query : IsQuery readings_text
unfolding everything
readings_is_query = is_query readings_text (λ schema base. refl)

pub reading_key_is_query : IsQuery reading_key_text
unfolding everything
reading_key_is_query = is_query reading_key_text (λ schema base. refl)

pub value_before_is_query : IsQuery value_before_text
unfolding everything
value_before_is_query = is_query value_before_text (λ schema base. refl)

pub value_after_is_query : IsQuery value_after_text
unfolding everything
value_after_is_query = is_query value_after_text (λ schema base. refl)

pub last_reading_is_query : IsQuery last_reading_text
unfolding everything
last_reading_is_query = is_query last_reading_text (λ schema base. refl)

pub points_is_query : IsQuery points_text
unfolding everything
points_is_query = is_query points_text (λ schema base. refl)

pub point_is_query : IsQuery point_text
unfolding everything
point_is_query = is_query point_text (λ schema base. refl)

pub swaps_is_query : IsQuery swaps_text
unfolding everything
swaps_is_query = is_query swaps_text (λ schema base. refl)

pub setting_is_query : IsQuery setting_text
unfolding everything
setting_is_query = is_query setting_text (λ schema base. refl)

pub connections_is_query : IsQuery connections_text
unfolding everything
connections_is_query = is_query connections_text (λ schema base. refl)

pub total_is_query : IsQuery total_text
unfolding everything
total_is_query = is_query total_text (λ schema base. refl)

pub void_slots_is_query : IsQuery void_slots_text
unfolding everything
void_slots_is_query = is_query void_slots_text (λ schema base. refl)

pub next_void_is_query : IsQuery next_void_text
unfolding everything
next_void_is_query = is_query next_void_text (λ schema base. refl)

pub voids_is_query : IsQuery voids_text
unfolding everything
voids_is_query = is_query voids_text (λ schema base. refl)

pub request_is_query : IsQuery request_text
unfolding everything
request_is_query = is_query request_text (λ schema base. refl)

pub last_is_query : IsQuery last_text
unfolding everything
last_is_query = is_query last_text (λ schema base. refl)

pub waiting_is_query : IsQuery waiting_text
unfolding everything
waiting_is_query = is_query waiting_text (λ schema base. refl)
