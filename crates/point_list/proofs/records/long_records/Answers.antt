use Rattle.std.proofs.Common.{Bor, List, ℕ, ◌≡◌, ◌∙◌, sym, refl, rules, inl, inr, true, map, Some, ◌∷◌, []}
use Rattle.std.specs.Result.{is_ok}
use Rattle.std.proofs.lemmas.List.{map-append}
use Rattle.csv.specs.Reading.{AreRecords, Reached, default_config, strip_bom}
use Rattle.csv.specs.Records.{fields_of}
use Rattle.csv.specs.declared.parser.State.TheVariants as st
use Rattle.csv.proofs.ReadFacts.{rows-end, rows-more}
use Rattle.point_list.proofs.Whole.{all_records, only_stops}
use Rattle.point_list.proofs.records.long_records.Goals as goal

pub loop-row-init : goal.loop-row-init
unfolding Reached
loop-row-init c =
    let fr = c.from_reader-reader.ensures in
    let e = c.flexible.ensures in
    let f = c.has_headers.ensures in
    let start = c.into_iter-row-iterator.ensures.into_iter_gives ∙ refl in
    let rdr = c.into_byte_records-row-items.ensures.rdr in
    let left = c.into_byte_records-row-items.ensures.left in
    rw (start, rdr, c.new-rows.ensures.items) (
      rw (e, f) at fr.trim ∙ c.new.ensures.trim,
      inr (inr (rw (e, f) at fr.has_headers, fr.headers)),
      left,
      rw (e, f) at fr.config ∙ c.new.ensures.config,
      strip_bom c.args.bytes.now,
      fr.source,
      (sym fr.state, refl),
      rw e at fr.flexible,
    )

pub loop-row-preserved : goal.loop-row-preserved
loop-row-preserved c =
    let inv = c.loop-row.invariant in
    let s = rw (c.in-Some.is, c.in-Ok.is) at ((c.next.ensures.steps inv.2 inv.0).0 inv.1) in
    let flexible = rw (c.in-Some.is, c.in-Ok.is) at ((c.next.ensures.steps inv.2 inv.0).3) in
    let good : is_ok c.push.result ≡ true = search rules in
    let items = rw good at c.push.ensures.items in
    let m = rows-more (λ (s : Bor (List ℕ)). Some s.now) c.loop-row.row-iterator.rdr c.next.new.self.rdr (fields_of c.in-Ok.row) default_config st.StartRecord (strip_bom c.args.bytes.now) inv.4 (map fields_of c.loop-row.rows.items) inv.3 inv.5 inv.6 s.0 in
    (s.0.3 ∙ inv.0, inl s.1, s.2, s.0.2 ∙ inv.3, m.0, m.1, rw (items, map-append fields_of c.loop-row.rows.items (c.in-Ok.row ∷ [])) m.2, flexible ∙ inv.7)

pub returns : goal.returns
returns c =
    let inv = c.loop-row.invariant in
    let s = rw c.in-None.is at ((c.next.ensures.steps inv.2 inv.0).0 inv.1) in
    let all : AreRecords default_config st.StartRecord (strip_bom c.args.bytes.now) (map fields_of c.loop-row.rows.items) =
    (c.loop-row.row-iterator.rdr.state, inv.4, inv.6, rows-end (λ (s : Bor (List ℕ)). Some s.now) c.loop-row.row-iterator.rdr c.next.new.self.rdr [] default_config inv.4 inv.3 inv.5 s) in
    sym (all_records default_config (strip_bom c.args.bytes.now) (map fields_of c.loop-row.rows.items) all)

pub unreachable-requires : goal.unreachable-requires
unreachable-requires c =
    let inv = c.loop-row.invariant in
    let why = rw (c.in-Some.is, c.in-Err.is) at ((c.next.ensures.steps inv.2 inv.0).0 inv.1) in
    only_stops (λ (s : Bor (List ℕ)). Some s.now) c.loop-row.row-iterator.rdr c.next.new.self.rdr c.in-Err.e.kind why inv.7
    (λ x h. c.in_default.not-Io x (c.into_kind.ensures ∙ h)) (λ h. c.in_default.not-OutOfMemory (c.into_kind.ensures ∙ h))
