use Rattle.std.proofs.Common.{◌≡◌, ◌≤◌, ◌<◌, ◌+◌, ℕ, List, length, ◌∙◌, ap, sym, subst, arith}
use Rattle.std.specs.Prelude.{get_or, map, take}
use Rattle.std.proofs.lemmas.List.{length_push, take_all}
use Rattle.std.proofs.lemmas.Option.{slice_get-get_or}
use Rattle.point_list.specs.Sites.{outstanding_of}
use Rattle.point_list.specs.declared.site.Line.{Line as SiteLine}
use Rattle.run_lines.specs.declared.line.Line.{Line}
use Rattle.office_run.specs.Beginnings.{AreDown, all_terms, terms_in}
use Rattle.office_run.proofs.Beginning.{one_more_down, one_more_terms}
use Rattle.office_run.proofs.running.lines_of.Goals as goal

pub loop-place-init : goal.loop-place-init
loop-place-init c =
    (subst (λ (lines : List Line). AreDown 0 lines) (sym c.new-lines.ensures.items) tt, ap length c.new-lines.ensures.items, ap all_terms c.new-lines.ensures.items)

pub loop-place-preserved : goal.loop-place-preserved
loop-place-preserved c =
    let so_far = c.loop-place.invariant in
    let pushed = c.in_ok-push.ensures.items in
    let at = subst (λ (all : List SiteLine). (c.loop-place.place < length all) × (get_or all c.loop-place.place c.in-Some.line.now ≡ c.in-Some.line.now)) c.as_slice.ensures
    (c.in-Some.ensures.lookup.3.0, sym c.in-Some.ensures.lookup.1) in (
      subst (λ (lines : List Line). AreDown 0 lines) (sym pushed)
          (one_more_down 0 c.loop-place.lines.items c.new.result so_far.0 (omega (arith, c.new.ensures.0, so_far.1)) c.new.ensures.2),
      ap length pushed ∙ length_push c.loop-place.lines.items c.new.result ∙ ap (λ (n : ℕ). n + 1) so_far.1,
      ap all_terms pushed ∙ one_more_terms c.loop-place.lines.items c.new.result c.args.site.now.lines c.loop-place.place c.in-Some.line.now so_far.2
          (c.new.ensures.1 ∙ ap (λ (name : List ℕ). record { name = name; most = c.from-most.result }) c.in_ok-name.ensures.cases
          ∙ ap (λ (most : ℕ). record { name = c.in-Some.line.now.name; most = most })
          (c.from-most.ensures ∙ c.outstanding.ensures.value ∙ ap outstanding_of (slice_get-get_or c.args.site.now.lines c.loop-place.place c.in-Some.line.now at.0) ∙ ap (λ (line : SiteLine). line.outstanding) at.1))
          at,
    )

pub returns-in_default : goal.returns-in_default
returns-in_default c =
    let so_far = c.loop-place.invariant in
    let all = c.args.site.now.lines in
    let few : length all ≤ c.loop-place.place = subst (λ (some : List SiteLine). length some ≤ c.loop-place.place) c.as_slice.ensures c.in_default.ensures.lookup.3 in
    record {
      down = so_far.0;
      terms = so_far.2 ∙ ap (map terms_in) (take_all c.loop-place.place all few ∙ sym (take_all 64 all (omega (arith, few, c.loop-place-test.true))));
    }

pub returns : goal.returns
returns c =
    let so_far = c.loop-place.invariant in
    let full : c.loop-place.place ≡ 64 = omega (arith, c.loop-place-test.false, c.loop-place.auto.place-end) in
    record { down = so_far.0; terms = so_far.2 ∙ ap (λ (n : ℕ). map terms_in (take n c.args.site.now.lines)) full }
