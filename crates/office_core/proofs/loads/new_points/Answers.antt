use Rattle.std.proofs.Common.{◌≡◌, ◌∙◌, ◌+◌, ◌++◌, ◌∷◌, [], length, take, get_or, cond, true, false, Some, None, sym, ap, subst, arith, rules, length-append}
use Rattle.std.specs.Prelude.{is_none}
use Rattle.std.proofs.lemmas.List.{take_more}
use Rattle.point_list.specs.declared.point.Point.{Point}
use Rattle.office_core.specs.Loads as loads
use Rattle.office_core.proofs.Loading.{differs_at, none_differs, one_more_agrees}
use Rattle.office_core.proofs.Numbering.{unknown-push, numbered-push, length-numbered}
use Rattle.office_core.proofs.loads.new_points.Goals as goal
use Rattle.office_core.proofs.loads.new_points.Goals.{in-Some+else-not-is_same_point, in-None+in_ok-push-in-None}

pub returns-then-not-is_same_point-clause-differ : goal.returns-then-not-is_same_point-clause-differ
returns-then-not-is_same_point-clause-differ c = λ rows are.
    let known = c.args.known.now in
    let points = c.args.points.now in
    let point = c.point-item.result in
    let there : loads.known_named known point.name ≡ Some c.in-Some.there =
    ap (loads.known_named known) (sym c.as_bytes.ensures.value) ∙ sym c.find.ensures ∙ c.in-Some.is in
    let off : loads.agrees point (loads.known_named known point.name) ≡ false =
    ap (loads.agrees point) there ∙ sym c.is_same_point.ensures ∙ c.if-not-is_same_point.true in
    let here : loads.agrees (get_or points c.loop-point.point-index point) (loads.known_named known (get_or points c.loop-point.point-index point).name) ≡ false =
    subst (λ (p : Point). loads.agrees p (loads.known_named known p.name) ≡ false) c.point-item.is off in
    ap Some c.loop-point.invariant.row
    ∙ differs_at known points rows c.loop-point.point-index point are c.loop-point-test.true c.loop-point.invariant.agree here

pub loop-point-preserved : goal.loop-point-preserved
loop-point-preserved c =
    let known = c.args.known.now in
    let points = c.args.points.now in
    let point = c.point-item.result in
    let i = c.loop-point.point-index in
    let lt = c.loop-point-test.true in
    let more = take_more points i point lt ∙ ap (λ p. take i points ++ p ∷ []) (sym c.point-item.is) in
    let n = length known in
    let rows = c.loop-point.rows.items in
    let old = loads.unknown_of known (take i points) in
    let was : rows ≡ loads.numbered_on n old = c.loop-point.invariant.rows in
    let few = c.loop-point.invariant.few in
    let count : length rows ≡ length old = ap length was ∙ length-numbered n old in
    let test = is_none (loads.known_named known point.name) in
    let is : c.find.result ≡ loads.known_named known point.name = c.find.ensures ∙ ap (loads.known_named known) c.as_bytes.ensures.value in
    let all : loads.unknown_of known (take (i + 1) points) ≡ cond test (old ++ point ∷ []) old = ap (loads.unknown_of known) more ∙ unknown-push known (take i points) point in
    elim c.match-find.branch [
      | in-Some+else-not-is_same_point w ↦
          let there : loads.known_named known point.name ≡ Some w.in-Some.there = sym is ∙ w.in-Some.is in
          let off : test ≡ false = ap is_none there in
          let agrees : loads.agrees point (loads.known_named known point.name) ≡ true = ap (loads.agrees point) there ∙ sym w.is_same_point.ensures ∙ w.if-not-is_same_point.false in
          let same : c.match-find.rows.items ≡ rows = search rules in
          record {
            rows = same ∙ was ∙ sym (ap (loads.numbered_on n) (all ∙ ap (λ b. cond b (old ++ point ∷ []) old) off));
            few = omega (arith, few, ap length same);
            row = omega (arith, c.loop-point.invariant.row);
            short = omega (arith, lt);
            agree = one_more_agrees known points i point lt c.point-item.is agrees c.loop-point.invariant.agree;
          }
      | in-None+in_ok-push-in-None w ↦
          let none : loads.known_named known point.name ≡ None = sym is ∙ w.in-None.is in
          let on : test ≡ true = ap is_none none in
          let agrees : loads.agrees point (loads.known_named known point.name) ≡ true = ap (loads.agrees point) none in
          let pushed : c.match-find.rows.items ≡ rows ++ record { number = length known + length rows + 1; point = point } ∷ [] = search rules in
          record {
            rows = pushed ∙ (λ k. was k ++ record { number = n + count k + 1; point = point } ∷ []) ∙ sym (numbered-push n old point)
                ∙ sym (ap (loads.numbered_on n) (all ∙ ap (λ b. cond b (old ++ point ∷ []) old) on));
            few = omega (arith, few, ap length pushed, length-append rows (record { number = length known + length rows + 1; point = point } ∷ []));
            row = omega (arith, c.loop-point.invariant.row);
            short = omega (arith, lt);
            agree = one_more_agrees known points i point lt c.point-item.is agrees c.loop-point.invariant.agree;
          }
    ]

pub returns-clause-agree : goal.returns-clause-agree
returns-clause-agree c = λ rows are.
    let end = c.loop-point-test.false in
    none_differs c.args.known.now c.args.points.now rows are (λ k d lt. c.loop-point.invariant.agree k d (omega (arith, lt, end)))
