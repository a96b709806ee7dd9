use Rattle.std.proofs.Common.{◌≡◌, ◌+◌, ◌<◌, length, ◌∙◌, ℕ, Option, Some, None, cond, take, get_or, sym, ap, arith}
use Rattle.std.specs.List.{position_from}
use Rattle.std.specs.Option.{option_or}
use Rattle.std.specs.Str.{bytes_eq}
use Rattle.office_core.specs.ByName.{is_named}
use Rattle.office_core.proofs.ByName.{one_more_named}
use Rattle.office_core.proofs.by_name.ByName.catch_up.Goals as goal

pub loop-self-preserved : goal.loop-self-preserved
loop-self-preserved c =
    let known = c.args.known.now in
    let d = c.index-known-self.result in
    let i = c.loop-self.self.count in
    let within = c.loop-self.invariant.1 in
    let lt : i < length known = omega (arith, c.loop-self-test.true, within) in
    let count : c.put.new.self.count ≡ i = c.put.ensures.count in (
      (
        omega (arith, lt, count),
        λ name.
            c.in_ok-put.ensures.put name
            ∙ ap (λ (o : Option ℕ). option_or o (cond (bytes_eq (get_or known i d).point.name name) (Some i) None)) (c.loop-self.invariant.0.1 name)
            ∙ one_more_named known i d name lt
            ∙ ap (λ (n : ℕ). position_from (is_named name) 0 (take (n + 1) known)) (sym count),
      ),
      within,
    )
