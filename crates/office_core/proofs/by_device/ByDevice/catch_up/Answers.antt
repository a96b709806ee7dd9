use Rattle.std.proofs.Common.{◌≡◌, ◌+◌, ◌<◌, length, ◌++◌, ◌∷◌, ◌∙◌, [], ℕ, List, cond, take, sym, ap, arith}
use Rattle.std.specs.Str.{bytes_eq}
use Rattle.poll_book.specs.declared.rows.PointRow.{PointRow}
use Rattle.office_core.specs.ByDevice.{places_from}
use Rattle.office_core.proofs.ByDevice.{one_more_there}
use Rattle.office_core.proofs.by_device.ByDevice.catch_up.Goals as goal

pub loop-self-preserved : goal.loop-self-preserved
loop-self-preserved c =
    let known = c.args.known.now in
    let d = c.index-known-self.result in
    let i = c.loop-self.self.count in
    let within = c.loop-self.invariant.1 in
    let lt : i < length known = omega (arith, c.loop-self-test.true, within) in
    let count : c.put.new.self.count ≡ i = c.put.ensures.count in (
      (
        omega (arith, lt, count),
        λ device.
            c.in-Ok.ensures.put device
            ∙ ap (λ (l : List ℕ). cond (bytes_eq d.point.device device) (l ++ i ∷ []) l) (c.loop-self.invariant.0.1 device)
            ∙ ap (λ (row : PointRow). cond (bytes_eq row.point.device device) (places_from 0 device (take i known) ++ i ∷ []) (places_from 0 device (take i known))) c.index-known-self.is
            ∙ one_more_there known i d device lt
            ∙ ap (λ (n : ℕ). places_from 0 device (take (n + 1) known)) (sym count),
      ),
      within,
    )
