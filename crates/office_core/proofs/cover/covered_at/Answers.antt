use Rattle.std.proofs.Common.{◌∙◌, ◌≡◌, ◌++◌, ◌∷◌, [], ℕ, List, Some, None, get_or, ap, sym, rules}
use Rattle.std.specs.Prelude.{slice_get}
use Rattle.poll_book.specs.declared.rows.PointRow.{PointRow}
use Rattle.office_core.specs.Cover as cover
use Rattle.office_core.proofs.ByDevice.{given_none, given_not, given_so, none_there, row_there}
use Rattle.office_core.proofs.cover.covered_at.Goals as goal
use Rattle.office_core.proofs.cover.covered_at.Goals.{in-Some+then-covers+in_ok-push, in-Some+else-covers, in_default}

pub loop-place-preserved : goal.loop-place-preserved
loop-place-preserved c =
    let known = c.args.known.now in
    let places = c.args.places.now in
    let i = c.loop-place.place-index in
    let lt = c.loop-place-test.true in
    let device = c.args.device.now in
    let read = c.args.read.now in
    let words = cover.reply_cells c.args.reply.now in
    elim c.match-get.branch [
      | in-Some+then-covers+in_ok-push w ↦
          let row = w.in-Some.point.now in
          let there : slice_get known (get_or places i 0) ≡ Some row = row_there known (get_or places i 0) row w.in-Some.ensures.lookup.0 w.in-Some.ensures.lookup.1 in
          let pushed : c.match-get.rows.items ≡ c.loop-place.rows.items ++ (row, cover.words_in read words row.point) ∷ [] = search rules in
          pushed ∙ ap (λ (l : List (PointRow × List ℕ)). l ++ (row, cover.words_in read words row.point) ∷ []) c.loop-place.invariant
          ∙ sym (given_so known places i device read words row lt there (sym w.covers.ensures ∙ w.if-covers.true))
      | in-Some+else-covers w ↦
          let row = w.in-Some.point.now in
          let there : slice_get known (get_or places i 0) ≡ Some row = row_there known (get_or places i 0) row w.in-Some.ensures.lookup.0 w.in-Some.ensures.lookup.1 in
          let same : c.match-get.rows.items ≡ c.loop-place.rows.items = search rules in
          same ∙ c.loop-place.invariant ∙ sym (given_not known places i device read words row lt there (sym w.covers.ensures ∙ w.if-covers.false))
      | in_default w ↦
          let none : slice_get known (get_or places i 0) ≡ None = none_there known (get_or places i 0) w.in_default.ensures.lookup.0 in
          let same : c.match-get.rows.items ≡ c.loop-place.rows.items = search rules in
          same ∙ c.loop-place.invariant ∙ sym (given_none known places i device read words lt none)
    ]
