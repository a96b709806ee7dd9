use Rattle.std.proofs.Common.{refl, ℕ, Result, Ok, Err, IfErr}
use Rattle.std.specs.Prelude.{IsOk}
use Rattle.poll_book.specs.Histories.{point_of, IsGap}
use Rattle.poll_book.proofs.Places.{not_in_gap}
use Rattle.poll_book.proofs.history.history_place.Goals as goal

pub returns-clause-known : goal.returns-clause-known
returns-clause-known c has = by c.place_numbered.result c.place_numbered.ensures.absent
  where
    by : (r : Result ℕ ℕ) → IfErr r (IsGap point_of c.args.histories.now c.args.point) → IsOk r
    by (Ok at) gap = refl
    by (Err at) gap = absurd (not_in_gap point_of c.args.histories.now c.args.point at gap has)
