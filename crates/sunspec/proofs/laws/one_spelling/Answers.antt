use Rattle.sunspec.proofs.Arranged.{one_arranged}
use Rattle.sunspec.proofs.laws.one_spelling.Goals as goal

pub returns : goal.returns
returns c = one_arranged
