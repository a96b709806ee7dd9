use Rattle.mb_mbap.proofs.Unique.{splits_once}
use Rattle.mb_mbap.proofs.laws.one_reading.Goals as goal

pub returns : goal.returns
returns c = splits_once
