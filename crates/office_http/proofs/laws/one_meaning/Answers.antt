use Rattle.office_http.proofs.OneMeaning.{one_meaning}
use Rattle.office_http.proofs.laws.one_meaning.Goals as goal

pub returns : goal.returns
returns c = λ routes input a b x y. one_meaning routes input a b x y
