use Rattle.mb_map.proofs.Leaving.{all_left}
use Rattle.mb_map.proofs.laws.all_leave.Goals as goal

pub returns : goal.returns
returns c = λ devices script calls answers sim sound kept stood. all_left devices script calls answers sim sound kept stood
