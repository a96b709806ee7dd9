use Rattle.std.proofs.Common.{arith}
use Rattle.office_http.proofs.Slashes.{split_some, split_none}
use Rattle.office_http.proofs.place.at_slash.Goals as goal

pub returns-clause-some : goal.returns-clause-some
returns-clause-some c = split_some c.args.text.now c.split_once.result (c.split_once.ensures.byte (omega arith) (λ w o found. found))

pub returns-clause-none : goal.returns-clause-none
returns-clause-none c = split_none c.args.text.now c.split_once.result (c.split_once.ensures.byte (omega arith) (λ w o found. found))
