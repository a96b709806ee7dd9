use Rattle.std.proofs.Common.{arith}
use Rattle.office_core.specs.History.{points}
use Rattle.office_core.proofs.Loaded.{numbered_points}
use Rattle.office_core.proofs.Names.{named_so}
use Rattle.office_core.proofs.OnePoint.{first_of_number, number_there}
use Rattle.office_core.proofs.laws.numbered_points.Goals as goal

pub returns : goal.returns
returns c = record {
  numbers = λ before place known is. let number = number_there 0 (points before) place known (numbered_points before) is in omega (arith, number);
  numbered = λ before known there. first_of_number 0 (points before) known (numbered_points before) there;
  named = named_so;
}
