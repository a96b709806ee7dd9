use Rattle.office_script.proofs.Cuts.{line_found, line_whole}
use Rattle.office_script.proofs.cutting.first_line.Goals as goal

pub returns-in-Some-clause-lines : goal.returns-in-Some-clause-lines
returns-in-Some-clause-lines c = rw c.stripped.ensures (line_found c.args.text.now c.in-Some.at c.in-Some.ensures)

pub returns-in-None-clause-lines : goal.returns-in-None-clause-lines
returns-in-None-clause-lines c = line_whole c.args.text.now c.requires c.in-None.ensures
