use Rattle.office_core.proofs.Fitting.{tables_fit}
use Rattle.office_core.proofs.laws.fitting_tables.Goals as goal

pub returns : goal.returns
returns c = tables_fit
