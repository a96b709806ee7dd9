use Rattle.std.proofs.Common.{arith}
use Rattle.point_list.proofs.Models.{other_number}
use Rattle.point_list.proofs.site_file.model_of.Goals as goal

pub returns-then-entries-ne3 : goal.returns-then-entries-ne3
returns-then-entries-ne3 c = other_number c.args.entries.now (λ e. omega (arith, e, c.if-entries-ne3.true))
