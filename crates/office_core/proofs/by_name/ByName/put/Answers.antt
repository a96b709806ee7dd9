use Rattle.std.proofs.Common.{◌∙◌, sym}
use Rattle.office_core.proofs.ByName.{nothing_there, place_put}
use Rattle.office_core.proofs.by_name.ByName.put.Goals as goal

pub returns-in-Ok-clause-put : goal.returns-in-Ok-clause-put
returns-in-Ok-clause-put c = λ other.
    place_put c.args.name other c.args.place c.args.self.now.places c.insert.new.self (nothing_there _ (sym c.contains_key.ensures ∙ c.if-contains_key.false)) (c.in-Ok.ensures.updates.0 other)
