use Rattle.std.proofs.Common.{ℕ, refl, ap, []}
use Rattle.poll_book.specs.Tables.{Tables}
use Rattle.office_core.specs.History.{Restart}
use Rattle.office_script.proofs.Restarts.{has_begun}
use Rattle.office_script.proofs.player.new_office.Goals as goal

pub returns-in-Ok : goal.returns-in-Ok
returns-in-Ok c = (c.in-Ok.ensures.stands tt [] (ap (λ (kept : Tables × ℕ × ℕ). kept.0) c.new.ensures), ((c.requires, refl), (λ _. refl), tt), has_begun (Restart c.args.site) [], (c.requires, refl))
