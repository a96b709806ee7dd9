use Rattle.office_pages.proofs.moment.time_text.Goals as goal

pub returns-in_ok-format-in-Some : goal.returns-in_ok-format-in-Some
returns-in_ok-format-in-Some c = (c.in-Some.moment, c.in-Some.ensures, c.in_ok-format-in-Some.ensures.ok)
