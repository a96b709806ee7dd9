use Rattle.office_script.proofs.Happened.{script_legal, script_report}
use Rattle.office_script.proofs.laws.legal_scripts.Goals as goal

pub returns-clause-legal : goal.returns-clause-legal
returns-clause-legal c = script_legal

pub returns-clause-report : goal.returns-clause-report
returns-clause-report c = script_report
