use Rattle.office_script.proofs.Texts.{byte_ok, byte_err}
use Rattle.office_script.proofs.hexadecimal.byte.Goals as goal

pub returns-in-Ok : goal.returns-in-Ok
returns-in-Ok c = byte_ok c.args.word.now c.in-Ok.bytes c.in-Ok.ensures

pub returns-in-Err : goal.returns-in-Err
returns-in-Err c = byte_err c.args.word.now c.in-Err.field-0 c.in-Err.ensures
