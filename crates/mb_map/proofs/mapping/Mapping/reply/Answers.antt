use Rattle.std.proofs.Common.{refl}
use Rattle.mb_map.specs.Device.DeviceStep.{faulty, outside, done}
use Rattle.mb_map.proofs.mapping.Mapping.reply.Goals as goal

pub returns-in-Some : goal.returns-in-Some
returns-in-Some c =
    let spelled = rw c.as_bytes.ensures.value at c.in-Ok.ensures.found in
    done c.in-Ok.decoded c.in-Some.reply c.args.self.now c.args.request.now c.encode.result c.perform.new.self spelled c.in-Some.ensures.done.0 c.in-Some.ensures.done.1 c.encode.ensures

pub returns-in-None : goal.returns-in-None
returns-in-None c =
    let spelled = rw c.as_bytes.ensures.value at c.in-Ok.ensures.found in
    outside c.in-Ok.decoded c.args.self.now c.args.request.now c.exception.result c.perform.new.self spelled c.in-None.ensures.outside c.exception.ensures c.in-None.ensures.same

pub returns-in-Err : goal.returns-in-Err
returns-in-Err c =
    let unspelled = rw c.as_bytes.ensures.value at c.in-Err.ensures.none in
    let told = rw c.as_bytes.ensures.value at c.in-Err.ensures.refused in
    faulty c.in-Err.fault c.args.self.now c.args.request.now c.exception-in-Err.result c.args.self.now (unspelled, told) (rw c.code_of.ensures at c.exception-in-Err.ensures) refl
