use Rattle.std.proofs.Common.{refl}
use Rattle.generated.proofs.Building.{generates_none}
use Rattle.generated.proofs.run.build_generated.Goals as goal

pub returns-in-Err : goal.returns-in-Err
returns-in-Err g c =
    let call = c.nothing in
    record { generates = generates_none c.args.poms c.args.line.now c.args.machine call.result.trace call.result.answers call.result.outcome c.in-Err.error call.ensures.outcome call.ensures.trace call.ensures.answers }
