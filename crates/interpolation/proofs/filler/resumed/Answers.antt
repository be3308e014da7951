use Rattle.interpolation.proofs.Steps.{goes_on, goes_wrong}
use Rattle.std.proofs.Common.{reverse}
use Rattle.interpolation.proofs.filler.resumed.Goals as goal

pub returns-in-Ok-clause-says : goal.returns-in-Ok-clause-says
returns-in-Ok-clause-says c = λ known name whole before filler is has waits table.
    goes_on known name c.args.text.now whole c.args.outer c.in-Ok.step (reverse c.args.waiting.items) before filler is has waits table c.in-Ok.ensures

pub returns-in-Err-clause-says : goal.returns-in-Err-clause-says
returns-in-Err-clause-says c = λ known name whole before filler is has waits table.
    goes_wrong known name c.args.text.now whole c.args.outer (reverse c.args.waiting.items) before filler c.in-Err.fault is has waits c.in-Err.ensures
