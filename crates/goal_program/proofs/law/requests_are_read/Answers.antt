use Rattle.goal_program.proofs.Requests.{request_is_read}
use Rattle.goal_program.proofs.law.requests_are_read.Goals as goal

pub returns : goal.returns
returns c = request_is_read
