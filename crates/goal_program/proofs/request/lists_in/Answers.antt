use Rattle.std.proofs.Common.{codes}
use Rattle.serde_json.specs.View.{view}
use Rattle.goal_program.proofs.Taking.{found_kept}
use Rattle.goal_program.proofs.request.lists_in.Goals as goal

pub returns-clause-slots : goal.returns-clause-slots
returns-clause-slots c = found_kept (codes "own") (view c.args.value.now) c.in-Some.rest.now c.in_ok-own.field-0 c.in-Some-2.own c.in-Some-2.rest c.in-Some-2.is c.in_ok-own.ensures
