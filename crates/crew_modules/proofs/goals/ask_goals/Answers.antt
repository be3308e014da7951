use Rattle.std.proofs.Common.{[], ap, subst}
use Rattle.build_core.specs.declared.plan.PlanModule.{PlanModule}
use Rattle.crew_turns.specs.Asking.{IsRequestOf}
use Rattle.crew_turns.specs.Tasks.{IsTask}
use Rattle.crew_modules.proofs.Rounds.{begins}
use Rattle.crew_modules.proofs.goals.ask_goals.Goals as goal

pub answer_all-requires-clause-stands : goal.answer_all-requires-clause-stands
answer_all-requires-clause-stands g c =
    begins c.args.task.now c.args.lock.now c.args.paths.now c.args.pass.now (subst IsTask c.task.view_is c.task.invariant) c.requires.of c.requires.good c.in-Ok.request c.requires.path
    (subst (λ (u : PlanModule). IsRequestOf u [] c.in-Ok.request) (ap (λ v. v.unit) c.task.view_is) c.in-Ok.ensures)
