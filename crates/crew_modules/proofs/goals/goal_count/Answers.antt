use Rattle.std.proofs.Common.{◌<◌, ◌≤◌, length, ap, arith, subst, ◌∙◌}
use Rattle.crew_turns.specs.Tasks.{IsTask}
use Rattle.crew_modules.proofs.Few.{few_goals}
use Rattle.crew_modules.proofs.goals.goal_count.Goals as goal

pub small-requires : goal.small-requires
small-requires c =
    let t = c.args.task.now in
    let most : length t.unit.goals ≤ t.plan.events = few_goals t.plan t.number t.unit c.requires.sound (subst IsTask c.task.view_is c.task.invariant) in
    let few : t.plan.events < 4294967296 = c.requires.few in
    let len = c.len-count.ensures in
    let same = ap (λ v. length v.unit.goals) c.task.view_is in
    let low : c.len-count.result < 4294967296 = omega (arith, most, few, len, same) in
    low

pub returns : goal.returns
returns c = c.small.ensures ∙ c.len-count.ensures ∙ ap (λ v. length v.unit.goals) c.task.view_is
