use Rattle.std.proofs.Common.{◌≡◌, length, subst, arith, ◌∙◌}
use Rattle.crew_modules.specs.Answering.{IsAnswering}
use Rattle.crew_modules.proofs.Rounds.{goes_further}
use Rattle.crew_modules.proofs.goals.answer_each.Goals as goal

pub goal_count-count-requires : goal.goal_count-count-requires
goal_count-count-requires g c = record { sound = c.requires.stands.of.sound; few = c.requires.few }

pub returns-in-Some-clause-way : goal.returns-in-Some-clause-way
returns-in-Some-clause-way g c =
    goes_further c.args.task.now (g.G.Gate.answers c.args.gate.now) (g.G.Gate.answers c.loop-goal.gate) c.args.pass.now c.loop-goal.pass c.answer_goal.new.pass c.loop-goal.invariant.same c.loop-goal.invariant.way c.in-Some.ensures.way

pub loop-goal-preserved : goal.loop-goal-preserved
loop-goal-preserved g c =
    let low = c.loop-goal-test.true in
    let all = c.goal_count-count.ensures in
    record {
      low = omega (arith, low, all);
      stands = c.in-None.ensures.left;
      way =
          goes_further c.args.task.now (g.G.Gate.answers c.args.gate.now) (g.G.Gate.answers c.loop-goal.gate) c.args.pass.now c.loop-goal.pass c.answer_goal.new.pass c.loop-goal.invariant.same c.loop-goal.invariant.way c.in-None.ensures.way;
      same = c.in-None.ensures.same ∙ c.loop-goal.invariant.same;
      quiet = c.in-None.ensures.cause ∙ c.loop-goal.invariant.quiet;
    }

pub returns-clause-left : goal.returns-clause-left
returns-clause-left g c =
    let over = c.loop-goal-test.false in
    let low = c.loop-goal.invariant.low in
    let all = c.goal_count-count.ensures in
    let last : c.loop-goal.goal ≡ length c.args.task.now.unit.goals = omega (arith, over, low, all) in
    subst (λ n. IsAnswering c.args.task.now c.args.lock.now c.args.paths.now n c.loop-goal.request c.loop-goal.pass) last c.loop-goal.invariant.stands
