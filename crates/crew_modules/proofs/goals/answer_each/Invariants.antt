use Rattle.std.specs.Prelude.{◌≡◌, ◌≤◌, length}
use Rattle.crew_modules.specs.Answering.{Goes, IsAnswering}
use Rattle.crew_modules.proofs.goals.answer_each.Given as goal

-- so many goals are answered, all well, and the gate has not failed
abbrev pub invariant-loop-goal : goal.invariant-loop-goal
invariant-loop-goal g l = record {
  low : l.goal ≤ length l.task.unit.goals;
  stands : IsAnswering l.task l.lock l.paths l.goal l.request l.pass;
  way : Goes l.task (g.G.Gate.answers l.fn.gate) l.fn.pass l.pass;
  same : g.G.Gate.answers l.gate ≡ g.G.Gate.answers l.fn.gate;
  quiet : g.G.Gate.faults l.gate ≡ g.G.Gate.faults l.fn.gate;
}
