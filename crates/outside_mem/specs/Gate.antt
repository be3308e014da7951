-- What a gate in memory has left to answer.
use Rattle.std.specs.Prelude.{List}
use Rattle.std.specs.Vec.Iter.{into_iter_items}
use Rattle.goal_types.specs.declared.goal.GoalAnswer.{GoalAnswer}
use Rattle.outside_mem.specs.declared.gate.MemGate.{MemGate}

abbrev pub gate_answers : {F : Type 0} → MemGate F → List GoalAnswer
gate_answers gate = into_iter_items gate.answers
