use Rattle.std.proofs.Common.{◌≡◌, None, drop}
use Rattle.build_core.specs.OneThread.{answer_at}
use Rattle.board.specs.Walks.{no_sizes, walk_of}
use Rattle.board.proofs.table.AnswerTable.walk.Given as goal

abbrev pub invariant-loop-goal : goal.invariant-loop-goal
invariant-loop-goal l = walk_of l.fn.module.budget (answer_at l.fn.self.kept l.fn.number) l.fn.slot l.goal (drop l.goal l.fn.module.goals) l.sizes l.found
    ≡ walk_of l.fn.module.budget (answer_at l.fn.self.kept l.fn.number) l.fn.slot 0 l.fn.module.goals no_sizes None
