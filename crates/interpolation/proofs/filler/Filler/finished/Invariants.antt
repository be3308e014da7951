use Rattle.std.proofs.Common.{◌+◌, ◌*◌, List, [], ◌∷◌, None, reverse, vec_len}
use Rattle.mvn_base.specs.declared.machine.Pair.{Pair}
use Rattle.interpolation.specs.Tables.{Goes, IsStep, IsTable, fresh_count}
use Rattle.interpolation.proofs.filler.Filler.finished.Given as goal

abbrev pub invariant-loop-more : goal.invariant-loop-more
invariant-loop-more l = (known : List Pair) → IsStep known [] None l.fn.step → IsTable known (l.fn.step.name ∷ []) l.initial.self → Goes known l.fn.step.name l.self (reverse l.waiting.items) l.step

abbrev pub decreases-loop-more : goal.decreases-loop-more
decreases-loop-more l = 2 * fresh_count l.self + vec_len l.waiting
