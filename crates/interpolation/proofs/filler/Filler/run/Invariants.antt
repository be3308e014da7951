use Rattle.std.proofs.Common.{◌≡◌, ℕ, List, ◌∷◌, None}
use Rattle.std.specs.Vec.Iter.{into_iter_len}
use Rattle.mvn_base.specs.declared.machine.Pair.{Pair}
use Rattle.interpolation.specs.Tables.{IsStep, IsTable, fresh_count}
use Rattle.interpolation.proofs.filler.Filler.run.Given as goal

abbrev pub invariant-loop-next : goal.invariant-loop-next
invariant-loop-next l = (fresh_count l.self ≡ fresh_count l.initial.self) × ((known : List Pair) (seen : List (List ℕ)) → IsTable known (l.fn.step.name ∷ seen) l.initial.self → IsStep known seen None l.fn.step → (l.step.name ≡ l.fn.step.name) × IsStep known seen None l.step × IsTable known (l.step.name ∷ seen) l.self)

abbrev pub decreases-loop-next : goal.decreases-loop-next
decreases-loop-next l = into_iter_len l.step.rest
