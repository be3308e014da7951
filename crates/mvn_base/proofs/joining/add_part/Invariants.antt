use Rattle.std.proofs.Common.{◌≡◌, fold, map, drop}
use Rattle.mvn_base.specs.Paths.{add_step}
use Rattle.mvn_base.proofs.joining.add_part.Given as goal

abbrev pub invariant-loop-step : goal.invariant-loop-step
invariant-loop-step l = fold add_step (map (λ x. x.now) l.done.items) (map (λ x. x.now) (drop l.step-index l.step-items)) ≡ fold add_step (map (λ x. x.now) l.initial.done.items) (map (λ x. x.now) l.step-items)
