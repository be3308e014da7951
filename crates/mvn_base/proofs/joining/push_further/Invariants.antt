use Rattle.std.proofs.Common.{◌≡◌, ◌∷◌, ◌++◌, flat_map, map, drop}
use Rattle.std.specs.String.{string_bytes}
use Rattle.mvn_base.proofs.joining.push_further.Given as goal

abbrev pub invariant-loop-step : goal.invariant-loop-step
invariant-loop-step l = string_bytes l.path ++ flat_map (λ t. 47 ∷ t) (map (λ x. x.now) (drop l.step-index l.steps)) ≡ string_bytes l.initial.path ++ flat_map (λ t. 47 ∷ t) (map (λ x. x.now) l.steps)
