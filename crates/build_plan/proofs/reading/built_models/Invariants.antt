use Rattle.std.proofs.Common.{◌≡◌, ◌++◌, drop, filter_map, slice_get}
use Rattle.build_plan.proofs.reading.built_models.Given as goal

-- the models so far, and those of the numbers that are left
abbrev pub invariant-loop-number : goal.invariant-loop-number
invariant-loop-number l = l.list ++ filter_map (λ n. slice_get l.models n) (drop l.number-index l.built.numbers) ≡ l.initial.list ++ filter_map (λ n. slice_get l.models n) l.built.numbers
