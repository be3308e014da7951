use Rattle.std.proofs.Common.{◌≡◌, ◌++◌, drop, map}
use Rattle.module_plan.specs.Plans.{own_file}
use Rattle.module_plan.proofs.numbers.own_files.Given as goal

abbrev pub invariant-loop-output : goal.invariant-loop-output
invariant-loop-output l = l.list ++ map (own_file l.files) (drop l.output-index l.outputs) ≡ map (own_file l.files) l.outputs
