use Rattle.std.proofs.Common.{◌≡◌, drop, fold}
use Rattle.classpaths.specs.Classpaths.{with_name}
use Rattle.module_plan.specs.Ready.{names_in}
use Rattle.plan_numbers.proofs.tables.add_outputs.Given as goal

abbrev pub invariant-loop-output : goal.invariant-loop-output
invariant-loop-output l = fold with_name l.files (names_in (drop l.output-index l.outputs)) ≡ fold with_name l.initial.files (names_in l.outputs)
