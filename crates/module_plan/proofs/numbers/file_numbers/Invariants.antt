use Rattle.std.proofs.Common.{◌≡◌, ◌++◌, drop}
use Rattle.module_plan.specs.Numbers.{numbers_of}
use Rattle.module_plan.proofs.numbers.file_numbers.Given as goal

abbrev pub invariant-loop-name : goal.invariant-loop-name
invariant-loop-name l = l.list ++ numbers_of l.files (drop l.name-index l.some) ≡ numbers_of l.files l.some
