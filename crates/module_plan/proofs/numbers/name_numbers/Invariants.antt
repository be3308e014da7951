use Rattle.std.proofs.Common.{◌≡◌, ◌++◌, drop}
use Rattle.module_plan.specs.Numbers.{numbers_of}
use Rattle.module_plan.proofs.numbers.name_numbers.Given as goal

abbrev pub invariant-loop-name : goal.invariant-loop-name
invariant-loop-name l = l.list ++ numbers_of l.names (drop l.name-index l.some) ≡ numbers_of l.names l.some
