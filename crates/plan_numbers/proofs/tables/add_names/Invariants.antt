use Rattle.std.proofs.Common.{◌≡◌, drop, fold}
use Rattle.classpaths.specs.Classpaths.{with_name}
use Rattle.plan_numbers.proofs.tables.add_names.Given as goal

abbrev pub invariant-loop-name : goal.invariant-loop-name
invariant-loop-name l = fold with_name l.files (drop l.name-index l.names) ≡ fold with_name l.initial.files l.names
