use Rattle.std.proofs.Common.{◌≡◌, ◌++◌}
use Rattle.std.specs.FinMap as map
use Rattle.mvn_shared.proofs.file_map.FileMap.names.Given as goal

-- what is taken and what is left are the names
abbrev pub invariant-loop-name : goal.invariant-loop-name
invariant-loop-name l = l.names.items ++ l.name-iterator ≡ map.keys l.fn.self
