use Rattle.std.proofs.Common.{◌≡◌}
use Rattle.std.specs.List.{list_any}
use Rattle.std.specs.FinMap as map
use Rattle.mvn_shared.specs.Files.{is_below}
use Rattle.mvn_shared.proofs.file_map.FileMap.is_there.Given as goal

-- what is left has a name below the path where all have
abbrev pub invariant-loop-name : goal.invariant-loop-name
invariant-loop-name l = list_any (is_below l.path) l.name-iterator ≡ list_any (is_below l.path) (map.keys l.self)
