use Rattle.std.proofs.Common.{◌≡◌, ◌++◌, filter}
use Rattle.std.specs.FinMap as map
use Rattle.mvn_shared.specs.Files.{is_below}
use Rattle.mvn_shared.proofs.file_map.FileMap.names_below.Given as goal

-- the names so far, and those among what is left, are those among all
abbrev pub invariant-loop-name : goal.invariant-loop-name
invariant-loop-name l = l.names.items ++ filter (is_below l.folder) l.name-iterator ≡ filter (is_below l.folder) (map.keys l.self)
