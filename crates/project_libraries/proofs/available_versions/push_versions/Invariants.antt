use Rattle.std.proofs.Common.{◌≡◌, ◌++◌, drop, filter_map}
use Rattle.project_libraries.specs.Available.{version_of}
use Rattle.project_libraries.proofs.available_versions.push_versions.Given as goal

-- the versions so far, and those that are left
abbrev pub invariant-loop-model : goal.invariant-loop-model
invariant-loop-model l = l.list ++ filter_map (version_of l.group l.artifact) (drop l.model-index l.own) ≡ l.initial.list ++ filter_map (version_of l.group l.artifact) l.own
