use Rattle.std.proofs.Common.{◌≡◌, take}
use Rattle.std.specs.List.{filter_map}
use Rattle.mvn_base.specs.FileName.{version_in}
use Rattle.mvn_outside.proofs.versions.versions_among.Given as goal

abbrev pub invariant-loop-name : goal.invariant-loop-name
invariant-loop-name l = l.versions.items ≡ filter_map (version_in l.group l.artifact) (take l.name-index l.names)
