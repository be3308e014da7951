use Rattle.std.proofs.Common.{◌≡◌, fold}
use Rattle.std.specs.Vec.Iter.{into_iter_items}
use Rattle.project_libraries.specs.Available.{with_version}
use Rattle.project_libraries.proofs.available_versions.add_versions.Given as goal

-- with the versions that are left, all versions
abbrev pub invariant-loop-version : goal.invariant-loop-version
invariant-loop-version l = fold with_version l.found (into_iter_items l.version-iterator) ≡ fold with_version l.initial.found l.fn.versions
