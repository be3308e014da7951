use Rattle.std.proofs.Common.{◌≡◌, ◌++◌, drop, take}
use Rattle.version_index.specs.Sets.{put_version}
use Rattle.version_index.proofs.set.place.Given as goal

-- it comes in among those that are left
abbrev pub invariant-loop-at : goal.invariant-loop-at
invariant-loop-at l = take l.at l.versions ++ put_version (drop l.at l.versions) l.version ≡ put_version l.versions l.version
