use Rattle.std.proofs.Common.{◌≡◌, ◌++◌, drop}
use Rattle.resolution.specs.Links.{begins_within}
use Rattle.resolution.proofs.links.begins_of.Given as goal

abbrev pub invariant-loop-shared : goal.invariant-loop-shared
invariant-loop-shared l = l.list ++ begins_within l.end l.at (drop l.shared-index l.lists) ≡ begins_within l.end 0 l.lists
