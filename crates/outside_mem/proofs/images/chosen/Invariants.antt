use Rattle.std.proofs.Common.{◌≡◌, ◌++◌, drop}
use Rattle.outside_mem.specs.Image.{chosen}
use Rattle.outside_mem.proofs.images.chosen.Given as goal

-- what was found, and what is chosen of the rest, is what is chosen of all
abbrev pub invariant-loop-at : goal.invariant-loop-at
invariant-loop-at l = l.found.items ++ chosen (drop l.at l.names) (drop l.at l.newest) ≡ chosen l.names l.newest
