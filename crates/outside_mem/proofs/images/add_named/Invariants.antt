use Rattle.std.proofs.Common.{◌≡◌, ◌++◌, drop}
use Rattle.outside_mem.specs.Image.{files_named_in}
use Rattle.outside_mem.proofs.images.add_named.Given as goal

-- what is added, with those of the rest, is what was there with those of all
abbrev pub invariant-loop-publish : goal.invariant-loop-publish
invariant-loop-publish l = l.files.items ++ files_named_in l.names (drop l.publish-index l.publishes) ≡ l.fn.files.items ++ files_named_in l.names l.publishes
