use Rattle.std.proofs.Common.{◌≡◌, ◌++◌, map, drop}
use Rattle.outside_mem.specs.Image.{as_file}
use Rattle.outside_mem.proofs.images.add_all.Given as goal

-- what is added, with the rest, is what was there with all
abbrev pub invariant-loop-publish : goal.invariant-loop-publish
invariant-loop-publish l = l.files.items ++ map as_file (drop l.publish-index l.publishes) ≡ l.fn.files.items ++ map as_file l.publishes
