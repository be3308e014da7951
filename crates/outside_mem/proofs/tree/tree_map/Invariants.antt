use Rattle.std.proofs.Common.{◌≡◌, fold}
use Rattle.std.specs.Vec.Iter.{into_iter_items}
use Rattle.outside_mem.specs.Tree.{with_file, files_of}
use Rattle.outside_mem.proofs.tree.tree_map.Given as goal

-- the map so far, with what is left, is that of all
abbrev pub invariant-loop-file : goal.invariant-loop-file
invariant-loop-file l = fold with_file l.map (into_iter_items l.file-iterator) ≡ files_of l.fn.files
