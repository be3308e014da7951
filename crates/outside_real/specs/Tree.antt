-- What a tree on a disk tells.
use Rattle.std.specs.Prelude.{ℕ}
use Rattle.outside_real.specs.declared.tree.RealTree.{RealTree}

abbrev pub tree_faults : {R F D : Type 0} → RealTree R F D → ℕ
tree_faults tree = tree.faults
