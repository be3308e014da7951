-- What a repository on a disk holds: its folder, the folders that are noted, which `settle` brings to the disk, and its faults.
use Rattle.std.specs.Prelude.{ℕ, List}
use Rattle.std.specs.BTreeSet.{BTreeSet}
use Rattle.outside_real.specs.declared.shelf.RealShelf.{RealShelf}

abbrev pub shelf_faults : {R D : Type 0} → RealShelf R D → ℕ
shelf_faults shelf = shelf.faults

abbrev pub root_of : {R D : Type 0} → RealShelf R D → List ℕ
root_of shelf = shelf.root

abbrev pub noted : {R D : Type 0} → RealShelf R D → BTreeSet (List ℕ)
noted shelf = shelf.changed
