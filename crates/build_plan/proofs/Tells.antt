-- What is said where the three devices tell, of what one of them tells.
use Rattle.std.proofs.Common.{Option, Some, None, IfSome}
use Rattle.mvn_shared.specs.Files.{Files}
use Rattle.mvn_outside.specs.Shelf.{files_now}
use Rattle.mvn_outside.specs.declared.shelf.ShelfTold.{ShelfTold}
use Rattle.project_models.specs.Telling.{IfTold}

-- the project's folder
pub tree_told : (a : Option Files) (b : Option ShelfTold) (c : Option Files) (P : Files → Type 0) (R : Files → Files → Files → Type 0)
    → ((x y z : Files) → P x → R x y z) → IfSome a P → IfTold a b c R
tree_told None b c P R f p = tt
tree_told (Some x) None c P R f p = tt
tree_told (Some x) (Some y) None P R f p = tt
tree_told (Some x) (Some y) (Some z) P R f p = f x (files_now y) z p

-- the local repository
pub shelf_told : (a : Option Files) (b : Option ShelfTold) (c : Option Files) (P : Files → Type 0) (R : Files → Files → Files → Type 0)
    → ((x y z : Files) → P y → R x y z) → IfSome b (λ told. P (files_now told)) → IfTold a b c R
shelf_told None b c P R f p = tt
shelf_told (Some x) None c P R f p = tt
shelf_told (Some x) (Some y) None P R f p = tt
shelf_told (Some x) (Some y) (Some z) P R f p = f x (files_now y) z p
