-- What is said where the three devices tell.
use Rattle.std.proofs.Common.{◌≡◌, Option, Some, None, subst}
use Rattle.mvn_shared.specs.Files.{Files}
use Rattle.mvn_outside.specs.Shelf.{files_now}
use Rattle.mvn_outside.specs.declared.shelf.ShelfTold.{ShelfTold}
use Rattle.project_models.specs.Telling.{IfTold}

-- from what is told of two, what is told of a third
pub told_two : (a : Option Files) (b : Option ShelfTold) (c : Option Files) (P Q R : Files → Files → Files → Type 0)
    → ((x y z : Files) → P x y z → Q x y z → R x y z) → IfTold a b c P → IfTold a b c Q → IfTold a b c R
told_two None b c P Q R f p q = tt
told_two (Some x) None c P Q R f p q = tt
told_two (Some x) (Some y) None P Q R f p q = tt
told_two (Some x) (Some y) (Some z) P Q R f p q = f x (files_now y) z p q

pub told_one : (a : Option Files) (b : Option ShelfTold) (c : Option Files) (P R : Files → Files → Files → Type 0)
    → ((x y z : Files) → P x y z → R x y z) → IfTold a b c P → IfTold a b c R
told_one None b c P R f p = tt
told_one (Some x) None c P R f p = tt
told_one (Some x) (Some y) None P R f p = tt
told_one (Some x) (Some y) (Some z) P R f p = f x (files_now y) z p

-- what holds of all files holds of what is told
pub told_any : (a : Option Files) (b : Option ShelfTold) (c : Option Files) (R : Files → Files → Files → Type 0)
    → ((x y z : Files) → R x y z) → IfTold a b c R
told_any None b c R f = tt
told_any (Some x) None c R f = tt
told_any (Some x) (Some y) None R f = tt
told_any (Some x) (Some y) (Some z) R f = f x (files_now y) z

-- devices that tell the same
pub told_same : (a a2 : Option Files) (b b2 : Option ShelfTold) (c c2 : Option Files) (R : Files → Files → Files → Type 0)
    → a2 ≡ a → b2 ≡ b → c2 ≡ c → IfTold a2 b2 c2 R → IfTold a b c R
told_same a a2 b b2 c c2 R one two three p =
    subst (λ o. IfTold o b c R) one (subst (λ o. IfTold a2 o c R) two (subst (λ o. IfTold a2 b2 o R) three p))
