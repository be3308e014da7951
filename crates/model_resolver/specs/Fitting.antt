-- Laws of the worlds that a resolver fits.
use Rattle.std.proofs.Common.{◌≡◌, ℕ, Bool, true, false, List, Option, Some, sym, subst, ap, IfSome}
use Rattle.mvn_shared.specs.Files.{Files, is_there}
use Rattle.mvn_outside.specs.declared.shelf.ShelfTold.{ShelfTold}
use Rattle.pom_source.specs.Worlds.{World}
use Rattle.model_resolver.specs.Devices.{FitsTold, Told}
use Rattle.model_resolver.specs.Resolving.{FitsWorld, TellsSame, standing}
use Rattle.model_resolver.specs.declared.resolver.ModelResolver.{ModelResolver}

-- what may fail promises nothing
pub may_fail : (count : ℕ) → false ≡ true → count ≡ 0
may_fail count never = cc

module _ {T S R : Type 0} (tree_told : T → Option Files) (tree_faults : T → ℕ) (shelf_told : S → Option ShelfTold) (shelf_faults : S → ℕ)
    (remote_told : R → Option Files) (remote_faults : R → ℕ) where
  -- such a world says of each path whether a file is there as the tree does
  pub fits_tree : (fits : T → (List ℕ → Bool) → Type 0) → ((tree : T) → IfSome (tree_told tree) (λ files. fits tree (is_there files)))
      → (r : ModelResolver T S R) (world : World) → FitsWorld tree_told tree_faults shelf_told shelf_faults remote_told remote_faults r world → fits r.tree.now world.there
  fits_tree fits agrees r world fit =
      let told : tree_told r.tree.now ≡ Some fit.tree = ap (λ (t : Told). t.tree) fit.told_so in
      let there : fits r.tree.now (is_there fit.tree) = subst (λ o. IfSome o (λ files. fits r.tree.now (is_there files))) told (agrees r.tree.now) in
      subst (fits r.tree.now) (sym fit.finds.there) there

  -- what tells the same fits the same worlds
  pub fits_still : (before now : ModelResolver T S R) (world : World) → TellsSame tree_told tree_faults shelf_told shelf_faults remote_told remote_faults before now
      → FitsWorld tree_told tree_faults shelf_told shelf_faults remote_told remote_faults before world → FitsWorld tree_told tree_faults shelf_told shelf_faults remote_told remote_faults now world
  fits_still before now world same fit =
      subst (λ t. FitsTold t now.project.now world) (sym same.keeps.told) (subst (λ p. FitsTold (standing tree_told tree_faults shelf_told shelf_faults remote_told remote_faults before).told p world) (sym same.keeps.project) fit)
