-- The way down to a folder, from the folder upwards.
use Rattle.std.proofs.Common.{◌≡◌, ℕ, zero, suc, Bool, false, ◌||◌, List, ◌∷◌, Option, Some, None, slice_get, refl, ap, ◌∙◌}
use Rattle.std.specs.List.{list_any}
use Rattle.outside_real.specs.declared.walk.Folder.{Folder}
use Rattle.outside_real.specs.Walk.{way_down}

module _ (test : Folder → Bool) (folders : List Folder) where
  -- no folder is left
  pub way_ends : (n : ℕ) → list_any test (way_down n folders None) ≡ false
  way_ends zero = refl
  way_ends (suc n) = refl

  -- at a folder
  pub way_goes_on : (n m place : ℕ) (folder : Folder) → n ≡ suc m → slice_get folders place ≡ Some folder
      → list_any test (way_down n folders (Some place)) ≡ (test folder || list_any test (way_down m folders folder.above))
  way_goes_on n m place folder more is = ap (λ k. list_any test (way_down k folders (Some place))) more ∙ rw is refl

  -- at no folder
  pub way_lost : (n m place : ℕ) → n ≡ suc m → slice_get folders place ≡ None → list_any test (way_down n folders (Some place)) ≡ false
  way_lost n m place more is = ap (λ k. list_any test (way_down k folders (Some place))) more ∙ rw is refl
