-- Where a worker's script is while its module is installed, place by place.
use Rattle.std.proofs.Common.{◌≡◌, ℕ, zero, suc, ◌+◌, ◌-◌, ◌<◌, ◌≤◌, Bool, true, false, nat_eq, List, [], ◌∷◌, length, drop, get_or, Some, arith, sym, ap, subst, ◌∙◌, if◌then◌else◌}
use Rattle.std.specs.List.{AllByRecursion, IsDistinct}
use Rattle.std.proofs.lemmas.Bool.Decides.{nat_tests}
use Rattle.std.proofs.lemmas.Map.Keys.{IsDistinct-head, IsDistinct-tail}
use Rattle.build_core.specs.declared.mode.Mode.TheVariants.{Exclusive}
use Rattle.scripts.specs.declared.outline.ModuleOutline.{ModuleOutline}
use Rattle.scripts.specs.declared.deed.Deed.TheVariants as deed
use Rattle.scripts.specs.declared.script_place.ScriptPlace.TheVariants as place
use Rattle.scripts.specs.Scripts.{done, frees, may_publish, own_script, settled, step, steps, takes, whole}
use Rattle.scripts.specs.ScriptPlaces.{rest_of}
use Rattle.scripts.proofs.Dues.{found_own, own_freed_yes, own_yes, pass_own, pom_yes, stop_own}
use Rattle.scripts.proofs.ScriptPlaces.{answering_end, own_end, securing_stays}

itself : (n : ℕ) → nat_eq n n ≡ true
itself n = grind (arith, nat_tests)

-- ---- files that differ

-- a file isn't one behind it
later_differs : (x : ℕ) (xs : List ℕ) (i : ℕ) → AllByRecursion (λ y. nat_eq x y ≡ false) xs → i < length xs → nat_eq x (get_or xs i 0) ≡ false
later_differs x [] i all low = absurd (omega (arith, low))
later_differs x (y ∷ xs) zero all low = all.0
later_differs x (y ∷ xs) (suc i) all low = later_differs x xs i all.1 (omega (arith, low))

flipped : (x y : ℕ) → nat_eq x y ≡ false → nat_eq y x ≡ false
flipped x y is = grind (arith, nat_tests, is)

-- nor one before it
pub earlier_differs : (xs : List ℕ) (i j : ℕ) → IsDistinct nat_eq xs → i < j → j < length xs → nat_eq (get_or xs j 0) (get_or xs i 0) ≡ false
earlier_differs [] i j differ less low = absurd (omega (arith, low))
earlier_differs (x ∷ xs) i zero differ less low = absurd (omega (arith, less))
earlier_differs (x ∷ xs) zero (suc j) differ less low = flipped x (get_or xs j 0) (later_differs x xs j (IsDistinct-head nat_eq x xs differ) (omega (arith, low)))
earlier_differs (x ∷ xs) (suc i) (suc j) differ less low = earlier_differs xs i j (IsDistinct-tail nat_eq x xs differ) (omega (arith, less)) (omega (arith, low))

-- ---- scripts

module _ (m : ModuleOutline) where
  -- when all goals are answered the module is to be installed
  pub answered : (there : List Bool) (empty : Bool) → settled there empty (rest_of m (place.Answering m.goals)) ≡ rest_of m place.Securing
  answered there empty = ap (settled there empty) (answering_end m m.goals (omega arith)) ∙ securing_stays m there empty

  -- or to end
  pub not_installed : m.installs ≡ false → rest_of m place.Securing ≡ whole
  unfolding rest_of
  not_installed is = ap (λ b. if b then step 6 (takes Exclusive m.own_name) (own_script m.own) else whole) is

  pub installed : m.installs ≡ true → rest_of m place.Securing ≡ step 6 (takes Exclusive m.own_name) (own_script m.own)
  unfolding rest_of
  installed is = ap (λ b. if b then step 6 (takes Exclusive m.own_name) (own_script m.own) else whole) is

  pub name_due : m.installs ≡ true → done (rest_of m place.Securing) (deed.Take Exclusive m.own_name) ≡ Some (rest_of m (place.Installing 0))
  name_due is = sym (own_yes m m.own_name is (itself m.own_name))

  -- an own file that stands at a place or before it is published, and those between are passed over
  passes : (at : ℕ) → IsDistinct nat_eq m.own → at < length m.own → (d i : ℕ) → i + d ≡ at
      → Some (steps 6 may_publish (drop (at + 1) m.own) (step 6 frees whole)) ≡ done (steps 6 may_publish (drop i m.own) (step 6 frees whole)) (deed.Publish (get_or m.own at 0))
  passes at differ low zero i is =
      let here : i ≡ at = omega (arith, is) in
      subst (λ k. Some (steps 6 may_publish (drop (at + 1) m.own) (step 6 frees whole)) ≡ done (steps 6 may_publish (drop k m.own) (step 6 frees whole)) (deed.Publish (get_or m.own at 0))) (sym here)
      (stop_own m.own at (get_or m.own at 0) low (itself (get_or m.own at 0)) (step 6 frees whole))
  passes at differ low (suc d) i is =
      let less : i < at = omega (arith, is) in
      passes at differ low d (i + 1) (omega (arith, is))
      ∙ pass_own m.own i (get_or m.own at 0) (omega (arith, less, low)) (earlier_differs m.own i at differ less low) (step 6 frees whole)

  pub file_due : (here at : ℕ) → IsDistinct nat_eq m.own → here ≤ at → (0 < at → 0 < here) → at < length m.own
      → done (rest_of m (place.Installing here)) (deed.Publish (get_or m.own at 0)) ≡ Some (rest_of m (place.Installing (at + 1)))
  file_due zero zero differ behind begun low = sym (pom_yes m (get_or m.own 0 0) low (itself (get_or m.own 0 0)))
  file_due zero (suc at) differ behind begun low = absurd (omega (arith, begun (omega arith)))
  file_due (suc here) at differ behind begun low =
      sym (found_own m (suc here) at (get_or m.own at 0) (omega arith) (passes at differ low (at - suc here) (suc here) (omega (arith, behind))))

  -- behind the POM's file the name may be freed
  pub free_due : (here : ℕ) → 0 < here → done (rest_of m (place.Installing here)) deed.Free ≡ Some (step 6 frees whole)
  unfolding rest_of
  free_due here above = sym (own_freed_yes m here above) ∙ ap (λ s. Some s) (own_end m.own (length m.own) (omega arith))
