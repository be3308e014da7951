-- The first of some files that isn't there, one place after another.
use Rattle.std.proofs.Common.{◌≡◌, ℕ, zero, suc, ◌-◌, ◌<◌, ◌≤◌, Bool, true, false, List, [], ◌∷◌, length, drop, take, Option, Some, None, refl, arith, sym, subst}
use Rattle.std.specs.List.{list_all, slice_index_or}
use Rattle.scripts.specs.Scripts.{is_there}
use Rattle.run_law.proofs.Basics.{and_is}
use Rattle.run_law.specs.Absent.{IsFirstAbsent}

module _ (there : List Bool) where
  -- a file more in front that is there
  pub one_there : (files : List ℕ) (at : ℕ) (found : Option ℕ) → at < length files → is_there there (slice_index_or files at 0) ≡ true → IsFirstAbsent there files (suc at) found → IsFirstAbsent there files at found
  one_there [] at found low here is = absurd (omega (arith, low))
  one_there (x ∷ files) zero None low here is = and_is (is_there there x) (list_all (is_there there) files) here is
  one_there (x ∷ files) zero (Some zero) low here is = absurd (omega (arith, is.0))
  one_there (x ∷ files) zero (Some (suc k)) low here is =
      let more : suc k - 0 ≡ suc (suc k - 1) = omega arith in
      (omega arith, is.1, subst (λ n. list_all (is_there there) (take n (x ∷ files)) ≡ true) (sym more) (and_is (is_there there x) (list_all (is_there there) (take (suc k - 1) files)) here is.2), is.3)
  one_there (x ∷ files) (suc at) None low here is = one_there files at None (omega (arith, low)) here is
  one_there (x ∷ files) (suc at) (Some zero) low here is = absurd (omega (arith, is.0))
  one_there (x ∷ files) (suc at) (Some (suc k)) low here is =
      let less : suc k - suc (suc at) ≡ k - suc at = omega arith in
      let again = one_there files at (Some k) (omega (arith, low)) here (omega (arith, is.0), omega (arith, is.1), subst (λ n. list_all (is_there there) (take n (drop (suc at) files)) ≡ true) less is.2, is.3) in
      let more : k - at ≡ suc k - suc at = omega arith in
      (omega (arith, again.0), omega (arith, again.1), subst (λ n. list_all (is_there there) (take n (drop at files)) ≡ true) more again.2, again.3)

  -- behind the last file there is none
  pub none_left : (files : List ℕ) (at : ℕ) → length files ≤ at → IsFirstAbsent there files at None
  none_left [] zero low = refl
  none_left [] (suc at) low = refl
  none_left (x ∷ files) zero low = absurd (omega (arith, low))
  none_left (x ∷ files) (suc at) low = none_left files at (omega (arith, low))

  -- a file that isn't there is the first from its place on
  pub this_one : (files : List ℕ) (at : ℕ) → at < length files → is_there there (slice_index_or files at 0) ≡ false → IsFirstAbsent there files at (Some at)
  this_one files at low here =
      let none : 0 ≡ at - at = omega arith in
      (omega arith, low, subst (λ n. list_all (is_there there) (take n (drop at files)) ≡ true) none (none_taken (drop at files)), here)
    where
      none_taken : (xs : List ℕ) → list_all (is_there there) (take 0 xs) ≡ true
      none_taken [] = refl
      none_taken (x ∷ xs) = refl
