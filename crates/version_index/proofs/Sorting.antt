-- Sorted versions without repetitions are the set of the versions.
use Rattle.std.proofs.Common.{◌≡◌, ℕ, Bool, true, false, ◌||◌, List, [], ◌∷◌, refl, sym, ap, ◌∙◌, if◌then◌else◌}
use Rattle.std.specs.List.{AllByRecursion, dedup, dedup_from}
use Rattle.std.specs.List.Sorted.{IsPermutation, IsSorted, IsStrictlySortedBy}
use Rattle.std.specs.declared.cmp.Ordering.TheVariants.{Less}
use Rattle.std.specs.Ordering.{eq_by_cmp, nat_cmp}
use Rattle.std.specs.Cmp.Lexicographic.{nat_list_cmp_total, slice_cmp, texts_ties}
use Rattle.std.specs.Str.{bytes_eq}
use Rattle.std.proofs.lemmas.List.Kept.{IsStrictlySortedBy-dedup}
use Rattle.std.proofs.lemmas.List.Sorted.{list_any-IsPermutation}
use Rattle.std.proofs.lemmas.Slice.Eq.{bytes_eq-Decides}
use Rattle.version_index.specs.Sets.{IsAscending, IsUnder, has_version, version_set}
use Rattle.version_index.proofs.Sets.{has_set, same_versions, set_ascends}

is_under : (v : List ℕ) (xs : List (List ℕ)) → AllByRecursion (λ x. slice_cmp nat_cmp v x ≡ Less) xs → IsUnder v xs
is_under v [] all = tt
is_under v (x ∷ xs) all = (all.0, is_under v xs all.1)

is_ascending : (xs : List (List ℕ)) → IsStrictlySortedBy (slice_cmp nat_cmp) xs → IsAscending xs
unfolding IsStrictlySortedBy
is_ascending [] up = tt
is_ascending (x ∷ xs) up = (is_under x xs up.0, is_ascending xs up.1)

-- what is left out stands there once more
has_from : (q k : List ℕ) (xs : List (List ℕ)) → has_version q (dedup_from bytes_eq k xs) ≡ has_version q (k ∷ xs)
has_from q k [] = refl
has_from q k (x ∷ xs) = by (bytes_eq x k) refl (has_from q k xs) (has_from q x xs)
  where
    is : List ℕ → Bool
    is v = eq_by_cmp (slice_cmp nat_cmp) q v

    twice : (a b : Bool) → (a || b) ≡ (a || (a || b))
    twice true b = refl
    twice false b = refl

    by : (b : Bool) → bytes_eq x k ≡ b → has_version q (dedup_from bytes_eq k xs) ≡ has_version q (k ∷ xs) → has_version q (dedup_from bytes_eq x xs) ≡ has_version q (x ∷ xs)
        → has_version q (if b then dedup_from bytes_eq k xs else k ∷ dedup_from bytes_eq x xs) ≡ (is k || (is x || has_version q xs))
    by true e here there = here ∙ twice (is k) (has_version q xs) ∙ ap (λ y. is k || (is y || has_version q xs)) (sym ((bytes_eq-Decides x k).0 e))
    by false e here there = ap (λ b. is k || b) there

has_dedup : (q : List ℕ) (xs : List (List ℕ)) → has_version q (dedup bytes_eq xs) ≡ has_version q xs
has_dedup q [] = refl
has_dedup q (x ∷ xs) = has_from q x xs

pub set_of_sorted : (xs ys : List (List ℕ)) → IsPermutation xs ys → IsSorted (slice_cmp nat_cmp) ys → dedup bytes_eq ys ≡ version_set xs
set_of_sorted xs ys moved up =
    same_versions (dedup bytes_eq ys) (version_set xs) (is_ascending (dedup bytes_eq ys) (IsStrictlySortedBy-dedup nat_list_cmp_total texts_ties ys up)) (set_ascends xs)
    (λ q. has_dedup q ys ∙ sym (list_any-IsPermutation (eq_by_cmp (slice_cmp nat_cmp) q) xs ys moved) ∙ sym (has_set q xs))
