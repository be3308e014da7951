-- Details from a place on.
use Rattle.std.proofs.Common.{◌≡◌, ◌<◌, ◌≤◌, arith, ℕ, zero, suc, ◌+◌, Bool, List, [], ◌∷◌, ◌++◌, drop, get_or, length, slice_get, Option, Some, None, refl, sym, ap, ◌∙◌}
use Rattle.std.proofs.lemmas.List.{append-nil}
use Rattle.model_types.specs.declared.model.Model.{Model}
use Rattle.classpaths.specs.declared.resolution.Resolution.{Resolution}
use Rattle.classpaths.specs.declared.resolution.Resolved.{Resolved}
use Rattle.report.specs.declared.details.Details.{Details}
use Rattle.report.specs.FullDetails.{details, details_of}
use Rattle.report.specs.Full.{file_of}

drop_some : {A : Type 0} (n : ℕ) (xs : List A) (x : A) → slice_get xs n ≡ Some x → drop n xs ≡ x ∷ drop (suc n) xs
drop_some n [] x e = cc
drop_some zero (y ∷ xs) x e = ap (λ z. z ∷ xs) (same e)
  where
    same : Some y ≡ Some x → y ≡ x
    same e = cc
drop_some (suc n) (y ∷ xs) x e = drop_some n xs x e

fewer : {A : Type 0} (n : ℕ) (y : A) (xs : List A) → length (y ∷ xs) ≤ suc n → length xs ≤ n
fewer n y xs le = omega (arith, le)

drop_past : {A : Type 0} (n : ℕ) (xs : List A) → length xs ≤ n → drop n xs ≡ []
drop_past zero [] le = refl
drop_past (suc n) [] le = refl
drop_past zero (y ∷ xs) le = absurd (omega (arith, le))
drop_past (suc n) (y ∷ xs) le = drop_past n xs (fewer n y xs le)

get_past : {A : Type 0} (n : ℕ) (xs : List A) → length xs ≤ n → slice_get xs n ≡ None
get_past zero [] le = refl
get_past (suc n) [] le = refl
get_past zero (y ∷ xs) le = absurd (omega (arith, le))
get_past (suc n) (y ∷ xs) le = get_past n xs (fewer n y xs le)

-- past the end there is no file
pub no_file : (files : List (List ℕ)) (winners : List Resolved) (place : ℕ) → length winners ≤ place → files ≡ files ++ file_of (slice_get winners place)
no_file files winners place le = sym (ap (λ (w : Option Resolved). files ++ file_of w) (get_past place winners le) ∙ append-nil files)

less : {A : Type 0} (n : ℕ) (y : A) (xs : List A) → suc n < length (y ∷ xs) → n < length xs
less n y xs lt = omega (arith, lt)

drop_at : {A : Type 0} (n : ℕ) (xs : List A) (d : A) → n < length xs → drop n xs ≡ get_or xs n d ∷ drop (suc n) xs
drop_at n [] d lt = absurd (omega (arith, lt))
drop_at zero (y ∷ xs) d lt = refl
drop_at (suc n) (y ∷ xs) d lt = drop_at n xs d (less n y xs lt)

-- one module more
pub details_step : (full : Bool) (n : ℕ) (models : List Model) (resolutions : List Resolution) (unbound : List (List (List ℕ))) (d : Model) (r : Resolution) (u : List (List ℕ)) → n < length models → slice_get resolutions n ≡ Some r → slice_get unbound n ≡ Some u
    → details_of full (drop n models) (drop n resolutions) (drop n unbound) ≡ details full (get_or models n d) r u ∷ details_of full (drop (n + 1) models) (drop (n + 1) resolutions) (drop (n + 1) unbound)
details_step full n models resolutions unbound d r u lt e f =
    let next : suc n ≡ n + 1 = omega arith in
    ap (λ (ms : List Model). details_of full ms (drop n resolutions) (drop n unbound)) (drop_at n models d lt)
    ∙ ap (λ (rs : List Resolution). details_of full (get_or models n d ∷ drop (suc n) models) rs (drop n unbound)) (drop_some n resolutions r e)
    ∙ ap (λ (us : List (List (List ℕ))). details_of full (get_or models n d ∷ drop (suc n) models) (r ∷ drop (suc n) resolutions) us) (drop_some n unbound u f)
    ∙ ap (λ k. details full (get_or models n d) r u ∷ details_of full (drop k models) (drop k resolutions) (drop k unbound)) next

no_resolutions : (full : Bool) (models : List Model) (unbound : List (List (List ℕ))) → details_of full models [] unbound ≡ []
no_resolutions full [] unbound = refl
no_resolutions full (m ∷ models) unbound = refl

no_unbound : (full : Bool) (models : List Model) (resolutions : List Resolution) → details_of full models resolutions [] ≡ []
no_unbound full [] resolutions = refl
no_unbound full (m ∷ models) [] = refl
no_unbound full (m ∷ models) (r ∷ resolutions) = refl

-- and none where something is at its end
pub details_out : (full : Bool) (n : ℕ) (models : List Model) (resolutions : List Resolution) (unbound : List (List (List ℕ))) → length resolutions ≤ n → details_of full (drop n models) (drop n resolutions) (drop n unbound) ≡ []
details_out full n models resolutions unbound le = ap (λ (rs : List Resolution). details_of full (drop n models) rs (drop n unbound)) (drop_past n resolutions le) ∙ no_resolutions full (drop n models) (drop n unbound)

pub details_end : (full : Bool) (n : ℕ) (models : List Model) (resolutions : List Resolution) (unbound : List (List (List ℕ))) → length unbound ≤ n → details_of full (drop n models) (drop n resolutions) (drop n unbound) ≡ []
details_end full n models resolutions unbound le = ap (λ (us : List (List (List ℕ))). details_of full (drop n models) (drop n resolutions) us) (drop_past n unbound le) ∙ no_unbound full (drop n models) (drop n resolutions)

-- what is told so far is all, where nothing is left
pub told_all : (list left all : List Details) → list ++ left ≡ all → left ≡ [] → list ≡ all
told_all list left all whole none = sym (append-nil list) ∙ sym (ap (λ (l : List Details). list ++ l) none) ∙ whole
