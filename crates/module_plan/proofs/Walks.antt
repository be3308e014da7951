-- Walks over the dependencies of a module.
use Rattle.std.proofs.Common.{◌≡◌, ℕ, Bool, true, false, ◌&&◌, not, List, [], ◌∷◌, ◌++◌, filter, flat_map, fold, map, refl, sym, ap, ◌∙◌, if◌then◌else◌}
use Rattle.mvn_shared.specs.Files.{Files}
use Rattle.mvn_base.specs.Gav.{lock_name}
use Rattle.mvn_base.specs.declared.gav.Gav.{Gav}
use Rattle.classpaths.specs.Classpaths.{files_of, with_name}
use Rattle.classpaths.specs.declared.resolution.Resolved.{Resolved}
use Rattle.module_plan.specs.Numbers.{with_text, with_texts}
use Rattle.module_plan.specs.Uses.{fetched_locks, has_names, is_selected}

-- a list folded in two parts
pub fold_append : {A B : Type 0} (f : B → A → B) (b : B) (xs ys : List A) → fold f b (xs ++ ys) ≡ fold f (fold f b xs) ys
fold_append f b [] ys = refl
fold_append f b (x ∷ xs) ys = fold_append f (f b x) xs ys

-- the files of one dependency, and then those of the rest
pub one_file_more : (built : List Gav) (files : List (List ℕ)) (w : Resolved) (rest : List Resolved)
    → fold with_name (if has_names w then fold with_name files (files_of (is_selected built) w) else files) (flat_map (files_of (is_selected built)) (filter has_names rest))
    ≡ fold with_name files (flat_map (files_of (is_selected built)) (filter has_names (w ∷ rest)))
one_file_more built files w rest = by (has_names w)
  where
    by : (b : Bool) → fold with_name (if b then fold with_name files (files_of (is_selected built) w) else files) (flat_map (files_of (is_selected built)) (filter has_names rest))
        ≡ fold with_name files (flat_map (files_of (is_selected built)) (if b then w ∷ filter has_names rest else filter has_names rest))
    by true = sym (fold_append with_name files (files_of (is_selected built) w) (flat_map (files_of (is_selected built)) (filter has_names rest)))
    by false = refl

-- the lock of one dependency, and then those of the rest
pub one_lock_more : (built : List Gav) (locks : Files) (w : Resolved) (rest : List Resolved)
    → with_texts (if has_names w && not (is_selected built w.gav) then with_text locks (lock_name w.gav) else locks) (fetched_locks built (filter has_names rest))
    ≡ with_texts locks (fetched_locks built (filter has_names (w ∷ rest)))
one_lock_more built locks w rest = by (has_names w)
  where
    inner : (b : Bool) → with_texts (if b then with_text locks (lock_name w.gav) else locks) (fetched_locks built (filter has_names rest))
        ≡ with_texts locks (map (λ (x : Resolved). lock_name x.gav) (if b then w ∷ filter (λ (x : Resolved). not (is_selected built x.gav)) (filter has_names rest) else filter (λ (x : Resolved). not (is_selected built x.gav)) (filter has_names rest)))
    inner true = refl
    inner false = refl

    by : (a : Bool) → with_texts (if a && not (is_selected built w.gav) then with_text locks (lock_name w.gav) else locks) (fetched_locks built (filter has_names rest))
        ≡ with_texts locks (fetched_locks built (if a then w ∷ filter has_names rest else filter has_names rest))
    by true = inner (not (is_selected built w.gav))
    by false = refl
