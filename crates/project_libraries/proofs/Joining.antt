-- Versions in parts.
use Rattle.std.proofs.Common.{◌≡◌, ℕ, List, [], ◌∷◌, ◌++◌, fold, Option, Some, None, IfSome, IfOk, Result, filter_map, refl, sym, ap, subst, ◌∙◌}
use Rattle.std.specs.FinMap as map
use Rattle.std.proofs.lemmas.List.{append_assoc}
use Rattle.std.proofs.lemmas.List.Elements.{filter_map-append}
use Rattle.mvn_shared.specs.Files.{Files}
use Rattle.mvn_outside.specs.Shelf.{files_now}
use Rattle.mvn_outside.specs.declared.shelf.ShelfTold.{ShelfTold}
use Rattle.model_types.specs.declared.model.Model.{Model}
use Rattle.project_libraries.specs.Available.{available, each_once, joined, listed, version_of, with_version, within_most}

-- one after another
pub one_by_one : {A B : Type 0} (f : A → Option B) (list : List B) (x : A) (xs : List A) → (list ++ filter_map f (x ∷ [])) ++ filter_map f xs ≡ list ++ filter_map f (x ∷ xs)
one_by_one f list x xs = append_assoc list (filter_map f (x ∷ [])) (filter_map f xs) ∙ ap (λ l. list ++ l) (sym (filter_map-append f (x ∷ []) xs))

-- a fold of two lists, one after the other
pub fold_both : {A B : Type 0} (f : B → A → B) (start : B) (xs ys : List A) → fold f start (xs ++ ys) ≡ fold f (fold f start xs) ys
fold_both f start [] ys = refl
fold_both f start (x ∷ xs) ys = fold_both f (f start x) xs ys

-- three lists, one after another
pub all_three : (none one two three : Files) (own local remote : List (List ℕ)) → none ≡ map.empty → one ≡ fold with_version none own
    → two ≡ fold with_version one local → three ≡ fold with_version two remote → map.keys three ≡ each_once (own ++ local ++ remote)
unfolding each_once
all_three none one two three own local remote e f g h =
    ap map.keys (h ∙ ap (λ m. fold with_version m remote) (g ∙ ap (λ m. fold with_version m local) (f ∙ ap (λ m. fold with_version m own) e))
    ∙ sym (fold_both with_version map.empty (own ++ local) remote ∙ ap (λ m. fold with_version m remote) (fold_both with_version map.empty own local)))

-- the modules' versions and the local ones, with the remote ones
pub available_of : {E : Type 0} (shelf : Option ShelfTold) (remote : Option Files) (own : List Model) (group artifact : List ℕ) (list : List (List ℕ)) (local : Option (List (List ℕ)))
    (r : Result (Option (List (List ℕ))) E) → list ≡ filter_map (version_of group artifact) own → IfSome shelf (λ told. local ≡ within_most (listed (files_now told) group artifact))
    → IfSome remote (λ files. IfOk r (λ all. all ≡ joined list local (within_most (listed files group artifact))))
    → IfSome shelf (λ told. IfSome remote (λ files. IfOk r (λ all. all ≡ available (files_now told) files own group artifact)))
unfolding available
available_of None remote own group artifact list local r is here there = tt
available_of (Some told) None own group artifact list local r is here there = tt
available_of (Some told) (Some files) own group artifact list local r is here there =
    let far = within_most (listed files group artifact) in
    subst (λ l. IfOk r (λ all. all ≡ joined l (within_most (listed (files_now told) group artifact)) far)) is
    (subst (λ v. IfOk r (λ all. all ≡ joined list v far)) here there)
