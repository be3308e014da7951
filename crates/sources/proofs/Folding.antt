-- Folders in parts.
use Rattle.std.proofs.Common.{◌≡◌, List, [], ◌∷◌, ◌++◌, Option, filter_map, sym, ap, ◌∙◌}
use Rattle.std.proofs.Common.{ℕ, suc, length, refl}
use Rattle.model_types.specs.declared.model.Model.{Model}
use Rattle.sources.specs.Modules.{folders_of}
use Rattle.std.proofs.lemmas.List.{append_assoc}
use Rattle.std.proofs.lemmas.List.Elements.{filter_map-append}

-- one and the others
pub one_more : {A B : Type 0} (f : A → Option B) (x : A) (xs : List A) → filter_map f (x ∷ xs) ≡ filter_map f (x ∷ []) ++ filter_map f xs
one_more f x xs = filter_map-append f (x ∷ []) xs

-- one after another
pub one_by_one : {A B : Type 0} (f : A → Option B) (list : List B) (x : A) (xs : List A) → (list ++ filter_map f (x ∷ [])) ++ filter_map f xs ≡ list ++ filter_map f (x ∷ xs)
one_by_one f list x xs = append_assoc list (filter_map f (x ∷ [])) (filter_map f xs) ∙ ap (λ l. list ++ l) (sym (one_more f x xs))

-- four parts after one another
pub four : {A B : Type 0} (f : A → Option B) (a b c d : List A) → filter_map f a ++ filter_map f b ++ filter_map f c ++ filter_map f d ≡ filter_map f (a ++ b ++ c ++ d)
four f a b c d =
    sym (filter_map-append f (a ++ b ++ c) d
    ∙ ap (λ l. l ++ filter_map f d) (filter_map-append f (a ++ b) c ∙ ap (λ l. l ++ filter_map f c) (filter_map-append f a b)))

-- there are folders for each module
pub as_many : (root : List ℕ) (models : List Model) → length (folders_of root models) ≡ length models
as_many root [] = refl
as_many root (m ∷ models) = ap suc (as_many root models)
