-- Lists that are walked in parts.
use Rattle.std.proofs.Common.{◌≡◌, Bool, true, false, ◌||◌, List, [], ◌∷◌, ◌++◌, filter, flat_map, refl, ap, ◌∙◌, sym, if◌then◌else◌}
use Rattle.std.specs.List.{list_any}

nested : {B : Type 0} (xs ys zs : List B) → (xs ++ ys) ++ zs ≡ xs ++ (ys ++ zs)
nested [] ys zs = refl
nested (x ∷ xs) ys zs = ap (λ l. x ∷ l) (nested xs ys zs)

pub flat_more : {A B : Type 0} (f : A → List B) (xs ys : List A) → flat_map f (xs ++ ys) ≡ flat_map f xs ++ flat_map f ys
flat_more f [] ys = refl
flat_more f (x ∷ xs) ys = ap (λ l. f x ++ l) (flat_more f xs ys) ∙ sym (nested (f x) (flat_map f xs) (flat_map f ys))

pub filter_both : {A : Type 0} (t : A → Bool) (xs ys : List A) → filter t (xs ++ ys) ≡ filter t xs ++ filter t ys
filter_both t [] ys = refl
filter_both t (x ∷ xs) ys = by (t x) (filter_both t xs ys)
  where
    by : (b : Bool) → filter t (xs ++ ys) ≡ filter t xs ++ filter t ys → (if b then x ∷ filter t (xs ++ ys) else filter t (xs ++ ys)) ≡ (if b then x ∷ filter t xs else filter t xs) ++ filter t ys
    by true further = ap (λ l. x ∷ l) further
    by false further = further

pub flat_filter : {A B : Type 0} (f : A → List B) (t : A → Bool) (xs ys : List A) → flat_map f (filter t (xs ++ ys)) ≡ flat_map f (filter t xs) ++ flat_map f (filter t ys)
flat_filter f t xs ys = ap (flat_map f) (filter_both t xs ys) ∙ flat_more f (filter t xs) (filter t ys)

pub any_either : {A : Type 0} (t : A → Bool) (xs ys : List A) → list_any t (xs ++ ys) ≡ (list_any t xs || list_any t ys)
any_either t [] ys = refl
any_either t (x ∷ xs) ys = ap (λ b. t x || b) (any_either t xs ys) ∙ by (t x)
  where
    by : (b : Bool) → (b || (list_any t xs || list_any t ys)) ≡ ((b || list_any t xs) || list_any t ys)
    by true = refl
    by false = refl
