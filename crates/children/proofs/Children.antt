-- What was changed of the record of the child that was started last, and that a child which came and went leaves the others.
use Rattle.std.proofs.Common.{◌≡◌, ℕ, zero, suc, Bool, true, false, List, [], ◌∷◌, ◌++◌, length, Option, Some, None, is_some, cond, refl, sym, ap, ◌∙◌}
use Rattle.std.specs.Prelude.{slice_get}
use Rattle.std.specs.Option.{option_map}
use Rattle.std.specs.Ordering.{nat_cmp, eq_by_cmp}
use Rattle.std.specs.Cmp.{nat_cmp_total, Equal-is}
use Rattle.std.specs.FinMap.{get, insert, get-insert, get-remove, get_tied, same_map, nat_cmp-IsAntisymmetric}
use Rattle.mvn_outside.proofs.NumberMaps.{put_there}
use Rattle.children.specs.declared.spawner.ChildRecord.{ChildRecord}
use Rattle.children.specs.Children.{Children, is_there, with_child, without_child, change_at, changed, record_of}

-- a change of the last item
pub change_last : {A : Type 0} (f : A → A) (xs : List A) (x : A) → change_at f (length xs) (xs ++ x ∷ []) ≡ xs ++ f x ∷ []
change_last f [] x = refl
change_last f (y ∷ xs) x = ap (λ zs. y ∷ zs) (change_last f xs x)

-- the last item
pub get_last : {A : Type 0} (xs : List A) (x : A) → slice_get (xs ++ x ∷ []) (length xs) ≡ Some x
get_last [] x = refl
get_last (y ∷ xs) x = get_last xs x

-- what was changed twice at a place was changed once by both
pub change_twice : {A : Type 0} (f g h : A → A) → ((x : A) → g (f x) ≡ h x) → (n : ℕ) (xs : List A) → change_at g n (change_at f n xs) ≡ change_at h n xs
change_twice f g h e n [] = refl
change_twice f g h e zero (x ∷ xs) = ap (λ y. y ∷ xs) (e x)
change_twice f g h e (suc n) (x ∷ xs) = ap (λ ys. x ∷ ys) (change_twice f g h e n xs)

-- what isn't changed stays
pub change_none : {A : Type 0} (f : A → A) → ((x : A) → f x ≡ x) → (n : ℕ) (xs : List A) → change_at f n xs ≡ xs
change_none f e n [] = refl
change_none f e zero (x ∷ xs) = ap (λ y. y ∷ xs) (e x)
change_none f e (suc n) (x ∷ xs) = ap (λ ys. x ∷ ys) (change_none f e n xs)

-- a changed item is what it was, changed
pub get_changed : {A : Type 0} (f : A → A) (n : ℕ) (xs : List A) → slice_get (change_at f n xs) n ≡ option_map f (slice_get xs n)
get_changed f n [] = refl
get_changed f zero (x ∷ xs) = refl
get_changed f (suc n) (x ∷ xs) = get_changed f n xs

-- the same of what is told
pub changed_twice : (f g h : ChildRecord → ChildRecord) → ((x : ChildRecord) → g (f x) ≡ h x) → (n : ℕ) (told : Option (List ChildRecord)) → changed g n (changed f n told) ≡ changed h n told
changed_twice f g h e n None = refl
changed_twice f g h e n (Some records) = ap Some (change_twice f g h e n records)

pub changed_none : (f : ChildRecord → ChildRecord) → ((x : ChildRecord) → f x ≡ x) → (n : ℕ) (told : Option (List ChildRecord)) → changed f n told ≡ told
changed_none f e n None = refl
changed_none f e n (Some records) = ap Some (change_none f e n records)

-- a changed record is what it was, changed
pub record_changed : (f : ChildRecord → ChildRecord) (n : ℕ) (told : Option (List ChildRecord)) → record_of n (changed f n told) ≡ option_map f (record_of n told)
record_changed f n None = refl
record_changed f n (Some records) = get_changed f n records

none_there : (o : Option (Unit {0})) → is_some o ≡ false → o ≡ None
none_there None e = refl
none_there (Some u) e = cc

put_and_taken : (b : Bool) (v : Unit {0}) (o : Option (Unit {0})) → (b ≡ true → o ≡ None) → cond b None (cond b (Some v) o) ≡ o
put_and_taken true v o e = sym (e refl)
put_and_taken false v o e = refl

-- a child that has been started is there
pub started_there : (children : Children) (child : ℕ) → is_there (with_child children child) child ≡ true
started_there children child = ap is_some (put_there children child tt)

-- a child that came and went leaves the others as they were
pub gone_again : (children : Children) (child : ℕ) → is_there children child ≡ false → without_child (with_child children child) child ≡ children
gone_again children child new = same_map nat_cmp_total nat_cmp-IsAntisymmetric _ _ (λ q.
    get-remove nat_cmp_total (insert children child tt) child q ∙ ap (λ o. cond (eq_by_cmp nat_cmp q child) None o) (get-insert nat_cmp_total children child tt q)
    ∙ put_and_taken (eq_by_cmp nat_cmp q child) tt (get children q) (λ e.
    sym (get_tied nat_cmp_total children q child ((Equal-is (nat_cmp q child)).0 e)) ∙ none_there (get children child) new))
