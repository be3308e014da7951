-- Names of files, one after another.
use Rattle.std.proofs.Common.{◌≡◌, ◌≢◌, ◌⊎◌, inl, inr, ◌<◌, ℕ, zero, suc, Bool, true, false, ◌||◌, List, [], ◌∷◌, ◌++◌, AllPairs, Contains, fold, get_or, length, map, refl, sym, ap, subst, ◌∙◌, arith, if◌then◌else◌}
use Rattle.std.specs.List.{list_any}
use Rattle.std.specs.Str.{bytes_eq}
use Rattle.std.proofs.lemmas.Bool.{false≢true}
use Rattle.std.proofs.lemmas.List.Elements.{All-contains, Contains-append_left, Contains-append_right, Contains-push}
use Rattle.std.proofs.lemmas.List.Folds.{list_any_at}
use Rattle.std.proofs.lemmas.List.Quantifiers.{all_pairs_push}
use Rattle.std.proofs.lemmas.Slice.Eq.{bytes_eq-Decides}
use Rattle.indexmap.specs.IndexMap.{insert_entry}
use Rattle.classpaths.specs.Classpaths.{twice, with_name}

same_name : (a b : List ℕ) → bytes_eq a b ≡ true → a ≡ b
same_name a b e = (bytes_eq-Decides a b).0 e

-- a name under itself is put where it is, or at the end
put_twice : (names : List (List ℕ)) (x : List ℕ) → insert_entry bytes_eq (twice names) x x ≡ twice (with_name names x)
put_twice [] x = refl
put_twice (y ∷ names) x = by (bytes_eq x y) refl (put_twice names x)
  where
    later : (b : Bool) → twice (if b then names else names ++ x ∷ []) ≡ twice (if b then names else names ++ x ∷ [])
        → (y, y) ∷ twice (if b then names else names ++ x ∷ []) ≡ twice (if b then y ∷ names else (y ∷ names) ++ x ∷ [])
    later true e = refl
    later false e = refl

    by : (b : Bool) → bytes_eq x y ≡ b → insert_entry bytes_eq (twice names) x x ≡ twice (with_name names x)
        → insert_entry bytes_eq (twice (y ∷ names)) x x ≡ twice (with_name (y ∷ names) x)
    by true same rest =
        ap (λ b. if b then (y, x) ∷ twice names else (y, y) ∷ insert_entry bytes_eq (twice names) x x) same
        ∙ ap (λ z. (y, z) ∷ twice names) (same_name x y same)
        ∙ ap (λ b. twice (if b || list_any (bytes_eq x) names then y ∷ names else (y ∷ names) ++ x ∷ [])) (sym same)
    by false other rest =
        ap (λ b. if b then (y, x) ∷ twice names else (y, y) ∷ insert_entry bytes_eq (twice names) x x) other
        ∙ ap (λ l. (y, y) ∷ l) rest
        ∙ later (list_any (bytes_eq x) names) refl
        ∙ ap (λ b. twice (if b || list_any (bytes_eq x) names then y ∷ names else (y ∷ names) ++ x ∷ [])) (sym other)

seconds_twice : (names : List (List ℕ)) → map (λ e. e.1) (twice names) ≡ names
seconds_twice [] = refl
seconds_twice (x ∷ names) = ap (λ l. x ∷ l) (seconds_twice names)

pub added : (entries after : List (List ℕ × List ℕ)) (text name : List ℕ) → entries ≡ twice (map (λ e. e.1) entries) → text ≡ name → after ≡ insert_entry bytes_eq entries text name
    → after ≡ twice (with_name (map (λ e. e.1) entries) name)
added entries after text name kept same is =
    is ∙ ap (λ t. insert_entry bytes_eq entries t name) same ∙ ap (λ l. insert_entry bytes_eq l name name) kept ∙ put_twice (map (λ e. e.1) entries) name

pub added_names : (entries after : List (List ℕ × List ℕ)) (text name : List ℕ) → entries ≡ twice (map (λ e. e.1) entries) → text ≡ name → after ≡ insert_entry bytes_eq entries text name
    → map (λ e. e.1) after ≡ with_name (map (λ e. e.1) entries) name
added_names entries after text name kept same is = ap (λ l. map (λ e. e.1) l) (added entries after text name kept same is) ∙ seconds_twice (with_name (map (λ e. e.1) entries) name)

pub added_kept : (entries after : List (List ℕ × List ℕ)) (text name : List ℕ) → entries ≡ twice (map (λ e. e.1) entries) → text ≡ name → after ≡ insert_entry bytes_eq entries text name
    → after ≡ twice (map (λ e. e.1) after)
added_kept entries after text name kept same is = added entries after text name kept same is ∙ ap twice (sym (added_names entries after text name kept same is))

-- what stands in a list
abbrev pub IsIn : {A : Type 0} → List A → A → Type 0
IsIn [] x = ⊥
IsIn (y ∷ ys) x = (y ≡ x) ⊎ IsIn ys x

each_in : {A : Type 0} (xs : List A) (k : ℕ) (d : A) → k < length xs → IsIn xs (get_or xs k d)
each_in [] k d low = absurd (never k low)
  where
    never : (k : ℕ) → k < 0 → ⊥
    never k low = omega (arith, low)
each_in (x ∷ xs) zero d low = inl refl
each_in (x ∷ xs) (suc k) d low = inr (each_in xs k d (omega (arith, low)))

pub in_from : {A : Type 0} (xs : List A) (x : A) → Contains xs x → IsIn xs x
in_from xs x there = All-contains (λ y. IsIn xs y) xs x (λ k d low. each_in xs k d low) there

pub in_to : {A : Type 0} (xs : List A) (x : A) → IsIn xs x → Contains xs x
in_to [] x there = absurd there
in_to (y ∷ ys) x (inl same) = Contains-append_left (y ∷ []) ys x (0, omega arith, same)
in_to (y ∷ ys) x (inr there) = Contains-append_right (y ∷ []) ys x (in_to ys x there)

-- a name that none of a list equals isn't in it
not_there : (names : List (List ℕ)) (x y : List ℕ) → list_any (bytes_eq x) names ≡ false → IsIn names y → y ≢ x
not_there [] x y none there = absurd there
not_there (z ∷ names) x y none there = by (bytes_eq x z) refl there (not_there names x y)
  where
    by : (b : Bool) → bytes_eq x z ≡ b → IsIn (z ∷ names) y → (list_any (bytes_eq x) names ≡ false → IsIn names y → y ≢ x) → y ≢ x
    by true same there rest = absurd (false≢true (sym none ∙ ap (λ b. b || list_any (bytes_eq x) names) same))
    by false other (inl is) rest = λ e. false≢true (sym other ∙ (bytes_eq-Decides x z).1 (sym e ∙ sym is))
    by false other (inr there) rest = rest (sym (ap (λ b. b || list_any (bytes_eq x) names) other) ∙ none) there

any_in : (names : List (List ℕ)) (x : List ℕ) → list_any (bytes_eq x) names ≡ true → IsIn names x
any_in [] x some = absurd (false≢true some)
any_in (z ∷ names) x some = by (bytes_eq x z) refl (any_in names x)
  where
    by : (b : Bool) → bytes_eq x z ≡ b → (list_any (bytes_eq x) names ≡ true → IsIn names x) → IsIn (z ∷ names) x
    by true same rest = inl (sym (same_name x z same))
    by false other rest = inr (rest (sym (ap (λ b. b || list_any (bytes_eq x) names) other) ∙ some))

-- each name once
once_more : (names : List (List ℕ)) (x : List ℕ) → AllPairs (λ x y. x ≢ y) names → AllPairs (λ x y. x ≢ y) (with_name names x)
once_more names x once = by (list_any (bytes_eq x) names) refl
  where
    by : (b : Bool) → list_any (bytes_eq x) names ≡ b → AllPairs (λ x y. x ≢ y) (if b then names else names ++ x ∷ [])
    by true there = once
    by false none = all_pairs_push (λ x y. x ≢ y) names x once (λ k d low. not_there names x (get_or names k d) none (each_in names k d low))

pub once_all : (more names : List (List ℕ)) → AllPairs (λ x y. x ≢ y) names → AllPairs (λ x y. x ≢ y) (fold with_name names more)
once_all [] names once = once
once_all (x ∷ more) names once = once_all more (with_name names x) (once_more names x once)

-- and none is lost
stays : (names : List (List ℕ)) (x y : List ℕ) → Contains names y → Contains (with_name names x) y
stays names x y there = by (list_any (bytes_eq x) names)
  where
    by : (b : Bool) → Contains (if b then names else names ++ x ∷ []) y
    by true = there
    by false = Contains-append_left names (x ∷ []) y there

comes : (names : List (List ℕ)) (x : List ℕ) → Contains (with_name names x) x
comes names x = by (list_any (bytes_eq x) names) refl
  where
    by : (b : Bool) → list_any (bytes_eq x) names ≡ b → Contains (if b then names else names ++ x ∷ []) x
    by true some = in_to names x (any_in names x some)
    by false none = Contains-push names x

pub still_there : (more names : List (List ℕ)) (y : List ℕ) → Contains names y → Contains (fold with_name names more) y
still_there [] names y there = there
still_there (x ∷ more) names y there = still_there more (with_name names x) y (stays names x y there)

gathered : (more names : List (List ℕ)) (y : List ℕ) → IsIn more y → Contains (fold with_name names more) y
gathered [] names y there = absurd there
gathered (x ∷ more) names y (inl same) = subst (λ y. Contains (fold with_name (with_name names x) more) y) same (still_there more (with_name names x) x (comes names x))
gathered (x ∷ more) names y (inr there) = gathered more (with_name names x) y there

pub all_gathered : (more names : List (List ℕ)) (y : List ℕ) → Contains more y → Contains (fold with_name names more) y
all_gathered more names y there = gathered more names y (in_from more y there)

-- nothing stands twice in an empty list
pub once_none : AllPairs {X = List ℕ} (λ x y. x ≢ y) []
once_none i j d before within = absurd (never j within)
  where
    never : (j : ℕ) → j < 0 → ⊥
    never j within = omega (arith, within)
