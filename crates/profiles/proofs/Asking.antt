-- Where no file is asked for.
use Rattle.std.proofs.Common.{◌≡◌, ℕ, ◌+◌, ◌<◌, Bool, true, false, not, ◌&&◌, ◌||◌, List, [], ◌∷◌, ◌++◌, drop, get_or, length, map, refl, sym, ap, ◌∙◌}
use Rattle.std.specs.List.{list_any}
use Rattle.std.proofs.lemmas.List.{append_assoc, drop_more}

-- neither of two is so where none is
pub left_false : (p a b : Bool) → (p && (a || b)) ≡ false → (p && a) ≡ false
left_false false a b none = refl
left_false true false b none = refl
left_false true true b none = none

pub right_false : (p a b : Bool) → (p && (a || b)) ≡ false → (p && b) ≡ false
right_false false a b none = refl
right_false true false b none = none
right_false true true b none = cc

-- a profile that isn't listed asks for files where its activation does
pub unlisted_false : (p off on asks : Bool) → off ≡ false → on ≡ false → (p && (not off && (not on && asks))) ≡ false → (p && asks) ≡ false
unlisted_false p true on asks e f none = cc
unlisted_false p false true asks e f none = cc
unlisted_false p false false asks e f none = none

-- a profile whose id isn't listed is chosen by its criteria
pub neither_listed : (off on holds : Bool) → off ≡ false → on ≡ false → (not off && (on || holds)) ≡ holds
neither_listed off on holds p q = ap (λ b. not b && (on || holds)) p ∙ ap (λ b. b || holds) q

next_item : {A : Type 0} (xs : List A) (i : ℕ) (x : A) → i < length xs → x ≡ get_or xs i x → x ∷ drop (i + 1) xs ≡ drop i xs
next_item xs i x low is = sym (drop_more xs i x low ∙ ap (λ y. y ∷ drop (i + 1) xs) (sym is))

-- where a test holds of none from a place on, it doesn't hold there, and of none behind
pub none_from : {A : Type 0} (p : Bool) (test : A → Bool) (xs : List A) (i : ℕ) (x : A) → i < length xs → x ≡ get_or xs i x → (p && list_any test (drop i xs)) ≡ false
    → ((p && test x) ≡ false) × ((p && list_any test (drop (i + 1) xs)) ≡ false)
none_from p test xs i x low is none =
    let both : (p && (test x || list_any test (drop (i + 1) xs))) ≡ false = ap (λ l. p && list_any test l) (next_item xs i x low is) ∙ none in
    (left_false p (test x) (list_any test (drop (i + 1) xs)) both, right_false p (test x) (list_any test (drop (i + 1) xs)) both)

-- one item more, and those that are left are fewer by it
pub map_more : {A B : Type 0} (f : A → B) (xs : List A) (i : ℕ) (x : A) (done after whole : List B) → i < length xs → x ≡ get_or xs i x → after ≡ done ++ f x ∷ []
    → done ++ map f (drop i xs) ≡ whole → after ++ map f (drop (i + 1) xs) ≡ whole
map_more f xs i x done after whole low is pushed so =
    ap (λ l. l ++ map f (drop (i + 1) xs)) pushed
    ∙ append_assoc done (f x ∷ []) (map f (drop (i + 1) xs))
    ∙ ap (λ l. done ++ map f l) (next_item xs i x low is)
    ∙ so
