-- The steps of a path as texts, against their places in memory.
use Rattle.std.proofs.Common.{◌≡◌, ℕ, zero, suc, ◌-◌, List, [], ◌∷◌, ◌++◌, length, take, map, codes, flat_map, Bor, refl, sym, ap, ◌∙◌}
use Rattle.std.specs.List.{join_by}
use Rattle.goal_program.specs.Names.{group_by}

abbrev texts : List (Bor (List ℕ)) → List (List ℕ)
texts xs = map (λ s. s.now) xs

joined_more : (sep : List ℕ) (xs : List (Bor (List ℕ))) → flat_map (λ y. sep ++ y.now) xs ≡ flat_map (λ y. sep ++ y) (texts xs)
joined_more sep [] = refl
joined_more sep (x ∷ xs) = ap (λ ys. (sep ++ x.now) ++ ys) (joined_more sep xs)

joined_texts : (sep : List ℕ) (xs : List (Bor (List ℕ))) → join_by (λ s. s.now) sep xs ≡ join_by (λ s. s) sep (texts xs)
joined_texts sep [] = refl
joined_texts sep (x ∷ xs) = ap (λ ys. x.now ++ ys) (joined_more sep xs)

taken_texts : (n : ℕ) (xs : List (Bor (List ℕ))) → texts (take n xs) ≡ take n (texts xs)
taken_texts zero xs = refl
taken_texts (suc n) [] = refl
taken_texts (suc n) (x ∷ xs) = ap (λ ys. x.now ∷ ys) (taken_texts n xs)

as_many : (xs : List (Bor (List ℕ))) → length (texts xs) ≡ length xs
as_many [] = refl
as_many (x ∷ xs) = ap (λ n. suc n) (as_many xs)

-- the first steps, joined
pub group_joined : (xs : List (Bor (List ℕ))) (n : ℕ) (text : List ℕ) → n ≡ length xs - 3 → text ≡ join_by (λ s. s.now) (codes ".") (take n xs) → text ≡ group_by (texts xs)
group_joined xs n text e is =
    is ∙ joined_texts (codes ".") (take n xs) ∙ ap (join_by (λ s. s) (codes ".")) (taken_texts n xs ∙ ap (λ m. take m (texts xs)) (e ∙ ap (λ m. m - 3) (sym (as_many xs))))
