-- States of all modules, one module more.
use Rattle.std.proofs.Common.{◌≡◌, ℕ, suc, ◌+◌, List, [], ◌∷◌, ◌++◌, length, map, refl, arith, ap, subst, sym, ◌∙◌}
use Rattle.std.proofs.lemmas.List.{length-append}
use Rattle.build_core.specs.Locks.{below}
use Rattle.build_core.specs.declared.ending.State.{State}

map_more : (f : ℕ → State) (xs : List ℕ) (x : ℕ) → map f (xs ++ x ∷ []) ≡ map f xs ++ f x ∷ []
map_more f [] x = refl
map_more f (y ∷ xs) x = ap (λ t. f y ∷ t) (map_more f xs x)

pub states_more : (f : ℕ → State) (n : ℕ) (items : List State) (s : State) → items ≡ map f (below n) → s ≡ f n → items ++ s ∷ [] ≡ map f (below (n + 1))
states_more f n items s are is =
    let e : suc n ≡ n + 1 = omega arith in
    subst (λ k. items ++ s ∷ [] ≡ map f (below k)) e (ap (λ t. t ++ s ∷ []) are ∙ ap (λ x. map f (below n) ++ x ∷ []) is ∙ sym (map_more f (below n) n))

pub count_more : (n : ℕ) (items : List State) (s : State) → length items ≡ n → length (items ++ s ∷ []) ≡ n + 1
count_more n items s are = let l = length-append items (s ∷ []) in omega (arith, l, are)
