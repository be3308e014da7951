-- Step by step, until a module repeats.
use Rattle.std.proofs.Common.{◌≡◌, ℕ, zero, suc, ◌-◌, ◌<◌, true, false, List, [], ◌∷◌, ◌++◌, refl, arith}
use Rattle.reactor_order.specs.Graph.{Edges, has}
use Rattle.reactor_order.specs.Cycle.{goes_to, from_first, walk}

pub walk_on : (k : ℕ) (edges : Edges) (placed seen : List ℕ) (m : ℕ) → 0 < k → has seen m ≡ false → walk k edges placed seen m ≡ walk (k - 1) edges placed (seen ++ m ∷ []) (goes_to edges placed m)
walk_on zero edges placed seen m some new = absurd (never (omega (arith, some)))
  where
    never : ⊥ → ⊥
    never x = x
walk_on (suc k) edges placed seen m some new = let e : suc k - 1 ≡ k = omega arith in rw (new, e) refl

pub walk_ends : (k : ℕ) (edges : Edges) (placed seen : List ℕ) (m : ℕ) → has seen m ≡ true → walk k edges placed seen m ≡ from_first m seen
walk_ends zero edges placed seen m again = refl
walk_ends (suc k) edges placed seen m again = rw again refl
