-- Turn by turn.
use Rattle.std.proofs.Common.{◌≡◌, ℕ, zero, suc, ◌-◌, ◌<◌, List, [], ◌∷◌, ◌++◌, Some, None, refl, arith}
use Rattle.reactor_order.specs.Graph.{Edges}
use Rattle.reactor_order.specs.Order.{next_module, placed_from}

pub no_turn_left : (left n : ℕ) (edges : Edges) (placed : List ℕ) → next_module n edges placed ≡ None → placed_from left n edges placed ≡ placed
no_turn_left zero n edges placed none = refl
no_turn_left (suc left) n edges placed none = rw none refl

pub one_turn : (left n : ℕ) (edges : Edges) (placed : List ℕ) (m : ℕ) → 0 < left → next_module n edges placed ≡ Some m → placed_from left n edges placed ≡ placed_from (left - 1) n edges (placed ++ m ∷ [])
one_turn zero n edges placed m some next = absurd (never (omega (arith, some)))
  where
    never : ⊥ → ⊥
    never x = x
one_turn (suc left) n edges placed m some next = let e : suc left - 1 ≡ left = omega arith in rw (next, e) refl
