-- The order of modules. Guide to Working with Multiple Modules, "Reactor Sorting"; that the earliest declared comes first is
-- an own rule.
use Rattle.std.specs.Prelude.{ℕ, zero, suc, Bool, not, ◌&&◌, List, [], ◌∷◌, ◌++◌, find, Option, Some, None}
use Rattle.std.specs.List.{list_all}
use Rattle.reactor_order.specs.Graph.{Edges, has, upstreams}

-- the numbers from one on, so many
abbrev pub numbers : ℕ → ℕ → List ℕ
numbers from zero = []
numbers from (suc n) = from ∷ numbers (suc from) n

-- a module that is not placed, all of whose upstreams are
abbrev pub can_follow : Edges → List ℕ → ℕ → Bool
can_follow edges placed m = not (has placed m) && list_all (has placed) (upstreams edges m)

-- the earliest of them
abbrev pub next_module : ℕ → Edges → List ℕ → Option ℕ
next_module n edges placed = find (can_follow edges placed) (numbers 0 n)

-- what is placed when that was done so often, or until there is none
abbrev pub placed_from : ℕ → ℕ → Edges → List ℕ → List ℕ
placed_from zero n edges placed = placed
placed_from (suc turns) n edges placed = by (next_module n edges placed) (λ m. placed_from turns n edges (placed ++ m ∷ []))
  where
    by : Option ℕ → (ℕ → List ℕ) → List ℕ
    by None rest = placed
    by (Some m) rest = rest m

-- all that can be placed
abbrev pub all_placed : ℕ → Edges → List ℕ
all_placed n edges = placed_from n n edges []

-- with the next module, if there is one
abbrev pub with_next : List ℕ → Option ℕ → List ℕ
with_next placed None = placed
with_next placed (Some m) = placed ++ m ∷ []
