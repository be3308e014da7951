-- What an order is, said of its places. Own rules.
use Rattle.std.specs.Prelude.{◌≡◌, ℕ, ◌<◌, true, List, [], ◌∷◌, ◌++◌, length, Some}
use Rattle.reactor_order.specs.Graph.{Edges, has, upstreams}
use Rattle.reactor_order.specs.Order.{next_module}
use Rattle.reactor_order.specs.Waiting.{times}

-- behind these, each place has the earliest module that isn't before it and whose upstreams are
abbrev pub GoesOn : ℕ → Edges → List ℕ → List ℕ → Type 0
GoesOn n edges front [] = Unit {0}
GoesOn n edges front (m ∷ rest) = (next_module n edges front ≡ Some m) × GoesOn n edges (front ++ m ∷ []) rest

-- an order of all modules
pub record IsOrder (n : ℕ) (edges : Edges) (list : List ℕ) : Type 0 where
  pub all : length list ≡ n
  pub goes_on : GoesOn n edges [] list

-- each module stands in the list, and once
pub record HasEachOnce (n : ℕ) (list : List ℕ) : Type 0 where
  pub below : (m : ℕ) → has list m ≡ true → m < n
  pub each : (m : ℕ) → m < n → has list m ≡ true
  pub once : (m : ℕ) → m < n → times m list ≡ 1

-- each upstream of a module stands before it
abbrev pub HasUpstreamsBefore : Edges → List ℕ → Type 0
HasUpstreamsBefore edges list = (front rest : List ℕ) (m u : ℕ) → list ≡ front ++ m ∷ rest → has (upstreams edges m) u ≡ true → has front u ≡ true

-- each module of a list has the next as an upstream
abbrev pub IsChain : Edges → List ℕ → Type 0
IsChain edges [] = Unit {0}
IsChain edges (a ∷ []) = Unit {0}
IsChain edges (a ∷ b ∷ list) = (has (upstreams edges a) b ≡ true) × IsChain edges (b ∷ list)

-- and the last has the first
pub record IsCycle (edges : Edges) (list : List ℕ) : Type 0 where
  pub first : ℕ
  pub rest : List ℕ
  pub begins : list ≡ first ∷ rest
  pub chain : IsChain edges (list ++ first ∷ [])
