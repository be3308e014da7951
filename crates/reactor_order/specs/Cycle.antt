-- The cycle that keeps modules from being placed. Own rules.
use Rattle.std.specs.Prelude.{ℕ, zero, suc, min, not, ◌||◌, ◌==◌, List, [], ◌∷◌, ◌++◌, length, find, fold, Option, Some, None, unwrap_or, Result, Ok, Err, if◌then◌else◌}
use Rattle.reactor_order.specs.Graph.{Edges, has, upstreams}
use Rattle.reactor_order.specs.Order.{numbers, all_placed}

abbrev pub least : Option ℕ → ℕ → Option ℕ
least None u = Some u
least (Some v) u = Some (min v u)

-- the earliest upstream that is not placed, other than the module itself
abbrev pub or_earlier : List ℕ → ℕ → Option ℕ → ℕ → Option ℕ
or_earlier placed m found u = if u == m || has placed u then found else least found u

abbrev pub waits_on : Edges → List ℕ → ℕ → Option ℕ
waits_on edges placed m = fold (or_earlier placed m) None (upstreams edges m)

-- where one goes from a module: there, or to itself where it has no other
abbrev pub goes_to : Edges → List ℕ → ℕ → ℕ
goes_to edges placed m = unwrap_or (waits_on edges placed m) m

-- a list from the first place of a module on
abbrev pub from_first : ℕ → List ℕ → List ℕ
from_first m [] = []
from_first m (x ∷ xs) = if x == m then x ∷ xs else from_first m xs

-- one goes on, until a module repeats
abbrev pub walk : ℕ → Edges → List ℕ → List ℕ → ℕ → List ℕ
walk zero edges placed seen m = from_first m seen
walk (suc turns) edges placed seen m =
    if has seen m then from_first m seen else walk turns edges placed (seen ++ m ∷ []) (goes_to edges placed m)

-- the modules of the cycle, from the earliest that is not placed
abbrev pub cycle_of : ℕ → Edges → List ℕ → List ℕ
cycle_of n edges placed = by (find (λ m. not (has placed m)) (numbers 0 n))
  where
    by : Option ℕ → List ℕ
    by None = []
    by (Some m) = walk n edges placed [] m

-- all modules in order, or the cycle
unfoldable pub order : ℕ → Edges → Result (List ℕ) (List ℕ)
order n edges = if length (all_placed n edges) == n then Ok (all_placed n edges) else Err (cycle_of n edges (all_placed n edges))
