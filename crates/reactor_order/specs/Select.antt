-- Which modules are built. Guide to Working with Multiple Modules; that what comes before the first is left out at the end is
-- an own rule.
use Rattle.std.specs.Prelude.{◌≡◌, ◌↔◌, ◌⊎◌, ℕ, Bool, true, ◌==◌, List, [], ◌∷◌, filter, Option, Some, None, if◌then◌else◌}
use Rattle.reactor_order.specs.Graph.{Edges, has, upstreams, flipped, IsReached}

-- a list from a module on
abbrev pub from_on : Option ℕ → List ℕ → List ℕ
from_on None order = order
from_on (Some m) [] = []
from_on (Some m) (x ∷ order) = if x == m then x ∷ order else from_on (Some m) order

-- where a search is asked for, what it comes to
abbrev pub IsAsked : Bool → Edges → List ℕ → ℕ → Type 0
IsAsked asked edges chosen m = (asked ≡ true) × IsReached (upstreams edges) chosen m

-- the module is chosen, or an upstream of one that is, or stands on one; all are where none is chosen
abbrev pub IsWanted : Edges → Option (List ℕ) → Bool → Bool → ℕ → Type 0
IsWanted edges None make dependents m = Unit {0}
IsWanted edges (Some chosen) make dependents m = (has chosen m ≡ true) ⊎ (IsAsked make edges chosen m ⊎ IsAsked dependents (flipped edges) chosen m)

-- the wanted modules, in order, from one on
pub record Selects (order : List ℕ) (edges : Edges) (chosen : Option (List ℕ)) (make dependents : Bool) (from : Option ℕ) (result : List ℕ) : Type 0 where
  pub keep : ℕ → Bool
  pub is : result ≡ filter keep (from_on from order)
  pub exactly : (m : ℕ) → (keep m ≡ true) ↔ IsWanted edges chosen make dependents m
