-- The scopes of a project's winners. Introduction to the Dependency Mechanism, "Dependency Scope".
use Rattle.std.specs.Prelude.{◌≡◌, ◌≤◌, Bool, true, false, List, [], ◌∷◌, Contains, Option, Some, None, if◌then◌else◌}
use Rattle.collector.specs.declared.edge.Edge.{Edge}
use Rattle.collector.specs.declared.scope.Scope.{Scope}
use Rattle.resolution.specs.Walks.{rank, scope_below}
use Rattle.mvn_base.specs.declared.key.Key.{Key}
use Rattle.collector.specs.Winners.{Graph, Path, next_edges, winner_of}

-- a path of one edge: the project declares what it ends at
abbrev pub is_single : Path → Bool
is_single [] = false
is_single (e ∷ []) = true
is_single (e ∷ f ∷ path) = false

-- the winner of a key is one that the project declares
abbrev pub is_near_path : Option Path → Bool
is_near_path None = false
is_near_path (Some path) = is_single path

abbrev pub is_near : List Path → Key → Bool
is_near won key = is_near_path (winner_of won key)

-- the scope that an edge brings below a scope
abbrev pub brought : Scope → Edge → Scope
brought above e = if e.managed_scope then e.scope else scope_below above e.scope

-- the walks, with their scopes and the keys that they come to: each begins with a declaration of the project, and goes on along
-- any edge of the winner that it comes to, but to no second winner that the project declares
pub data Walk (graph : Graph) (won : List Path) : Scope → Key → Type 0 where
  begins : (e : Edge) → Contains graph.direct e → Walk graph won e.scope e.key
  goes : {scope : Scope} {key : Key} → Walk graph won scope key
      → (front : Path) → winner_of won key ≡ Some front
      → (e : Edge) → Contains (next_edges graph front) e → is_near won e.key ≡ false
      → Walk graph won (brought scope e) e.key

-- the scope of a winner: the declared one where the project declares it; else that of some walk, and no walk has a wider one
abbrev pub IsScope : Graph → List Path → Path → Scope → Type 0
IsScope graph won [] scope = Unit {0}
IsScope graph won (e ∷ []) scope = scope ≡ e.scope
IsScope graph won (e ∷ f ∷ path) scope =
    Walk graph won scope e.key
    × ((other : Scope) → Walk graph won other e.key → rank scope ≤ rank other)
