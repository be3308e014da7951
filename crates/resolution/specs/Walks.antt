-- The scopes that walks through a dependency graph bring. Introduction to the Dependency Mechanism, "Dependency Scope".
use Rattle.std.specs.Prelude.{◌≡◌, ℕ, ◌≤◌, ◌<◌, Bool, List, [], Contains, get_or, length, Option, Some, None, if◌then◌else◌}
use Rattle.collector.specs.declared.scope.Scope.{Scope}
use Rattle.collector.specs.declared.scope.Scope.TheVariants.{Compile, Provided, Runtime, Test}
use Rattle.resolution.specs.declared.link.Link.{Link}

-- how wide a scope is: the widest has the least rank
abbrev pub rank : Scope → ℕ
rank Compile = 0
rank Runtime = 1
rank Provided = 2
rank Test = 3

-- the scope of a dependency below one of a scope, as the table says it: a dependency of the scope runtime is needed at run
-- time alone; else it is needed where the one above it is. Those of the scopes provided and test aren't met below the project
abbrev pub scope_below : Scope → Scope → Scope
scope_below Compile Runtime = Runtime
scope_below above declared = above

-- a managed scope stands, whatever is above
abbrev pub walked : Scope → Link → Scope
walked above l = if l.managed_scope then l.scope else scope_below above l.scope

-- what the dependency at a place leads to
abbrev pub links_at : List (List Link) → ℕ → List Link
links_at below place = get_or below place []

-- the walks with their scopes and the places where they end: each begins with a declaration of the project, and goes on
-- along any link from the place where it is
pub data Walk (starts : List Link) (below : List (List Link)) : Scope → ℕ → Type 0 where
  begins : (l : Link) → Contains starts l → Walk starts below l.scope l.to
  goes : {scope : Scope} {place : ℕ} → Walk starts below scope place → (l : Link) → Contains (links_at below place) l
      → Walk starts below (walked scope l) l.to

-- the scope at a place: that of some walk, and no walk has a wider one; or none, and there is no walk
abbrev pub IsWidest : List Link → List (List Link) → ℕ → Option Scope → Type 0
IsWidest starts below place None = (scope : Scope) → Walk starts below scope place → ⊥
IsWidest starts below place (Some scope) =
    Walk starts below scope place
    × ((other : Scope) → Walk starts below other place → rank scope ≤ rank other)
