-- On which of the selected modules each stands. Guide to Working with Multiple Modules, "Reactor Sorting".
use Rattle.std.specs.Prelude.{ℕ, suc, ◌≤◌, Bool, List, [], ◌∷◌, map, if◌then◌else◌}
use Rattle.mvn_base.specs.declared.gav.Gav.{Gav}
use Rattle.model_types.specs.declared.model.Model.{Model}
use Rattle.classpaths.specs.declared.resolution.Resolution.{Resolution}
use Rattle.classpaths.specs.declared.resolution.Resolved.{Resolved}
use Rattle.reactor.specs.Edges as edges
use Rattle.reactor_order.specs.Graph.{Edges, has, upstreams}

-- the coordinates of what a module's dependencies lead to
abbrev pub winner_gavs : Resolution → List Gav
winner_gavs r = map (λ (w : Resolved). w.gav) r.winners

-- the edges that are kept in any case: to what dependencies and winners name, and to parents
unfoldable pub firm_edges : List Model → List Resolution → Edges
firm_edges modules resolutions = edges.firm_edges modules (map winner_gavs resolutions)

-- the places, counted from one on, of the numbers that pass a test
abbrev pub places_from : (ℕ → Bool) → ℕ → List ℕ → List ℕ
places_from test place [] = []
places_from test place (n ∷ numbers) =
    if test n then place ∷ places_from test (suc place) numbers else places_from test (suc place) numbers

-- the places of the selected modules on which a module stands by a kept edge, ascending
unfoldable pub upstream_places : Edges → (selected : List ℕ) → ℕ → List ℕ
upstream_places kept selected m = places_from (has (upstreams kept m)) 0 selected

-- so of each selected module
abbrev pub all_upstreams : Edges → (selected : List ℕ) → List (List ℕ)
all_upstreams kept selected = map (upstream_places kept selected) selected

-- numbers that ascend, each once, from one on
abbrev pub Ascends : ℕ → List ℕ → Type 0
Ascends low [] = Unit {0}
Ascends low (x ∷ xs) = (low ≤ x) × Ascends (suc x) xs
