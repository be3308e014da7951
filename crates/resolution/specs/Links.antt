-- What declarations lead to, by the places of winners.
use Rattle.std.specs.Prelude.{◌≡◌, ◌<◌, ℕ, ◌+◌, ◌-◌, Bool, true, false, List, [], ◌∷◌, ◌++◌, drop, flat_map, get_or, length, map, nat_lt, slice_get, Option, Some, None, is_none, unwrap_or, if◌then◌else◌}
use Rattle.collector.specs.Edges.{direct_edges}
use Rattle.collector.specs.declared.edge.Edge.{Edge}
use Rattle.collector.specs.declared.scope.Scope.{Scope}
use Rattle.collector.specs.declared.scope.Scope.TheVariants.{Test}
use Rattle.resolution.specs.Walks.{IsWidest}
use Rattle.resolution.specs.declared.link.Link.{Link}
use Rattle.mediation.specs.Rows.{ArePlaced, edges_below, place_of}
use Rattle.mediation.specs.declared.winner.Winner.{Winner}
use Rattle.model_types.specs.declared.dependency.Dependency.{Dependency}
use Rattle.mvn_base.specs.declared.key.Key.{Key}

abbrev pub link_of : Edge → ℕ → Link
link_of e to = record { to = to; scope = e.scope; managed_scope = e.managed_scope }

-- what an edge leads to, where its key has a winner
abbrev pub link_at : Edge → Option ℕ → List Link
link_at e None = []
link_at e (Some to) = link_of e to ∷ []

abbrev pub link_to : List Winner → Edge → List Link
link_to rows e = link_at e (place_of rows e.key)

-- the project declares the winner at a place
abbrev pub is_direct_row : Option Winner → Bool
is_direct_row None = false
is_direct_row (Some w) = is_none w.above

abbrev pub is_direct : List Winner → ℕ → Bool
is_direct rows place = is_direct_row (slice_get rows place)

-- what an edge below the project leads to: to no winner that the project declares
abbrev pub link_below_at : List Winner → Edge → Option ℕ → List Link
link_below_at rows e None = []
link_below_at rows e (Some to) = if is_direct rows to then [] else link_of e to ∷ []

abbrev pub link_below : List Winner → Edge → List Link
link_below rows e = link_below_at rows e (place_of rows e.key)

abbrev pub starts_of : List Winner → List Edge → List Link
starts_of rows own = flat_map (link_to rows) own

abbrev pub starts : List Winner → List Dependency → List Link
starts rows direct = starts_of rows (direct_edges direct)

abbrev pub links_of : List Winner → List Edge → List Link
links_of rows edges = flat_map (link_below rows) edges

abbrev pub links_below : List (Key × Dependency) → List Winner → Winner → List Link
links_below managed rows w = links_of rows (edges_below managed w)

abbrev pub links : List (Key × Dependency) → List Winner → List (List Link)
links managed rows = map (links_below managed rows) rows

-- what an edge leads to by the place at which a list has that of its winner
abbrev pub link_by : List ℕ → ℕ → Edge → List Link
link_by places at e = link_at e (slice_get places at)

abbrev pub link_below_by : List Winner → List ℕ → ℕ → Edge → List Link
link_below_by rows places at e = link_below_at rows e (slice_get places at)

-- what each edge leads to by the number of its place, the first edge's at a number
abbrev pub each_from : (ℕ → Edge → List Link) → ℕ → List Edge → List Link
each_from f at [] = []
each_from f at (e ∷ edges) = f at e ++ each_from f (at + 1) edges

-- what an edge leads to, if there is one
abbrev pub of_edge : (Edge → List Link) → Option Edge → List Link
of_edge f None = []
of_edge f (Some e) = f e

-- what each list of edges leads to, where a list of places has those of the first list, then those of the next, and so on
abbrev pub cut_links : List Winner → List ℕ → List (List Edge) → List (List Link)
cut_links rows places [] = []
cut_links rows places (edges ∷ lists) =
    each_from (link_below_by rows places) 0 edges ∷ cut_links rows (drop (length edges) places) lists

-- the place that stands a number of places behind another, at most the end
abbrev pub onward : ℕ → ℕ → ℕ → ℕ
onward end at count = if nat_lt count (end - at) then at + count else end

-- where the places of each of these lists begin, the first list's at a number
abbrev pub begins_within : ℕ → ℕ → List (List Edge) → List ℕ
begins_within end at [] = []
begins_within end at (edges ∷ lists) = at ∷ begins_within end (onward end at (length edges)) lists

-- a list begins with the place of the winner of each edge, in their order
abbrev pub PlacesBegin : List Winner → List Edge → List ℕ → Type 0
PlacesBegin rows edges places =
    (k : ℕ) (e : Edge) → slice_get edges k ≡ Some e → slice_get places k ≡ place_of rows e.key

-- lists hold what the project declares, what the POM of each winner does, and the place of the winner of each of those
pub record AreDeclared (managed : List (Key × Dependency)) (direct : List Dependency) (rows : List Winner) (own : List Edge) (below : List (List Edge)) (places : List ℕ) : Type 0 where
  pub own_is : own ≡ direct_edges direct
  pub below_is : below ≡ map (edges_below managed) rows
  pub placed : ArePlaced rows (own ++ flat_map (λ edges. edges) below) places

-- each place of a list has the widest scope that walks bring to it
abbrev pub AreWidest : List Link → List (List Link) → List (Option Scope) → Type 0
AreWidest first further scopes =
    (place : ℕ) → place < length further → IsWidest first further place (get_or scopes place None)

-- the scope of a winner at a place: the declared one, or the widest that was found
abbrev pub found_scope : Option Scope → Scope
found_scope None = Test
found_scope (Some scope) = scope

abbrev pub scope_at : List (Option Scope) → ℕ → Winner → Scope
scope_at widest place w = if is_none w.above then w.edge.scope else found_scope (get_or widest place None)

abbrev pub scopes_from : List (Option Scope) → ℕ → List Winner → List Scope
scopes_from widest place [] = []
scopes_from widest place (w ∷ rows) = scope_at widest place w ∷ scopes_from widest (place + 1) rows
