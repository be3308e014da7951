-- Winners as they are kept: each with its edge, its version and the place of the winner that it stands below.
use Rattle.std.specs.Prelude.{◌≡◌, ◌≤◌, ℕ, suc, List, [], ◌∷◌, ◌++◌, fold, find, length, map, position, slice_get, unwrap_or, Option, Some, None, Result, Ok, Err, All}
use Rattle.std.specs.Option.{option_or}
use Rattle.model_merge.specs.Keyed.{same_key}
use Rattle.mvn_base.specs.declared.key.Key.{Key}
use Rattle.model_types.specs.declared.dependency.Dependency.{Dependency}
use Rattle.collector.specs.Edges.{transitive_edges}
use Rattle.collector.specs.declared.edge.Edge.{Edge}
use Rattle.mediation.specs.declared.winner.Winner.{Winner}
use Rattle.mediation.specs.declared.fault.MediationFault.{MediationFault}
use Rattle.mediation.specs.declared.fault.MediationFault.TheVariants.{Refused, Lookup, Memory}
use Rattle.mediation.specs.Faults.{Reason}
use Rattle.mediation.specs.Libraries.{Libraries, chosen, declarations, gav_of, picked}
use Rattle.collector.specs.Winners.{Graph, Path, firsts, winners}

-- the winner of a key
abbrev pub row_of : List Winner → Key → Option Winner
row_of rows key = find (λ w. same_key key w.edge.key) rows

-- and the winner's place
abbrev pub place_of : List Winner → Key → Option ℕ
place_of rows key = position (λ w. same_key key w.edge.key) rows

-- a list has the place of the winner of each edge of another, in their order
abbrev pub ArePlaced : List Winner → List Edge → List ℕ → Type 0
ArePlaced rows edges places = map (λ e. place_of rows e.key) edges ≡ map Some places

-- the path above an edge: of the project itself, or of the winner at a place. Where there is none, the edge stands below
-- itself, and so has a path that no winner has
abbrev pub path_above : List Path → Edge → Option ℕ → Path
path_above paths e None = []
path_above paths e (Some place) = unwrap_or (slice_get paths place) (e ∷ [])

-- each winner's path
abbrev pub add_path : List Path → Winner → List Path
add_path paths w = paths ++ (w.edge ∷ path_above paths w.edge w.above) ∷ []

abbrev pub paths_of : List Winner → List Path
paths_of rows = fold add_path [] rows

-- why a winner at a place is refused, unless it has a version
abbrev pub reason : {T : Type 0} → Result T Reason → Option Reason
reason (Ok value) = None
reason (Err r) = Some r

abbrev pub reason_at : Libraries → ℕ → Path → Option Reason
reason_at libraries place [] = None
reason_at libraries place (e ∷ path) = reason (chosen libraries place e)

-- the first refusal of winners that stand in order, from a place on
abbrev pub first_reason : Libraries → ℕ → List Path → Option Reason
first_reason libraries place [] = None
first_reason libraries place (p ∷ paths) =
    option_or (reason_at libraries place p) (first_reason libraries (suc place) paths)

-- the winner has the version that is picked for its edge, and what is known of that version's POM
pub record IsPicked (libraries : Libraries) (w : Winner) : Type 0 where
  pub version : picked libraries w.edge ≡ Ok w.version
  pub known : w.known ≡ libraries.at (gav_of w.edge.key w.version)

-- what the POM of a winner leads to
abbrev pub edges_below : List (Key × Dependency) → Winner → List Edge
edges_below managed w = transitive_edges (declarations w.known) managed w.edge.exclusions

-- all winners of a graph, those of every length: none is refused, and each has the version that is picked
-- for its edge, and what is known of its POM
pub record IsWhole (libraries : Libraries) (graph : Graph) (rows : List Winner) : Type 0 where
  pub longest : ℕ
  pub wins : (n : ℕ) → longest ≤ n → paths_of rows ≡ winners graph n
  pub free : first_reason libraries 0 (paths_of rows) ≡ None
  pub versions : All (IsPicked libraries) rows

-- all winners of a graph, or the first refusal among them
abbrev pub Resolves : Libraries → Graph → Result (List Winner) MediationFault → Type 0
Resolves libraries graph (Ok rows) = IsWhole libraries graph rows
Resolves libraries graph (Err (Refused rule place)) =
    (n : ℕ) × (first_reason libraries 0 (winners graph n) ≡ Some (rule, place))
Resolves libraries graph (Err Lookup) = Unit {0}
Resolves libraries graph (Err Memory) = Unit {0}

-- What follows is said of the search alone.

-- the winner of an edge that takes a version
abbrev pub won_by : Libraries → Edge → Option ℕ → List ℕ → Winner
won_by libraries e above version = record {
  edge = e;
  version = version;
  above = above;
  known = libraries.at (gav_of e.key version);
}

-- the winners that there were stand where they stood
pub record IsPrefix (old new : List Winner) : Type 0 where
  pub more : List Winner
  pub is : new ≡ old ++ more

-- there is a path above
abbrev pub Leads : List Path → Option ℕ → Path → Type 0
Leads paths None front = front ≡ []
Leads paths (Some place) front = slice_get paths place ≡ Some front

-- what is kept grows by the first of each key among further paths; none of them is refused
pub record Grows (libraries : Libraries) (old new : List Winner) (paths : List Path) : Type 0 where
  pub wins : paths_of new ≡ paths_of old ++ firsts (paths_of old) paths
  pub free : first_reason libraries (length (paths_of old)) (firsts (paths_of old) paths) ≡ None
  pub versions : All (IsPicked libraries) old → All (IsPicked libraries) new

-- it grows so, or the first refusal among them is told
abbrev pub Adds : {T : Type 0} → Libraries → (old new : List Winner) → List Path
    → Result T MediationFault → Type 0
Adds libraries old new paths (Ok x) = Grows libraries old new paths
Adds libraries old new paths (Err (Refused rule place)) =
    first_reason libraries (length (paths_of old)) (firsts (paths_of old) paths)
    ≡ Some (rule, place)
Adds libraries old new paths (Err Lookup) = Unit {0}
Adds libraries old new paths (Err Memory) = Unit {0}
