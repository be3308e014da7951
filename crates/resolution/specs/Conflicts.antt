-- Which winners a version range doesn't admit. POM Reference, "Dependency Version Requirement Specification".
use Rattle.std.specs.Prelude.{ℕ, Bool, false, not, ◌&&◌, List, ◌++◌, find, flat_map, Option, Some, None, Result, Ok, Err}
use Rattle.std.specs.List.{list_any}
use Rattle.collector.specs.Edges.{direct_edges}
use Rattle.collector.specs.declared.edge.Edge.{Edge}
use Rattle.mediation.specs.Rows.{edges_below, row_of}
use Rattle.mediation.specs.declared.winner.Winner.{Winner}
use Rattle.model_merge.specs.Keyed.{same_key}
use Rattle.model_types.specs.declared.dependency.Dependency.{Dependency}
use Rattle.mvn_base.specs.declared.key.Key.{Key}
use Rattle.versions.specs.Requirements.{admits, requirement}
use Rattle.versions.specs.declared.requirement.Requirement.{Requirement}

-- a requirement doesn't admit a version; a text that requires nothing admits all
abbrev pub refuses : Requirement → List ℕ → Bool
refuses r version = not (admits r version)

abbrev pub is_unmet : Result Requirement ℕ → List ℕ → Bool
is_unmet (Ok r) version = refuses r version
is_unmet (Err place) version = false

-- an edge's requirement doesn't admit the version of its key's winner
abbrev pub unmet_by : Edge → Option Winner → Bool
unmet_by e None = false
unmet_by e (Some w) = is_unmet (requirement e.requirement) w.version

abbrev pub conflicts : List Winner → Edge → Bool
conflicts rows e = unmet_by e (row_of rows e.key)

-- some edge of a key conflicts
abbrev pub is_of : List Winner → Key → Edge → Bool
is_of rows key e = same_key e.key key && conflicts rows e

abbrev pub some_conflict : List Winner → List Edge → Key → Bool
some_conflict rows edges key = list_any (is_of rows key) edges

-- the first winner for whose key some edge conflicts
abbrev pub conflict_among : List Winner → List Edge → Option Winner
conflict_among rows edges = find (λ w. some_conflict rows edges w.edge.key) rows

-- all declarations that count: the project's, and those of each winner's POM
abbrev pub declared : List (Key × Dependency) → List Dependency → List Winner → List Edge
declared managed direct rows = direct_edges direct ++ flat_map (edges_below managed) rows

-- the first winner for whose key some declaration conflicts
abbrev pub first_conflict : List (Key × Dependency) → List Dependency → List Winner → Option Winner
first_conflict managed direct rows = conflict_among rows (declared managed direct rows)
