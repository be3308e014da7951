-- What a project's dependencies lead to among the libraries there are. Introduction to the Dependency Mechanism; POM
-- Reference, "Dependency Version Requirement Specification".
use Rattle.std.specs.Prelude.{ℕ, Bool, ◌&&◌, List, [], ◌∷◌, ◌++◌, find, not, codes, Option, Some, None, Result, Ok, Err, nat_lt, if◌then◌else◌}
use Rattle.std.specs.List.{list_any}
use Rattle.std.specs.Ordering.{is_gt}
use Rattle.versions.specs.Order.{version_cmp}
use Rattle.versions.specs.Requirements.{admits, requirement}
use Rattle.versions.specs.declared.requirement.Requirement.{Requirement}
use Rattle.versions.specs.declared.requirement.Requirement.TheVariants.{Soft, Hard}
use Rattle.mvn_base.specs.Key.{key_text}
use Rattle.mvn_base.specs.declared.gav.Gav.{Gav}
use Rattle.mvn_base.specs.declared.key.Key.{Key}
use Rattle.mvn_base.specs.declared.rule.Rule.TheVariants.{EmptyRange, GraphTooLarge}
use Rattle.model_types.specs.declared.dependency.Dependency.{Dependency}
use Rattle.collector.specs.Edges.{direct_edges, transitive_edges}
use Rattle.collector.specs.declared.edge.Edge.{Edge}
use Rattle.mediation.specs.Faults.{Reason}
use Rattle.collector.specs.Winners.{Graph}
use Rattle.mediation.specs.declared.known.Known.{Known}
use Rattle.mediation.specs.declared.known.Known.TheVariants.{Model}

-- what is known of each coordinate's POM, and each artifact's versions, unless there are too many
pub record Libraries : Type 0 where
  pub at : Gav → Known
  pub versions : (group artifact : List ℕ) → Option (List (List ℕ))

-- an admitted version is greater
abbrev pub is_exceeded : Requirement → List (List ℕ) → List ℕ → Bool
is_exceeded r versions version =
    list_any (λ v. admits r v && is_gt (version_cmp v version)) versions

-- it is admitted, and none that is admitted is greater
abbrev pub is_greatest : Requirement → List (List ℕ) → List ℕ → Bool
is_greatest r versions version = admits r version && not (is_exceeded r versions version)

-- the first of those
abbrev pub highest : Requirement → List (List ℕ) → Option (List ℕ)
highest r versions = find (is_greatest r versions) versions

-- the version that a requirement takes: its own, or the highest available one that it admits; a text that is no
-- requirement admits none
abbrev pub found : Key → Option (List ℕ) → Result (List ℕ) Reason
found key None = Err (EmptyRange, key_text key)
found key (Some version) = Ok version

abbrev pub among : Key → Requirement → Option (List (List ℕ)) → Result (List ℕ) Reason
among key r None = Err (GraphTooLarge, key.group ++ 58 ∷ key.artifact)
among key r (Some versions) = found key (highest r versions)

abbrev pub required : Libraries → Key → Result Requirement ℕ → Result (List ℕ) Reason
required libraries key (Ok (Soft version)) = Ok version
required libraries key (Ok (Hard intervals)) =
    among key (Hard intervals) (libraries.versions key.group key.artifact)
required libraries key (Err place) = Err (EmptyRange, key_text key)

unfoldable pub picked : Libraries → Edge → Result (List ℕ) Reason
picked libraries e = required libraries e.key (requirement e.requirement)

-- artifacts of one dependency graph
abbrev pub most_winners : ℕ
most_winners = 16384

-- the version of the winner at a place, where there is room for it
unfoldable pub chosen : Libraries → ℕ → Edge → Result (List ℕ) Reason
chosen libraries place e =
    if nat_lt place most_winners then picked libraries e else Err (GraphTooLarge, codes "keys")

-- the coordinate of a version, and what its POM declares
abbrev pub gav_of : Key → List ℕ → Gav
gav_of key version = record { group = key.group; artifact = key.artifact; version = version }

abbrev pub declarations : Known → List Dependency
declarations (Model m) = m.base.dependencies
declarations known = []

-- what an edge's end leads to, at the version that is picked for it
abbrev pub leads_to : Libraries → List (Key × Dependency) → Edge → Result (List ℕ) Reason
    → List Edge
leads_to libraries managed e (Ok version) =
    transitive_edges (declarations (libraries.at (gav_of e.key version))) managed e.exclusions
leads_to libraries managed e (Err refusal) = []

abbrev pub graph_of : Libraries → List (Key × Dependency) → List Dependency → Graph
graph_of libraries managed direct = record {
  direct = direct_edges direct;
  below = λ e. leads_to libraries managed e (picked libraries e);
}
