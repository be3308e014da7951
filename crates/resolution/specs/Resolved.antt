-- What a project is built with, or why it is refused. Introduction to the Dependency Mechanism.
use Rattle.std.specs.Prelude.{◌≡◌, ◌⊎◌, ℕ, ◌+◌, Bool, true, false, List, [], ◌∷◌, flat_map, get_or, nat_lt, slice_get, Option, Some, None, Result, Ok, Err, if◌then◌else◌}
use Rattle.collector.specs.declared.scope.Scope.{Scope}
use Rattle.collector.specs.declared.scope.Scope.TheVariants.{Test}
use Rattle.classpaths.specs.declared.resolution.Note.{Note}
use Rattle.classpaths.specs.declared.resolution.Note.TheVariants as notes
use Rattle.classpaths.specs.declared.resolution.Resolution.{Resolution}
use Rattle.classpaths.specs.declared.resolution.Resolved.{Resolved}
use Rattle.mediation.specs.Faults.{Reason}
use Rattle.mediation.specs.Libraries.{Libraries, gav_of, graph_of}
use Rattle.mediation.specs.Rows.{IsWhole, first_reason, paths_of}
use Rattle.mediation.specs.declared.fault.MediationFault.{MediationFault}
use Rattle.mediation.specs.declared.fault.MediationFault.TheVariants.{Refused, Lookup, Memory}
use Rattle.mediation.specs.declared.known.Known.{Known}
use Rattle.mediation.specs.declared.known.Known.TheVariants as known
use Rattle.mediation.specs.declared.winner.Winner.{Winner}
use Rattle.model_types.specs.declared.dependency.Dependency.{Dependency}
use Rattle.mvn_base.specs.Key.{key_text}
use Rattle.mvn_base.specs.declared.key.Key.{Key}
use Rattle.mvn_base.specs.declared.rule.Rule.TheVariants.{RangeConflict}
use Rattle.resolution.specs.Conflicts.{first_conflict}
use Rattle.resolution.specs.Preorder.{preorder}
use Rattle.collector.specs.Winners.{Graph, Path, winners}
use Rattle.resolution.specs.Scopes.{IsScope}

-- a note of a POM that is missing or refused
abbrev pub note_of_known : Winner → Known → List Note
note_of_known w (known.Model m) = []
note_of_known w known.Missing = notes.Missing (gav_of w.edge.key w.version) ∷ []
note_of_known w (known.Refused rule) = notes.Refused (gav_of w.edge.key w.version) rule ∷ []

abbrev pub note_of : Winner → List Note
note_of w = note_of_known w w.known

-- in the order of the winners
abbrev pub notes_of : List Winner → List Note
notes_of rows = flat_map note_of rows

-- whether a POM is there; one that is refused is
abbrev pub is_there : Known → Bool
is_there (known.Model m) = true
is_there known.Missing = false
is_there (known.Refused rule) = true

-- the place of the winner above one, which comes before it
abbrev pub earlier : ℕ → Option ℕ → Option ℕ
earlier at None = None
earlier at (Some place) = if nat_lt place at then Some place else None

abbrev pub above_at : ℕ → Winner → Option ℕ
above_at at w = earlier at w.above

abbrev pub aboves_from : ℕ → List Winner → List (Option ℕ)
aboves_from at [] = []
aboves_from at (w ∷ rows) = above_at at w ∷ aboves_from (at + 1) rows

-- the winners' places in the order of the dependency tree
abbrev pub tree_order : List Winner → List ℕ
tree_order rows = preorder (aboves_from 0 rows)

-- a winner with its scope
abbrev pub resolved : Winner → Scope → Resolved
resolved w scope = record {
  gav = gav_of w.edge.key w.version;
  kind = w.edge.key.kind;
  classifier = w.edge.key.classifier;
  scope = scope;
  pom_found = is_there w.known;
}

abbrev pub resolved_row : Scope → Option Winner → List Resolved
resolved_row scope None = []
resolved_row scope (Some w) = resolved w scope ∷ []

abbrev pub resolved_at : List Winner → List Scope → ℕ → List Resolved
resolved_at rows scopes place = resolved_row (get_or scopes place Test) (slice_get rows place)

-- the scope at each winner's place is the winner's
abbrev pub AreScopes : Libraries → List (Key × Dependency) → List Dependency → List Winner → List Scope → Type 0
AreScopes libraries managed direct rows scopes =
    (place : ℕ) (path : Path) → slice_get (paths_of rows) place ≡ Some path
    → IsScope (graph_of libraries managed direct) (paths_of rows) path (get_or scopes place Test)

-- what winners come to: each with its scope, in the order of the tree, and a note of each POM that leads to nothing
pub record IsMade (managed : List (Key × Dependency)) (direct : List Dependency) (rows : List Winner) (resolution : Resolution) : Type 0 where
  pub scopes : List Scope
  pub widest : (libraries : Libraries) → IsWhole libraries (graph_of libraries managed direct) rows → AreScopes libraries managed direct rows scopes
  pub winners : resolution.winners ≡ flat_map (resolved_at rows scopes) (tree_order rows)
  pub notes : resolution.notes ≡ notes_of rows

-- all winners, none of which a range of some declaration doesn't admit
pub record Stands (libraries : Libraries) (managed : List (Key × Dependency)) (direct : List Dependency) (resolution : Resolution) : Type 0 where
  pub rows : List Winner
  pub whole : IsWhole libraries (graph_of libraries managed direct) rows
  pub free : first_conflict managed direct rows ≡ None
  pub made : IsMade managed direct rows resolution

-- the refusal of a winner that a range doesn't admit
abbrev pub reason_of : Option Winner → Option Reason
reason_of None = None
reason_of (Some w) = Some (RangeConflict, key_text w.edge.key)

pub record Conflicts (libraries : Libraries) (managed : List (Key × Dependency)) (direct : List Dependency) (reason : Reason) : Type 0 where
  pub rows : List Winner
  pub whole : IsWhole libraries (graph_of libraries managed direct) rows
  pub is : reason_of (first_conflict managed direct rows) ≡ Some reason

-- what a project is built with, or the first refusal: of a winner that has no version or no room, and else of one that a range
-- doesn't admit
abbrev pub Mediates : Libraries → List (Key × Dependency) → List Dependency → Result Resolution MediationFault → Type 0
Mediates libraries managed direct (Ok resolution) = Stands libraries managed direct resolution
Mediates libraries managed direct (Err (Refused rule place)) =
    ((n : ℕ) × (first_reason libraries 0 (winners (graph_of libraries managed direct) n) ≡ Some (rule, place)))
    ⊎ Conflicts libraries managed direct (rule, place)
Mediates libraries managed direct (Err Lookup) = Unit {0}
Mediates libraries managed direct (Err Memory) = Unit {0}
