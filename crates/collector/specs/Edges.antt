-- What the dependencies of one POM lead to. Introduction to the Dependency Mechanism, "Transitive Dependencies",
-- "Dependency Management" and "Excluded Dependencies".
use Rattle.std.specs.Prelude.{ℕ, ◌+◌, Bool, false, not, ◌&&◌, ◌||◌, List, [], ◌∷◌, ◌++◌, codes, Option, Some, None, is_some, if◌then◌else◌}
use Rattle.std.specs.Option.{option_or}
use Rattle.std.specs.Str.{bytes_eq}
use Rattle.mvn_base.specs.declared.key.Key.{Key}
use Rattle.model_types.specs.declared.dependency.Dependency.{Dependency}
use Rattle.model_types.specs.declared.dependency.Exclusion.{Exclusion}
use Rattle.managed_deps.specs.Managed.{find_pair, is_scope, key_of}
pub use Rattle.collector.specs.Excluding.{excludes, is_excluded, is_named}
use Rattle.collector.specs.declared.edge.Edge.{Edge}
use Rattle.collector.specs.declared.scope.Scope.{Scope}
use Rattle.collector.specs.declared.scope.Scope.TheVariants.{Compile, Provided, Runtime, Test}

-- the scope of a name, and the one that is stated; `compile` where none is
abbrev pub scope_named : List ℕ → Scope
scope_named name =
    if bytes_eq name (codes "provided") then Provided
    else (if bytes_eq name (codes "runtime") then Runtime
    else (if bytes_eq name (codes "test") then Test else Compile))

abbrev pub scope_of : Option (List ℕ) → Scope
scope_of None = Compile
scope_of (Some name) = scope_named name

-- a text, empty where there is none
abbrev pub text_of : Option (List ℕ) → List ℕ
text_of None = []
text_of (Some text) = text

-- an edge, with a version and a scope as they are stated
unfoldable pub stated_edge : ℕ → Key → Option (List ℕ) → Option (List ℕ) → Bool → List Exclusion → Edge
stated_edge position key version scope managed exclusions = record {
  position = position;
  key = key;
  requirement = text_of version;
  scope = scope_of scope;
  managed_scope = managed;
  exclusions = exclusions;
}

-- a list's edges, where each declaration has some by its place
abbrev pub edges_from : (ℕ → Dependency → List Edge) → ℕ → List Dependency → List Edge
edges_from f at [] = []
edges_from f at (d ∷ dependencies) = f at d ++ edges_from f (at + 1) dependencies

-- a declaration of the project's own
abbrev pub direct_edge : ℕ → Dependency → Edge
direct_edge position d = stated_edge position (key_of d) d.version d.scope false d.exclusions

abbrev pub direct_edges : List Dependency → List Edge
direct_edges dependencies = edges_from (λ at d. direct_edge at d ∷ []) 0 dependencies

-- what counts below the project: what isn't optional, nor of the scopes test, provided and system
abbrev pub is_kept : Dependency → Bool
is_kept d =
    not (bytes_eq d.optional (codes "true")
    || (is_scope (codes "test") d.scope
    || (is_scope (codes "provided") d.scope
    || is_scope (codes "system") d.scope)))

-- a declaration below the project that isn't managed, and one that is: there the managed version and scope come first,
-- and the managed exclusions last
abbrev pub plain_edge : ℕ → Key → Dependency → List Exclusion → Edge
plain_edge position key d cut = stated_edge position key d.version d.scope false (cut ++ d.exclusions)

abbrev pub managed_edge : ℕ → Key → Dependency → List Exclusion → Dependency → Edge
managed_edge position key d cut m =
    stated_edge position key (option_or m.version d.version) (option_or m.scope d.scope) (is_some m.scope)
    (cut ++ d.exclusions ++ m.exclusions)

abbrev pub by_management : ℕ → Dependency → List Exclusion → Option Dependency → Edge
by_management position d cut None = plain_edge position (key_of d) d cut
by_management position d cut (Some m) = managed_edge position (key_of d) d cut m

abbrev pub edge_below : ℕ → Dependency → List (Key × Dependency) → List Exclusion → Edge
edge_below position d managed cut = by_management position d cut (find_pair managed (key_of d))

-- what one declaration below the project leads to: nothing where it is left out
abbrev pub transitive_edge : List (Key × Dependency) → List Exclusion → ℕ → Dependency → List Edge
transitive_edge managed cut position d =
    if is_kept d && not (is_excluded cut d) then edge_below position d managed cut ∷ [] else []

abbrev pub transitive_edges : List Dependency → List (Key × Dependency) → List Exclusion → List Edge
transitive_edges dependencies managed cut = edges_from (transitive_edge managed cut) 0 dependencies
