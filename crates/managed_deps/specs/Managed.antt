-- Which dependency is managed under a key, and what a declaration takes from it. Introduction to the Dependency Mechanism,
-- "Dependency Management".
pub use Rattle.model_merge.specs.Keyed.{same_key}
pub use Rattle.model_merge.specs.Keys.{key_of_dependency as key_of}
use Rattle.std.specs.Prelude.{ℕ, Bool, false, not, List, [], ◌∷◌, ◌++◌, map, flat_map, filter, fold, codes, Option, Some, None, is_some, if◌then◌else◌}
use Rattle.std.specs.Map.{lookup}
use Rattle.std.specs.Option.{option_or}
use Rattle.std.specs.Str.{bytes_eq}
use Rattle.mvn_base.specs.declared.key.Key.{Key}
use Rattle.model_types.specs.declared.dependency.Dependency.{Dependency}
use Rattle.model_types.specs.declared.dependency.Exclusion.{Exclusion}
use Rattle.model_types.specs.declared.plugin.Plugin.{Plugin}
use Rattle.model_merge.specs.Keyed.{underlaid}
use Rattle.model_merge.specs.Keys.{key_of_plugin}
use Rattle.model_merge.specs.Merging.{merged_plugin, settled_plugins}

-- an entry that stands for what another POM manages
abbrev pub is_scope : List ℕ → Option (List ℕ) → Bool
is_scope name (Some scope) = bytes_eq scope name
is_scope name None = false

abbrev pub is_import : Dependency → Bool
is_import d = is_scope (codes "import") d.scope

-- the entry of a key, the first that is there
abbrev pub find_entry : List Dependency → Key → Option Dependency
find_entry [] key = None
find_entry (d ∷ entries) key = if same_key key (key_of d) then Some d else find_entry entries key

-- so of entries that each stand under a key
abbrev pub find_pair : List (Key × Dependency) → Key → Option Dependency
find_pair entries key = lookup (same_key key) entries

-- one entry more, under its key, where none is there
abbrev pub add : List (Key × Dependency) → Dependency → List (Key × Dependency)
add entries d = if is_some (find_pair entries (key_of d)) then entries else entries ++ (key_of d, d) ∷ []

-- the first entry of each key, in order
abbrev pub first_of_each : List Dependency → List (Key × Dependency)
first_of_each entries = fold add [] entries

-- own entries without imports, and then those of the imports in order
abbrev pub own_entries : List Dependency → List Dependency
own_entries own = filter (λ d. not (is_import d)) own

abbrev pub all_entries : List Dependency → List (List Dependency) → List Dependency
all_entries own imports = own_entries own ++ flat_map (λ entries. entries) imports

-- what a declaration takes where it has none
abbrev pub exclusions_of : List Exclusion → List Exclusion → List Exclusion
exclusions_of [] managed = managed
exclusions_of (e ∷ own) managed = e ∷ own

abbrev pub with_managed : Dependency → Option Dependency → Dependency
with_managed d None = d
with_managed d (Some m) = record {
  group = d.group;
  artifact = d.artifact;
  version = option_or d.version m.version;
  kind = d.kind;
  classifier = d.classifier;
  scope = option_or d.scope m.scope;
  optional = d.optional;
  exclusions = exclusions_of d.exclusions m.exclusions;
}

-- a declaration with what is managed under its key
abbrev pub apply_one : List (Key × Dependency) → Dependency → Dependency
apply_one set d = with_managed d (find_pair set (key_of d))

-- each plugin, merged as child with the managed one of its name, all of them settled
abbrev pub apply_plugins : List Plugin → List Plugin → List Plugin
apply_plugins plugins managed =
    map (underlaid key_of_plugin merged_plugin (settled_plugins managed)) (settled_plugins plugins)
