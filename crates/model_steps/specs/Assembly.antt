-- The effective model, before it is checked: what is managed, the dependencies under it, and the coordinates. Introduction to the
-- Dependency Mechanism, "Dependency Management"; that a POM by coordinates loses dependencies is a project rule.
use Rattle.std.specs.Prelude.{ℕ, Bool, not, ◌||◌, List, [], map, filter, codes, Option, None, Some, option_map, unwrap_or}
use Rattle.std.specs.Option.{option_or}
use Rattle.std.specs.Str.{bytes_eq}
use Rattle.mvn_base.specs.declared.gav.Gav.{Gav}
use Rattle.mvn_base.specs.declared.key.Key.{Key}
use Rattle.mvn_base.specs.declared.refusal.PomId.{PomId}
use Rattle.mvn_base.specs.declared.refusal.PomId.TheVariants as ids
use Rattle.model_types.specs.declared.build.Build.{Build}
use Rattle.model_types.specs.declared.build.BuildBase.{BuildBase}
use Rattle.model_types.specs.declared.dependency.Dependency.{Dependency}
use Rattle.model_types.specs.declared.model.Coordinates.{Coordinates}
use Rattle.model_types.specs.declared.model.Model.{Model}
use Rattle.model_types.specs.declared.model.ModelBase.{ModelBase}
use Rattle.model_types.specs.declared.model.Parent.{Parent}
use Rattle.model_types.specs.declared.model.RawModel.{RawModel}
use Rattle.model_merge.specs.Keyed.{settled}
use Rattle.model_merge.specs.Keys.{key_of_dependency, key_of_extension}
use Rattle.model_merge.specs.Merging.{settled_plugins}
use Rattle.managed_deps.specs.Managed.{all_entries, apply_one, first_of_each, is_scope}

-- a dependency that nobody gets who depends on the POM
abbrev pub is_dropped : Dependency → Bool
is_dropped d =
    bytes_eq d.optional (codes "true") || is_scope (codes "test") d.scope
    || is_scope (codes "provided") d.scope || is_scope (codes "system") d.scope

-- the dependencies that count: all of a POM of the project, and of one by coordinates those that its dependents get
abbrev pub kept_as : PomId → List Dependency → List Dependency
kept_as (ids.Path path) dependencies = dependencies
kept_as (ids.Gav gav) dependencies = filter (λ d. not (is_dropped d)) dependencies

-- a dependency has the scope `compile` if it has none
abbrev pub with_scope : Dependency → Dependency
with_scope d = record {
  group = d.group;
  artifact = d.artifact;
  version = d.version;
  kind = d.kind;
  classifier = d.classifier;
  scope = option_or d.scope (Some (codes "compile"));
  optional = d.optional;
  exclusions = d.exclusions;
}

-- what is managed: the own entries and those of imports, the first of each key
abbrev pub managed_set : List Dependency → List (List Dependency) → List (Key × Dependency)
managed_set own imports = first_of_each (all_entries own imports)

-- the dependencies that count, of equal keys the last one, as managed, each with a scope. Expressions may have made keys equal
abbrev pub completed : PomId → List (Key × Dependency) → List Dependency → List Dependency
completed pom set dependencies =
    map with_scope (map (apply_one set) (kept_as pom (settled key_of_dependency dependencies)))

-- the coordinates; a text that is missing is empty
abbrev pub gav_of : Coordinates → Gav
gav_of c = record { group = unwrap_or c.group []; artifact = c.artifact; version = unwrap_or c.version [] }

abbrev pub base_of : PomId → List (Key × Dependency) → ModelBase → ModelBase
base_of pom set b = record {
  modules = b.modules;
  properties = b.properties;
  managed = map (λ e. e.1) set;
  dependencies = completed pom set b.dependencies;
}

-- plugins of which each name has one, and each is settled
abbrev pub settled_base : BuildBase → BuildBase
settled_base base = record {
  plugins = settled_plugins base.plugins;
  managed_plugins = settled_plugins base.managed_plugins;
}

-- the plugins of a module are settled when goals are bound; those of a POM by coordinates, which isn't built, are settled here
abbrev pub plugins_as : PomId → BuildBase → BuildBase
plugins_as (ids.Path path) base = base
plugins_as (ids.Gav gav) base = settled_base base

-- a build with these plugins, of extensions of equal keys the last one
abbrev pub build_of : Build → BuildBase → Build
build_of b base = record {
  outputs = b.outputs;
  sources = b.sources;
  base = base;
  extensions = settled key_of_extension b.extensions;
}

-- the effective model of a filled one, of its plugins, and of what each of its imports manages
unfoldable pub model_of : RawModel → BuildBase → List (List Dependency) → Model
model_of raw base imports = record {
  pom = raw.pom;
  gav = gav_of raw.coordinates;
  packaging = raw.coordinates.packaging;
  parent = option_map (λ (p : Parent). p.gav) raw.parent;
  base = base_of raw.pom (managed_set raw.base.managed imports) raw.base;
  build = build_of raw.build (plugins_as raw.pom base);
}
