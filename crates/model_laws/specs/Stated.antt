-- What a POM states, and what it is when nothing is added. POM Reference, "Inheritance" and "Profiles".
use Rattle.std.specs.Prelude.{◌≡◌, ℕ, false, List, map, Option, Some}
use Rattle.mvn_base.specs.declared.key.Key.{Key}
use Rattle.model_types.specs.declared.build.Build.{Build}
use Rattle.model_types.specs.declared.build.BuildBase.{BuildBase}
use Rattle.model_types.specs.declared.dependency.Dependency.{Dependency}
use Rattle.model_types.specs.declared.model.ModelBase.{ModelBase}
use Rattle.model_types.specs.declared.model.RawModel.{RawModel}
use Rattle.model_types.specs.declared.plugin.Plugin.{Plugin}
use Rattle.model_merge.specs.Keyed.{item_of, settled}
use Rattle.model_merge.specs.Keys.{key_of_dependency, key_of_pair, key_of_plugin}
use Rattle.model_merge.specs.Merging.{settled_plugins}
use Rattle.managed_deps.specs.Managed.{first_of_each}
use Rattle.model_laws.specs.Keys.{HasFirst, has}

-- what is stated stays
abbrev pub Stays : Option (List ℕ) → Option (List ℕ) → Type 0
Stays stated now = (text : List ℕ) → stated ≡ Some text → now ≡ Some text

-- a POM has what a child states, and what its parent states besides
pub record IsStatedFirst (child parent joined : RawModel) : Type 0 where
  pub group : Stays child.coordinates.group joined.coordinates.group
  pub version : Stays child.coordinates.version joined.coordinates.version
  pub properties : HasFirst key_of_pair child.base.properties parent.base.properties joined.base.properties
  pub managed : HasFirst key_of_dependency child.base.managed parent.base.managed joined.base.managed
  pub dependencies : HasFirst key_of_dependency child.base.dependencies parent.base.dependencies joined.base.dependencies

-- what is managed: entries, each under its key
abbrev pub Managed : Type 0
Managed = List (Key × Dependency)

-- the list of what is managed
abbrev pub managed_list : List Dependency → List Dependency
managed_list entries = map (λ e. e.1) (first_of_each entries)

-- the names of plugins
abbrev pub names : List Plugin → List Key
names plugins = map key_of_plugin plugins

-- a plugin that isn't declared, but is bound, and for which something is managed
pub record IsManagedAlone (plugins entries bindings : List Plugin) (entry binding : Plugin) : Type 0 where
  pub name : Key
  pub undeclared : has key_of_plugin plugins name ≡ false
  pub managed : item_of key_of_plugin (settled_plugins entries) name ≡ Some entry
  pub bound : item_of key_of_plugin (settled_plugins bindings) name ≡ Some binding

-- a POM whose lists have each key once
abbrev pub settled_base : ModelBase → ModelBase
settled_base base = record {
  modules = base.modules;
  properties = settled key_of_pair base.properties;
  managed = settled key_of_dependency base.managed;
  dependencies = settled key_of_dependency base.dependencies;
}

abbrev pub settled_build_base : BuildBase → BuildBase
settled_build_base base = record {
  plugins = settled_plugins base.plugins;
  managed_plugins = settled_plugins base.managed_plugins;
}

abbrev pub settled_build : Build → Build
settled_build build = record {
  outputs = build.outputs;
  sources = build.sources;
  base = settled_build_base build.base;
  extensions = build.extensions;
}

abbrev pub settled_model : RawModel → RawModel
settled_model raw = record {
  pom = raw.pom;
  parent = raw.parent;
  coordinates = raw.coordinates;
  base = settled_base raw.base;
  build = settled_build raw.build;
  profiles = raw.profiles;
}
