-- What a POM has when the contents of its active profiles are added. POM Reference, "Profiles".
use Rattle.std.specs.Prelude.{List, flat_map}
use Rattle.model_types.specs.declared.dependency.Dependency.{Dependency}
use Rattle.model_types.specs.declared.model.RawModel.{RawModel}
use Rattle.model_types.specs.declared.plugin.Plugin.{Plugin}
use Rattle.model_types.specs.declared.profile.Profile.{Profile}
use Rattle.mvn_base.specs.declared.machine.Pair.{Pair}
use Rattle.model_merge.specs.Keys.{key_of_dependency, key_of_pair, key_of_plugin}
use Rattle.model_laws.specs.Keys.{HasFirst, IsJoin}

-- what some profiles state, one behind another
abbrev pub properties_of : List Profile → List Pair
properties_of profiles = flat_map (λ (p : Profile). p.base.properties) profiles

abbrev pub managed_of : List Profile → List Dependency
managed_of profiles = flat_map (λ (p : Profile). p.base.managed) profiles

abbrev pub dependencies_of : List Profile → List Dependency
dependencies_of profiles = flat_map (λ (p : Profile). p.base.dependencies) profiles

abbrev pub plugins_of : List Profile → List Plugin
plugins_of profiles = flat_map (λ (p : Profile). p.build.plugins) profiles

abbrev pub managed_plugins_of : List Profile → List Plugin
managed_plugins_of profiles = flat_map (λ (p : Profile). p.build.managed_plugins) profiles

-- a POM has under each key what the last of its profiles states, and what it states itself where none does
pub record IsStatedByProfiles (raw : RawModel) (active : List Profile) (injected : RawModel) : Type 0 where
  pub properties : HasFirst key_of_pair (properties_of active) raw.base.properties injected.base.properties
  pub managed : HasFirst key_of_dependency (managed_of active) raw.base.managed injected.base.managed
  pub dependencies : HasFirst key_of_dependency (dependencies_of active) raw.base.dependencies injected.base.dependencies

-- a POM's lists have its own keys and those of its profiles, each once
pub record HasKeysOfBoth (raw : RawModel) (active : List Profile) (injected : RawModel) : Type 0 where
  pub properties : IsJoin key_of_pair raw.base.properties (properties_of active) injected.base.properties
  pub managed : IsJoin key_of_dependency raw.base.managed (managed_of active) injected.base.managed
  pub dependencies : IsJoin key_of_dependency raw.base.dependencies (dependencies_of active) injected.base.dependencies
  pub plugins : IsJoin key_of_plugin raw.build.base.plugins (plugins_of active) injected.build.base.plugins
  pub managed_plugins : IsJoin key_of_plugin raw.build.base.managed_plugins (managed_plugins_of active) injected.build.base.managed_plugins
