-- A POM with the contents of its active profiles. POM Reference, "Profiles"; that a later profile counts over an earlier one, and the
-- order, are own rules.
use Rattle.std.specs.Prelude.{ℕ, List, ◌++◌, flat_map, filter_map, fold, slice_get}
use Rattle.mvn_base.specs.declared.key.Key.{Key}
use Rattle.model_types.specs.declared.build.Build.{Build}
use Rattle.model_types.specs.declared.build.BuildBase.{BuildBase}
use Rattle.model_types.specs.declared.model.ModelBase.{ModelBase}
use Rattle.model_types.specs.declared.model.RawModel.{RawModel}
use Rattle.model_types.specs.declared.plugin.Plugin.{Plugin}
use Rattle.model_types.specs.declared.profile.Profile.{Profile}
use Rattle.model_merge.specs.Keyed.{absorb, settled}
use Rattle.model_merge.specs.Keys.{key_of_dependency, key_of_pair, key_of_plugin}
use Rattle.model_merge.specs.Merging.{merged_plugin, settled_plugins}

-- the profiles at some places
abbrev pub profiles_at : List Profile → List ℕ → List Profile
profiles_at profiles places = filter_map (slice_get profiles) places

-- the POM's items, and then those of each profile: of equal keys the last one, at the place of the first
abbrev pub with_items : {T : Type 0} → (T → Key) → List T → (Profile → List T) → List Profile → List T
with_items key own items profiles = settled key (own ++ flat_map items profiles)

-- a profile's plugins, each settled
abbrev pub plugins_in : (Profile → List Plugin) → Profile → List Plugin
plugins_in plugins p = settled_plugins (plugins p)

-- the POM's plugins, and then those of each profile, merged as children with the ones of their names
abbrev pub with_plugins : List Plugin → (Profile → List Plugin) → List Profile → List Plugin
with_plugins own plugins profiles =
    fold (absorb key_of_plugin merged_plugin) (settled_plugins own) (flat_map (plugins_in plugins) profiles)

unfoldable pub inject_base : ModelBase → List Profile → ModelBase
inject_base own profiles = record {
  modules = own.modules ++ flat_map (λ (p : Profile). p.base.modules) profiles;
  properties = with_items key_of_pair own.properties (λ p. p.base.properties) profiles;
  managed = with_items key_of_dependency own.managed (λ p. p.base.managed) profiles;
  dependencies = with_items key_of_dependency own.dependencies (λ p. p.base.dependencies) profiles;
}

unfoldable pub inject_build_base : BuildBase → List Profile → BuildBase
inject_build_base own profiles = record {
  plugins = with_plugins own.plugins (λ p. p.build.plugins) profiles;
  managed_plugins = with_plugins own.managed_plugins (λ p. p.build.managed_plugins) profiles;
}

unfoldable pub inject_build : Build → List Profile → Build
inject_build own profiles = record {
  outputs = own.outputs;
  sources = own.sources;
  base = inject_build_base own.base profiles;
  extensions = own.extensions;
}

abbrev pub inject_profiles : RawModel → List Profile → RawModel
inject_profiles raw profiles = record {
  pom = raw.pom;
  parent = raw.parent;
  coordinates = raw.coordinates;
  base = inject_base raw.base profiles;
  build = inject_build raw.build profiles;
  profiles = raw.profiles;
}

-- a POM with its profiles at some places
unfoldable pub inject : RawModel → List ℕ → RawModel
inject raw places = inject_profiles raw (profiles_at raw.profiles places)
