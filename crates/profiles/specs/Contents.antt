-- The program's own words for what profiles have, one behind another.
use Rattle.std.specs.Prelude.{List, [], ◌++◌, flat_map, map, Option, Some, None}
use Rattle.model_types.specs.declared.build.BuildBase.{BuildBase}
use Rattle.model_types.specs.declared.model.ModelBase.{ModelBase}
use Rattle.model_types.specs.declared.profile.Profile.{Profile}
use Rattle.model_merge.specs.Keyed.{absorbed, settled}
use Rattle.model_merge.specs.Keys.{key_of_dependency, key_of_pair, key_of_plugin}
use Rattle.model_merge.specs.Merging.{merged_plugin, settled_plugin}
use Rattle.profiles.specs.Injection.{plugins_in}

-- what a profile has, behind what others have
abbrev pub base_behind : ModelBase → Profile → ModelBase
base_behind base p = record {
  modules = base.modules ++ p.base.modules;
  properties = base.properties ++ p.base.properties;
  managed = base.managed ++ p.base.managed;
  dependencies = base.dependencies ++ p.base.dependencies;
}

abbrev pub build_behind : BuildBase → Profile → BuildBase
build_behind build p = record {
  plugins = build.plugins ++ plugins_in (λ p. p.build.plugins) p;
  managed_plugins = build.managed_plugins ++ plugins_in (λ p. p.build.managed_plugins) p;
}

abbrev pub no_plugins : BuildBase
no_plugins = record { plugins = []; managed_plugins = [] }

-- the same, where there is a profile
abbrev pub base_behind_at : ModelBase → Option Profile → ModelBase
base_behind_at base None = base
base_behind_at base (Some p) = base_behind base p

abbrev pub build_behind_at : BuildBase → Option Profile → BuildBase
build_behind_at build None = build
build_behind_at build (Some p) = build_behind build p

-- what some profiles have, behind what others have
abbrev pub all_behind : ModelBase → List Profile → ModelBase
all_behind base ps = record {
  modules = base.modules ++ flat_map (λ (p : Profile). p.base.modules) ps;
  properties = base.properties ++ flat_map (λ (p : Profile). p.base.properties) ps;
  managed = base.managed ++ flat_map (λ (p : Profile). p.base.managed) ps;
  dependencies = base.dependencies ++ flat_map (λ (p : Profile). p.base.dependencies) ps;
}

abbrev pub all_built : BuildBase → List Profile → BuildBase
all_built build ps = record {
  plugins = build.plugins ++ flat_map (plugins_in (λ p. p.build.plugins)) ps;
  managed_plugins = build.managed_plugins ++ flat_map (plugins_in (λ p. p.build.managed_plugins)) ps;
}

-- of equal keys the last one counts
abbrev pub settled_base : ModelBase → ModelBase
settled_base base = record {
  modules = base.modules;
  properties = settled key_of_pair base.properties;
  managed = settled key_of_dependency base.managed;
  dependencies = settled key_of_dependency base.dependencies;
}

-- a build's plugins, each settled and merged with further ones
abbrev pub absorbed_build : BuildBase → BuildBase → BuildBase
absorbed_build own further = record {
  plugins = absorbed key_of_plugin merged_plugin (map settled_plugin own.plugins) further.plugins;
  managed_plugins = absorbed key_of_plugin merged_plugin (map settled_plugin own.managed_plugins) further.managed_plugins;
}
