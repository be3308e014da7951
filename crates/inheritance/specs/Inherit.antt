-- What a POM takes over from its parent, group by group. POM Reference, "Inheritance"; the order of joined lists is an own rule.
use Rattle.std.specs.Option.{option_or}
use Rattle.model_types.specs.declared.build.Build.{Build}
use Rattle.model_types.specs.declared.build.BuildBase.{BuildBase}
use Rattle.model_types.specs.declared.build.Outputs.{Outputs}
use Rattle.model_types.specs.declared.build.Sources.{Sources}
use Rattle.model_types.specs.declared.model.Coordinates.{Coordinates}
use Rattle.model_types.specs.declared.model.ModelBase.{ModelBase}
use Rattle.model_types.specs.declared.model.RawModel.{RawModel}
use Rattle.model_merge.specs.Keyed.{with_others}
use Rattle.model_merge.specs.Keys.{key_of_dependency, key_of_extension, key_of_pair}
use Rattle.model_merge.specs.Stated.{stated_or}
use Rattle.inheritance.specs.Placing.{inherited_plugins}

-- the artifact and the packaging are each POM's own
unfoldable pub inherit_coordinates : Coordinates → Coordinates → Coordinates
inherit_coordinates child parent = record {
  group = option_or child.group parent.group;
  artifact = child.artifact;
  version = option_or child.version parent.version;
  packaging = child.packaging;
}

-- the modules are each POM's own
unfoldable pub inherit_base : ModelBase → ModelBase → ModelBase
inherit_base child parent = record {
  modules = child.modules;
  properties = with_others key_of_pair child.properties parent.properties;
  managed = with_others key_of_dependency child.managed parent.managed;
  dependencies = with_others key_of_dependency child.dependencies parent.dependencies;
}

unfoldable pub inherit_outputs : Outputs → Outputs → Outputs
inherit_outputs child parent = record {
  directory = option_or child.directory parent.directory;
  output = option_or child.output parent.output;
  test_output = option_or child.test_output parent.test_output;
  final_name = option_or child.final_name parent.final_name;
}

unfoldable pub inherit_sources : Sources → Sources → Sources
inherit_sources child parent = record {
  source = option_or child.source parent.source;
  test_source = option_or child.test_source parent.test_source;
  resources = stated_or child.resources parent.resources;
  test_resources = stated_or child.test_resources parent.test_resources;
}

unfoldable pub inherit_build_base : BuildBase → BuildBase → BuildBase
inherit_build_base child parent = record {
  plugins = inherited_plugins child.plugins parent.plugins;
  managed_plugins = inherited_plugins child.managed_plugins parent.managed_plugins;
}

unfoldable pub inherit_build : Build → Build → Build
inherit_build child parent = record {
  outputs = inherit_outputs child.outputs parent.outputs;
  sources = inherit_sources child.sources parent.sources;
  base = inherit_build_base child.base parent.base;
  extensions = with_others key_of_extension child.extensions parent.extensions;
}

-- the name, the parent and the profiles are each POM's own
unfoldable pub inherit : RawModel → RawModel → RawModel
inherit child parent = record {
  pom = child.pom;
  parent = child.parent;
  coordinates = inherit_coordinates child.coordinates parent.coordinates;
  base = inherit_base child.base parent.base;
  build = inherit_build child.build parent.build;
  profiles = child.profiles;
}
