-- The POM that each POM without a parent builds on. Introduction to the POM, "Super POM"; its repositories, its plugin management and
-- its reporting aren't used.
use Rattle.std.specs.Prelude.{[], ◌∷◌, codes, Some, None}
use Rattle.mvn_base.specs.declared.refusal.PomId.TheVariants as ids
use Rattle.model_types.specs.declared.build.Build.{Build}
use Rattle.model_types.specs.declared.build.Outputs.{Outputs}
use Rattle.model_types.specs.declared.build.Sources.{Sources}
use Rattle.model_types.specs.declared.model.RawModel.{RawModel}

unfoldable pub super_outputs : Outputs
super_outputs = record {
  directory = Some (codes "${project.basedir}/target");
  output = Some (codes "${project.build.directory}/classes");
  test_output = Some (codes "${project.build.directory}/test-classes");
  final_name = Some (codes "${project.artifactId}-${project.version}");
}

unfoldable pub super_sources : Sources
super_sources = record {
  source = Some (codes "${project.basedir}/src/main/java");
  test_source = Some (codes "${project.basedir}/src/test/java");
  resources = codes "${project.basedir}/src/main/resources" ∷ [];
  test_resources = codes "${project.basedir}/src/test/resources" ∷ [];
}

unfoldable pub super_build : Build
super_build = record {
  outputs = super_outputs;
  sources = super_sources;
  base = record { plugins = []; managed_plugins = [] };
  extensions = [];
}

unfoldable pub super_pom : RawModel
super_pom = record {
  pom = ids.Gav (record { group = []; artifact = []; version = [] });
  parent = None;
  coordinates = record { group = None; artifact = []; version = None; packaging = codes "pom" };
  base = record { modules = []; properties = []; managed = []; dependencies = [] };
  build = super_build;
  profiles = [];
}
