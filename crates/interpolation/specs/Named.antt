-- What an expression of a model can name. POM Reference, "Properties"; which of equal names counts is a project rule.
use Rattle.std.specs.Prelude.{ℕ, List, [], ◌++◌, codes, map, Option, None, Some, option_map, option_to_list}
use Rattle.mvn_base.specs.declared.gav.Gav.{Gav}
use Rattle.mvn_base.specs.declared.machine.Machine.{Machine}
use Rattle.mvn_base.specs.declared.machine.Pair.{Pair}
use Rattle.model_types.specs.declared.build.Build.{Build}
use Rattle.model_types.specs.declared.build.Outputs.{Outputs}
use Rattle.model_types.specs.declared.build.Sources.{Sources}
use Rattle.model_types.specs.declared.model.Parent.{Parent}
use Rattle.model_types.specs.declared.model.RawModel.{RawModel}

-- a name with its text, where there is one
abbrev pub field : List ℕ → Option (List ℕ) → List Pair
field name text = option_to_list (option_map (λ t. record { name = name; value = t }) text)

-- names that stand behind a front
abbrev pub behind : List ℕ → List Pair → List Pair
behind front pairs = map (λ (p : Pair). record { name = front ++ p.name; value = p.value }) pairs

-- the names that stand alone, and after `project.`
abbrev pub own_fields : RawModel → Option (List ℕ) → List Pair
own_fields raw basedir =
    field (codes "basedir") basedir
    ++ field (codes "groupId") raw.coordinates.group
    ++ field (codes "artifactId") (Some raw.coordinates.artifact)
    ++ field (codes "version") raw.coordinates.version

abbrev pub coordinate_fields : Gav → List Pair
coordinate_fields gav = field (codes "parent.groupId") (Some gav.group) ++ field (codes "parent.artifactId") (Some gav.artifact) ++ field (codes "parent.version") (Some gav.version)

abbrev pub parent_fields : Option Parent → List Pair
parent_fields None = []
parent_fields (Some parent) = coordinate_fields parent.gav

abbrev pub output_fields : Outputs → List Pair
output_fields outputs =
    field (codes "build.directory") outputs.directory
    ++ field (codes "build.outputDirectory") outputs.output
    ++ field (codes "build.testOutputDirectory") outputs.test_output
    ++ field (codes "build.finalName") outputs.final_name

abbrev pub source_fields : Sources → List Pair
source_fields sources = field (codes "build.sourceDirectory") sources.source ++ field (codes "build.testSourceDirectory") sources.test_source

abbrev pub build_fields : Build → List Pair
build_fields build = output_fields build.outputs ++ source_fields build.sources

-- the fields of a model
abbrev pub fields : RawModel → Option (List ℕ) → List Pair
fields raw basedir = own_fields raw basedir ++ field (codes "packaging") (Some raw.coordinates.packaging) ++ parent_fields raw.parent ++ build_fields raw.build

-- all that can be named in a model of these fields, from what counts least on: of equal names the last one counts
unfoldable pub named_with : RawModel → Option (List ℕ) → Machine → List Pair → List Pair → List Pair
named_with raw basedir machine defines fields =
    own_fields raw basedir
    ++ machine.system
    ++ behind (codes "env.") machine.env
    ++ raw.base.properties
    ++ defines
    ++ behind (codes "pom.") fields
    ++ behind (codes "project.") fields

-- all that can be named in a model
unfoldable pub named : RawModel → Option (List ℕ) → Machine → List Pair → List Pair
named raw basedir machine defines = named_with raw basedir machine defines (fields raw basedir)
