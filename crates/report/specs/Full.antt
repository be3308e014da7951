-- What the full report tells of a module: its effective model, and the files of its classpaths. Project format.
use Rattle.std.specs.Prelude.{ℕ, Bool, ◌&&◌, List, [], ◌∷◌, flat_map, slice_get, Option, Some, None, if◌then◌else◌}
use Rattle.mvn_base.specs.FileName.{is_classifier}
use Rattle.mvn_base.specs.Names.{is_group, is_name, is_version}
use Rattle.model_types.specs.declared.model.Model.{Model}
use Rattle.model_json.specs.ModelJson.{model_json}
use Rattle.report.specs.declared.row.FullPart.{FullPart}
use Rattle.classpaths.specs.Classpaths.{artifact_file, classpath}
use Rattle.classpaths.specs.declared.classpath.Kind.{Kind}
use Rattle.classpaths.specs.declared.classpath.Kind.TheVariants.{Compile, Runtime, Test}
use Rattle.classpaths.specs.declared.resolution.Resolution.{Resolution}
use Rattle.classpaths.specs.declared.resolution.Resolved.{Resolved}

-- the names of a dependency are valid, so that it has a file
abbrev pub has_names : Resolved → Bool
has_names w =
    is_group w.gav.group && (is_name w.gav.artifact && (is_version w.gav.version && (is_name w.kind && is_classifier w.classifier)))

-- the file of the dependency at a place, if it has one
abbrev pub file_of : Option Resolved → List (List ℕ)
file_of None = []
file_of (Some w) = if has_names w then artifact_file w ∷ [] else []

-- the files of a classpath, in its order
abbrev pub path_files : Kind → List Resolved → List (List ℕ)
path_files kind winners = flat_map (λ place. file_of (slice_get winners place)) (classpath kind winners)

-- what is told of a module
abbrev pub full_part : Model → Resolution → FullPart
full_part model resolution = record {
  model = model_json model;
  compile = path_files Compile resolution.winners;
  runtime = path_files Runtime resolution.winners;
  test = path_files Test resolution.winners;
}
