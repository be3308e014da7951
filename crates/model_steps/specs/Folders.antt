-- A joined model with its expressions replaced, and its folders as paths of the system. POM Reference, "Properties" and "Directories"; which
-- folders stay as they are is a project rule.
use Rattle.std.specs.Prelude.{ℕ, Bool, false, ◌||◌, ◌==◌, List, [], ◌∷◌, ◌++◌, map, codes, Option, None, Some, Ok, option_map, if◌then◌else◌}
use Rattle.std.specs.Option.{is_some}
use Rattle.std.specs.Str.{bytes_eq}
use Rattle.mvn_base.specs.declared.machine.Machine.{Machine}
use Rattle.mvn_base.specs.declared.refusal.PomId.{PomId}
use Rattle.mvn_base.specs.declared.refusal.PomId.TheVariants as ids
use Rattle.model_types.specs.declared.build.Build.{Build}
use Rattle.model_types.specs.declared.build.Outputs.{Outputs}
use Rattle.model_types.specs.declared.build.Sources.{Sources}
use Rattle.model_types.specs.declared.model.RawModel.{RawModel}
use Rattle.interpolation.specs.Filling.{fill}
use Rattle.mvn_base.specs.Paths.{joined}
use Rattle.profiles.specs.Activation.{folder_of}
use Rattle.profiles.specs.FileTexts.{basedir_of}
use Rattle.profiles.specs.Lookups.{behind}
use Rattle.pom_source.specs.Answers.{Built, refused, ◌>>=◌}
use Rattle.pom_source.specs.declared.found.Given.{Given}

-- the folder of a POM as a path of the system; a POM that was read by coordinates has none
abbrev pub basedir_in : Machine → PomId → Option (List ℕ)
basedir_in machine (ids.Path pom) = Some (basedir_of machine.root (folder_of pom))
basedir_in machine (ids.Gav gav) = None

-- a path that begins with `/`
abbrev pub is_absolute : List ℕ → Bool
is_absolute [] = false
is_absolute (b ∷ path) = b == 47

-- a folder that stays as it is: an absolute one, the basedir, and one that is written below it
abbrev pub stays : List ℕ → List ℕ → Bool
stays basedir folder = is_absolute folder || bytes_eq folder basedir || is_some (behind (basedir ++ codes "/") folder)

-- a relative folder, followed from the basedir on, with `.` and `..`
abbrev pub from_basedir : List ℕ → List ℕ → List ℕ
from_basedir basedir folder =
    if is_absolute basedir then 47 ∷ joined basedir folder else basedir ++ 47 ∷ joined [] folder

-- a folder as a path of the system
unfoldable pub placed : List ℕ → List ℕ → List ℕ
placed basedir folder = if stays basedir folder then folder else from_basedir basedir folder

abbrev pub placed_outputs : List ℕ → Outputs → Outputs
placed_outputs basedir o = record {
  directory = option_map (placed basedir) o.directory;
  output = option_map (placed basedir) o.output;
  test_output = option_map (placed basedir) o.test_output;
  final_name = o.final_name;
}

abbrev pub placed_sources : List ℕ → Sources → Sources
placed_sources basedir s = record {
  source = option_map (placed basedir) s.source;
  test_source = option_map (placed basedir) s.test_source;
  resources = map (placed basedir) s.resources;
  test_resources = map (placed basedir) s.test_resources;
}

abbrev pub placed_build : List ℕ → Build → Build
placed_build basedir b = record {
  outputs = placed_outputs basedir b.outputs;
  sources = placed_sources basedir b.sources;
  base = b.base;
  extensions = b.extensions;
}

-- a model with its folders placed, if it has a basedir
abbrev pub placed_in : Option (List ℕ) → RawModel → RawModel
placed_in None raw = raw
placed_in (Some basedir) raw = record {
  pom = raw.pom;
  parent = raw.parent;
  coordinates = raw.coordinates;
  base = raw.base;
  build = placed_build basedir raw.build;
  profiles = raw.profiles;
}

-- a model with its texts filled, and then its folders placed
abbrev pub filled_in : Given → Option (List ℕ) → RawModel → Built RawModel
filled_in given basedir raw =
    refused (fill raw basedir given.machine given.defines) >>= (λ full. Ok (placed_in basedir full))

-- the same, with the basedir of its POM
unfoldable pub filled : Given → RawModel → Built RawModel
filled given raw = filled_in given (basedir_in given.machine raw.pom) raw
