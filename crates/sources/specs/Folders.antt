-- The folders that a model's sources are in, from the project's root on. POM Reference, "Directories" and "Resources".
use Rattle.std.specs.Prelude.{ℕ, Bool, ◌||◌, List, [], ◌++◌, codes, Option, None, Some, is_some, filter_map, option_to_list, if◌then◌else◌}
use Rattle.std.specs.Str.{bytes_eq}
use Rattle.model_types.specs.declared.build.Sources.{Sources}
use Rattle.model_types.specs.declared.model.Model.{Model}
use Rattle.profiles.specs.FileTexts.{path_of}
use Rattle.profiles.specs.Lookups.{behind}

-- as the model says them: those of the main sources, then those of the tests
abbrev pub stated_folders : Sources → List (List ℕ)
stated_folders s = option_to_list s.source ++ s.resources ++ option_to_list s.test_source ++ s.test_resources

-- a path that leads out of the project
abbrev pub leads_out : List ℕ → Bool
leads_out path = bytes_eq path (codes "..") || is_some (behind (codes "../") path)

abbrev pub inside : Option (List ℕ) → Option (List ℕ)
inside None = None
inside (Some path) = if leads_out path then None else Some path

-- a folder from the root on, if it is in the project
abbrev pub folder_in : (root : List ℕ) → List ℕ → Option (List ℕ)
folder_in root folder = inside (path_of root [] folder)

-- those of a model; one outside of the project is left out
unfoldable pub source_folders : (root : List ℕ) → Model → List (List ℕ)
source_folders root m = filter_map (folder_in root) (stated_folders m.build.sources)
