-- The sources of the modules that are built. POM Reference, "Directories" and "Resources"; the refusal is a project rule.
use Rattle.std.specs.Prelude.{ℕ, List, codes, map, Option, Some, None, Ok, Err}
use Rattle.mvn_shared.specs.Files.{Files}
use Rattle.mvn_base.specs.declared.refusal.PomId.{PomId}
use Rattle.mvn_base.specs.declared.refusal.PomId.TheVariants as ids
use Rattle.mvn_base.specs.declared.rule.Rule.TheVariants.{TooLarge}
use Rattle.goal_types.specs.declared.goal.SourceFile.{SourceFile}
use Rattle.model_types.specs.declared.model.Model.{Model}
use Rattle.pom_source.specs.Answers.{Built}
use Rattle.pom_source.specs.Refusals.{text_refused}
use Rattle.sources.specs.Sources.{sources_of_all}
use Rattle.sources.specs.Folders.{source_folders}

-- of each module the folders that its sources are in
abbrev pub folders_of : (root : List ℕ) → List Model → List (List (List ℕ))
folders_of root models = map (source_folders root) models

-- too many are refused, with the project's POM
abbrev pub allowed : Option (List (List SourceFile)) → Built (List (List SourceFile))
allowed None = Err (text_refused (ids.Path (codes "pom.xml")) TooLarge (codes "sources"))
allowed (Some sources) = Ok sources

-- of each module the files below its folders
unfoldable pub module_sources : Files → (root : List ℕ) → List Model → Built (List (List SourceFile))
module_sources files root models = allowed (sources_of_all files (folders_of root models))
