-- What is said of the file that was found at a path is said of the POM there.
use Rattle.std.proofs.Common.{◌≡◌, ℕ, List, Option, Result, subst}
use Rattle.mvn_base.specs.declared.refusal.PomId.TheVariants as ids
use Rattle.model_types.specs.declared.model.RawModel.{RawModel}
use Rattle.pom_source.specs.Answers.{Built, Says}
use Rattle.pom_source.specs.Worlds.{World}
use Rattle.pom_source.specs.declared.fault.BuildFault.{BuildFault}
use Rattle.lineage.specs.Beside.{read_at}
use Rattle.lineage.specs.Reading.{read_file}

-- an answer of what the file says
pub says_found : (world : World) (path : List ℕ) (found : Option (List ℕ)) (result : Result (Option RawModel) BuildFault)
    → found ≡ world.by_path path → Says (read_file (ids.Path path) found) result → Says (read_at world path) result
says_found world path found result there says = subst (λ o. Says (read_file (ids.Path path) o) result) there says

-- what was read of it
pub reads_found : (world : World) (path : List ℕ) (found : Option (List ℕ)) (said : Built (Option RawModel))
    → found ≡ world.by_path path → read_file (ids.Path path) found ≡ said → read_at world path ≡ said
reads_found world path found said there is = subst (λ o. read_file (ids.Path path) o ≡ said) there is
