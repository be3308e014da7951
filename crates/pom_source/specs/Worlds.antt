-- What can be looked up while a model is built. Maven Model Builder, "Model building".
use Rattle.std.specs.Prelude.{ℕ, Bool, List, Option}
use Rattle.mvn_base.specs.declared.gav.Gav.{Gav}
use Rattle.pom_source.specs.declared.found.Found.{Found}

-- the POMs by path and by coordinates, and whether a file, or a folder with files, is at a path
pub record World : Type 0 where
  pub by_path : List ℕ → Option (List ℕ)
  pub by_gav : Gav → Option Found
  pub there : List ℕ → Bool
