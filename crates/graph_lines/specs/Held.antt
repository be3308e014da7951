-- What libraries in memory hold and tell.
use Rattle.std.specs.Prelude.{◌≡◌, ℕ, List, [], ◌∷◌, ◌++◌, length, nat_lt, Option, None, Some, if◌then◌else◌}
use Rattle.std.specs.HashMap.{get}
use Rattle.std.specs.Str.{bytes_eq}
use Rattle.mvn_base.specs.Gav.{gav_eq}
use Rattle.mvn_base.specs.declared.gav.Gav.{Gav}
use Rattle.model_types.specs.declared.model.Model.{Model}
use Rattle.mediation.specs.Libraries.{Libraries}
use Rattle.mediation.specs.declared.known.Known.{Known}
use Rattle.mediation.specs.declared.known.Known.TheVariants as known
use Rattle.graph_lines.specs.declared.libraries.MemLibraries.{MemLibraries}
use Rattle.mvn_base.specs.Limits.{most_versions}

-- the model of a coordinate's POM, and the versions under a name
abbrev pub models_in : MemLibraries → Gav → Option Model
models_in held gav = get gav_eq held.models gav

abbrev pub versions_in : MemLibraries → List ℕ → Option (List (List ℕ))
versions_in held name = get bytes_eq held.versions name

-- one more, in place of another
abbrev pub with_model : (Gav → Option Model) → Gav → Model → Gav → Option Model
with_model models gav model other = if gav_eq gav other then Some model else models other

abbrev pub with_versions : (List ℕ → Option (List (List ℕ))) → List ℕ → List (List ℕ) → List ℕ → Option (List (List ℕ))
with_versions versions name list other = if bytes_eq name other then Some list else versions other

-- what is known of a coordinate's POM
abbrev pub known_of : Option Model → Known
known_of None = known.Missing
known_of (Some m) = known.Model m

-- an artifact's versions, unless there are more than 4,096
abbrev pub short : List (List ℕ) → Option (List (List ℕ))
short list = if nat_lt most_versions (length list) then None else Some list

abbrev pub told_of : Option (List (List ℕ)) → Option (List (List ℕ))
told_of None = Some []
told_of (Some list) = short list

-- the libraries with these POMs and these versions, which stand under `group:artifact`, and no others
pub record Fits (models : Gav → Option Model) (versions : List ℕ → Option (List (List ℕ))) (libraries : Libraries) : Type 0 where
  pub at : (gav : Gav) → libraries.at gav ≡ known_of (models gav)
  pub versions_of : (group artifact : List ℕ) → libraries.versions group artifact ≡ told_of (versions (group ++ 58 ∷ artifact))
