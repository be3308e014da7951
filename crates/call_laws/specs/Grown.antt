-- What a build adds to a repository. Maven's repository layout; project rule.
use Rattle.std.specs.Prelude.{◌≡◌, ℕ, true, List, Contains, map, Option, None, is_some}
use Rattle.mvn_shared.specs.Files.{Files, file_at}
use Rattle.mvn_base.specs.declared.gav.Gav.{Gav}
use Rattle.mvn_base.specs.Apart.{IsFileOf}
use Rattle.model_types.specs.declared.model.Model.{Model}
use Rattle.module_plan.specs.declared.selected.Planned.{Planned}

-- the coordinates of the modules that are built
abbrev pub gavs_of : Planned → List Gav
gavs_of p = map (λ (m : Model). m.gav) p.models

-- What a name may hold once modules of some coordinates are being built, or were: what it held at the start; where it held nothing, the bytes
-- that the remote repository has; or, if the name is that of a file of such a module, some bytes.
pub data MayHold (start remote : Files) (built : List Gav) (name : List ℕ) (value : Option (List ℕ)) : Type 0 where
  as_before : value ≡ file_at start name → MayHold start remote built name value
  fetched : file_at start name ≡ None → value ≡ file_at remote name → MayHold start remote built name value
  installed : (gav : Gav) → Contains built gav → IsFileOf gav name → is_some value ≡ true → MayHold start remote built name value

-- so of each name of some files
abbrev pub IsGrown : (start remote : Files) → List Gav → Files → Type 0
IsGrown start remote built files = (name : List ℕ) → MayHold start remote built name (file_at files name)
