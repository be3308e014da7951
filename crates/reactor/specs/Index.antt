-- The index of modules by their artifacts. Own words.
use Rattle.std.specs.Prelude.{◌≡◌, ℕ, Bool, false, List, [], Vec}
use Rattle.std.specs.Prelude.{slice_get}
use Rattle.std.specs.HashMap.{HashMap, get}
use Rattle.std.specs.Option.{option_map_or}
use Rattle.std.specs.Str.{bytes_eq}
use Rattle.mvn_base.specs.declared.gav.Gav.{Gav}
use Rattle.model_types.specs.declared.model.Model.{Model}
use Rattle.reactor.specs.Numbers.{has_artifact, numbers_where}
use Rattle.reactor.specs.declared.index.ModuleIndex.{ModuleIndex}

-- the numbers under an artifact, none where there is no entry
abbrev pub listed : {Z S : Type 0} → HashMap (List ℕ) (Vec ℕ Z) S → List ℕ → List ℕ
listed map artifact = option_map_or (λ list. list.items) (get bytes_eq map artifact) []

-- an index has, under each artifact, the numbers of the modules that have it
unfoldable pub IsIndex : List Model → ModuleIndex → Type 0
IsIndex modules index = (artifact : List ℕ) → listed index.by_artifact artifact ≡ numbers_where (has_artifact artifact) modules

-- the coordinates of the module at a number pass a test
abbrev pub passes_at : List Model → (Gav → Bool) → ℕ → Bool
passes_at modules test n = option_map_or (λ (m : Model). test m.gav) (slice_get modules n) false
