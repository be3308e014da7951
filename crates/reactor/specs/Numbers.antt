-- Modules by what their coordinates are. Own words.
use Rattle.std.specs.Prelude.{ℕ, suc, Bool, List, [], ◌∷◌, if◌then◌else◌}
use Rattle.std.specs.Str.{bytes_eq}
use Rattle.mvn_base.specs.declared.gav.Gav.{Gav}
use Rattle.model_types.specs.declared.model.Model.{Model}

-- the numbers of the modules whose coordinates pass a test, counted from one on
abbrev pub numbers_from : (Gav → Bool) → ℕ → List Model → List ℕ
numbers_from test n [] = []
numbers_from test n (m ∷ modules) =
    if test m.gav then n ∷ numbers_from test (suc n) modules else numbers_from test (suc n) modules

abbrev pub numbers_where : (Gav → Bool) → List Model → List ℕ
numbers_where test modules = numbers_from test 0 modules

-- a module's artifact is this one
abbrev pub has_artifact : List ℕ → Gav → Bool
has_artifact artifact gav = bytes_eq gav.artifact artifact
