-- Which modules a selector means. Maven's options `-pl` and `-rf`; Guide to Working with Multiple Modules. That it means all modules that
-- match it, and that a module's POM may be named too, are project rules.
use Rattle.std.specs.Prelude.{ℕ, suc, Bool, false, ◌||◌, List, [], ◌∷◌, ◌++◌, codes, if◌then◌else◌}
use Rattle.std.specs.Str.{bytes_eq}
use Rattle.mvn_base.specs.declared.gav.Gav.{Gav}
use Rattle.mvn_base.specs.declared.refusal.PomId.{PomId}
use Rattle.mvn_base.specs.declared.refusal.PomId.TheVariants as ids
use Rattle.model_types.specs.declared.model.Model.{Model}
use Rattle.mvn_base.specs.Paths.{joined}

-- `group:artifact`, or `:artifact`
abbrev pub is_coordinate : List ℕ → Gav → Bool
is_coordinate text gav = bytes_eq text (gav.group ++ 58 ∷ gav.artifact) || bytes_eq text (58 ∷ gav.artifact)

-- the path of a POM from the root folder on, or its folder's
abbrev pub is_place : List ℕ → PomId → Bool
is_place path (ids.Path pom) = bytes_eq path pom || bytes_eq path (joined pom (codes ".."))
is_place path (ids.Gav gav) = false

unfoldable pub is_meant : List ℕ → Model → Bool
is_meant text m = is_coordinate text m.gav || is_place (joined [] text) m.pom

-- the numbers of the modules that a selector means, counted from one on
abbrev pub meant_from : List ℕ → ℕ → List Model → List ℕ
meant_from text n [] = []
meant_from text n (m ∷ modules) =
    if is_meant text m then n ∷ meant_from text (suc n) modules else meant_from text (suc n) modules

abbrev pub meant : List Model → List ℕ → List ℕ
meant modules text = meant_from text 0 modules
