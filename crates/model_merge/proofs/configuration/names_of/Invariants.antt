use Rattle.std.proofs.Common.{◌≡◌, ◌||◌, ℕ, List, drop, map}
use Rattle.std.specs.HashSet.{contains}
use Rattle.std.specs.List.{list_any}
use Rattle.std.specs.Str.{bytes_eq}
use Rattle.model_merge.specs.Configuration.{name_of}
use Rattle.model_merge.proofs.configuration.names_of.Given as goal

abbrev pub invariant-loop-setting : goal.invariant-loop-setting
invariant-loop-setting l = (q : List ℕ) → (contains bytes_eq l.names q || list_any (λ n. bytes_eq n q) (map name_of (drop l.setting-index l.settings))) ≡ list_any (λ n. bytes_eq n q) (map name_of l.settings)
