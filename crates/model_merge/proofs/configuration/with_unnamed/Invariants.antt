use Rattle.std.proofs.Common.{◌≡◌, ◌++◌, ℕ, List, drop}
use Rattle.std.specs.HashSet.{contains}
use Rattle.std.specs.List.{list_any}
use Rattle.std.specs.Str.{bytes_eq}
use Rattle.model_merge.specs.Configuration.{unnamed}
use Rattle.model_merge.proofs.configuration.with_unnamed.Given as goal

abbrev pub invariant-loop-setting : goal.invariant-loop-setting
invariant-loop-setting l = (child : List (List ℕ)) → ((q : List ℕ) → contains bytes_eq l.names q ≡ list_any (λ n. bytes_eq n q) child) → l.list ++ unnamed child (drop l.setting-index l.parent) ≡ l.fn.list ++ unnamed child l.parent
