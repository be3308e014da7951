use Rattle.std.proofs.Common.{◌≡◌, false, drop}
use Rattle.std.specs.HashSet.{contains}
use Rattle.std.specs.Str.{bytes_eq}
use Rattle.model_steps.specs.Once.{are_new}
use Rattle.model_steps.proofs.artifacts.are_apart.Given as goal

abbrev pub invariant-loop-item : goal.invariant-loop-item
invariant-loop-item g l = are_new g.T.Keyed.key_of (contains bytes_eq l.names) (drop l.item-index l.items) ≡ are_new g.T.Keyed.key_of (λ name. false) l.items
