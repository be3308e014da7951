use Rattle.std.proofs.Common.{◌≡◌, drop, is_some}
use Rattle.std.specs.List.{list_any}
use Rattle.managed_deps.specs.Managed.{find_pair}
use Rattle.mediation.proofs.library.is_managed.Given as goal

abbrev pub invariant-loop-edge : goal.invariant-loop-edge
invariant-loop-edge l = list_any (λ e. is_some (find_pair l.managed e.key)) l.edges ≡ list_any (λ e. is_some (find_pair l.managed e.key)) (drop l.edge-index l.edges)
