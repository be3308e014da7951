use Rattle.std.proofs.Common.{◌≡◌, [], replicate}
use Rattle.event_core.proofs.progress_edges.no_edges.Given as goal

abbrev pub invariant-loop-module : goal.invariant-loop-module
invariant-loop-module l = l.edges.items ≡ replicate l._module []
