use Rattle.std.proofs.Common.{◌≡◌, ◌++◌, length, map, drop}
use Rattle.event_core.proofs.modules.lengths.Given as goal

abbrev pub invariant-loop-at : goal.invariant-loop-at
invariant-loop-at l = l.lengths.items ++ map length (drop l.at l.upstream) ≡ map length l.upstream
