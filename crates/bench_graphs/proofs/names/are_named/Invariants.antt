use Rattle.std.proofs.Common.{take}
use Rattle.std.specs.List.{All}
use Rattle.classpaths.specs.Classpaths.{HasNames}
use Rattle.bench_graphs.proofs.names.are_named.Given as goal

abbrev pub invariant-loop-winner : goal.invariant-loop-winner
invariant-loop-winner l = All HasNames (take l.winner-index l.winners)
