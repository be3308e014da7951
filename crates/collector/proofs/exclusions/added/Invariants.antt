use Rattle.std.proofs.Common.{◌++◌, take}
use Rattle.collector.specs.Chains.{ExcludeSame}
use Rattle.collector.proofs.exclusions.added.Given as goal

abbrev pub invariant-loop-one : goal.invariant-loop-one
invariant-loop-one l = ExcludeSame l.all (l.set ++ take l.one-index l.more)
