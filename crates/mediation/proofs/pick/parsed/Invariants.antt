use Rattle.std.proofs.Common.{◌≡◌, ◌++◌, drop}
use Rattle.mediation.proofs.pick.parsed.Given as goal

abbrev pub invariant-loop-text : goal.invariant-loop-text
invariant-loop-text l = l.versions.items ++ drop l.text-index l.texts ≡ l.texts
