use Rattle.std.proofs.Common.{◌≡◌, ◌+◌, drop}
use Rattle.versions.specs.Tokens.{zero_count}
use Rattle.versions.proofs.token.zero_count.Given as goal

abbrev pub invariant-loop-at : goal.invariant-loop-at
invariant-loop-at l = zero_count l.digits ≡ l.at + zero_count (drop l.at l.digits)
