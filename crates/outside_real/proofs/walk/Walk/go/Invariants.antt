use Rattle.std.proofs.Common.{◌≡◌}
use Rattle.outside_real.proofs.walk.Walk.go.Given as goal

-- the walk takes as many files as it may from the beginning on
abbrev pub invariant-loop-place : goal.invariant-loop-place
invariant-loop-place g l = l.self.most ≡ l.initial.self.most
