use Rattle.std.proofs.Common.{◌≡◌}
use Rattle.outside_real.proofs.walk.Walk.look_into.Given as goal

-- the walk takes as many files as before
abbrev pub invariant-loop-entry : goal.invariant-loop-entry
invariant-loop-entry g l =
    (goal.iterator-loop-entry g).can_next l.entry-iterator × (goal.iterator-loop-entry g).is_finite l.entry-iterator
    × (l.self.most ≡ l.initial.self.most)
