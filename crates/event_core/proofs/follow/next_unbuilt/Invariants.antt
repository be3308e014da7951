use Rattle.event_core.specs.Fronts.{IsBefore, is_unbuilt}
use Rattle.event_core.proofs.follow.next_unbuilt.Given as goal

-- all from the start to this one are built
abbrev pub invariant-loop-at : goal.invariant-loop-at
invariant-loop-at l = IsBefore (is_unbuilt l.progress) l.modules l.from → IsBefore (is_unbuilt l.progress) l.modules l.at
