use Rattle.std.proofs.Common.{◌-◌, length, None, is_some, Option}
use Rattle.build_core.specs.declared.mode.Mode.TheVariants.{Exclusive}
use Rattle.crew_turns.specs.Hands.{IsFetchedBy, Test, told_by}
use Rattle.crew_turns.specs.Stages.{LacksFile}
use Rattle.crew_turns.specs.Seen.{Follows, IsOf, KeepsFit}
use Rattle.crew_modules.proofs.fetching.fetch_from.Given as goal

-- each file before the place is there now, and the one at it is to be fetched
abbrev pub invariant-loop-at : goal.invariant-loop-at
invariant-loop-at g l = record {
  of : IsOf l.fn.task.plan l.fn.lock l.fn.task.worker l.pass;
  follows : Follows l.fn.pass l.pass;
  lacks : LacksFile l.fn.task Exclusive l.at l.pass;
  fits : (gate : Option Test) → KeepsFit l.fn.task.plan l.fn.task.worker (told_by (g.R.Remote.files l.fn.remote) (is_some (g.S.Area.Area.contents l.fn.area)) gate) l.fn.pass l.pass;
  devices : IsFetchedBy g.R.Remote.files g.R.Remote.faults g.S.Area.Area.contents g.S.Area.Area.faults g.S.Area.Area.pieces l.fn.remote l.remote l.fn.area l.area None;
}

abbrev pub decreases-loop-at : goal.decreases-loop-at
decreases-loop-at g l = length l.fn.task.unit.fetch - l.at
