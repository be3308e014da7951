use Rattle.std.specs.Prelude.{◌≤◌, length}
use Rattle.crew_turns.specs.Paths.{IsGathered}
use Rattle.crew_modules.specs.Had.{GoesOn}
use Rattle.crew_modules.proofs.gathering.gather_each.Given as goal

-- the entries so far are gathered
abbrev pub invariant-loop-at : goal.invariant-loop-at
invariant-loop-at g l = record {
  low : l.at ≤ length l.task.unit.entries;
  goes : GoesOn l.task l.lock l.fn.pass l.pass;
  gathered : IsGathered l.task l.at l.gathered l.pass;
}
