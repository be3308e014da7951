-- What holds of the passes of a crew before and after the work. Project rule.
use Rattle.std.specs.Prelude.{◌≡◌, ℕ, ◌+◌, ◌<◌, ◌≤◌, ◌^◌, List, [], Option, Some, option_map}
use Rattle.mvn_shared.specs.Files.{Files}
use Rattle.mvn_outside.specs.Shelf.{files_now}
use Rattle.mvn_outside.specs.declared.shelf.ShelfTold.{ShelfTold}
use Rattle.build_core.specs.declared.plan.Plan.{Plan}
use Rattle.event_core.specs.Runs.{IsComplete, IsRunOf}
use Rattle.event_core.specs.SoundPlans.{IsSoundPlan}
use Rattle.event_core.specs.declared.entry.RunEntry.{RunEntry}
use Rattle.atomic_table.specs.Seated.{TableId}
use Rattle.turn_lock.specs.Resting.{IsAtRest}
use Rattle.turn_lock.specs.Turns.{Begins, entries_of}
use Rattle.board.specs.Logs.{role}
use Rattle.board.specs.declared.kept.Opened.{Opened}
use Rattle.run_law.specs.Hands.{OwnFit}
use Rattle.crew_turns.specs.Hands.{HandState, IsWorked}
use Rattle.crew_turns.specs.Endings.{endings_of}
use Rattle.crew_turns.specs.Seen.{Told, seen_by, view}

abbrev pub start_of : Opened → Option Files
start_of opened = option_map files_now opened.told

-- a board that was opened over a plan and a repository, by what repositories tell and their counts
abbrev pub opened_by : {S : Type 0} → (S → Option ShelfTold) → (S → ℕ) → Plan → S → Opened
opened_by told faults plan shelf = record { plan = plan; told = told shelf; faults = faults shelf }

-- a pass is of a board that was opened so, over a sound plan of fewer than 2^32 events, and what it has seen is a run
pub record IsOver (opened : Opened) (pass : Told) : Type 0 where
  pub fixed : (view pass).fixed ≡ Some opened
  pub sound : IsSoundPlan opened.plan
  pub few : opened.plan.events < 2 ^ 32
  pub run : IsRunOf opened.plan (seen_by pass)

-- before the work: the pass is at rest and acts for so many workers from a first one on, of which none has an entry yet
pub record IsReady (opened : Opened) (lock : TableId) (first count : ℕ) (pass : Told) : Type 0 where
  pub rest : IsAtRest lock first (first + count) count opened.plan.workers pass
  pub over : IsOver opened pass
  pub fresh : (k : ℕ) → first ≤ k → k < first + count → entries_of role k (seen_by pass) ≡ []

-- when the work is done: it is at rest, has the weight of all its workers again, and has seen a complete run
pub record IsDone (opened : Opened) (lock : TableId) (first count : ℕ) (pass : Told) : Type 0 where
  pub rest : IsAtRest lock first (first + 1) count opened.plan.workers pass
  pub over : IsOver opened pass
  pub complete : IsComplete opened.plan (seen_by pass)

-- what a log says of a worker that is done: it begins with a complete run in which each entry of the worker fits what its hand told, and its
-- hand was worked with as its modules ended there
pub record HasLeft (opened : Opened) (worker : ℕ) (before now : HandState) (log : List RunEntry) : Type 0 where
  pub run : List RunEntry
  pub begins : Begins run log
  pub complete : IsComplete opened.plan run
  pub fits : OwnFit opened.plan (start_of opened) before.told worker [] run
  pub worked : IsWorked before now (endings_of worker run)
