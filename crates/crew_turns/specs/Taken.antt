-- What a worker knows of the board while it has the turn. Project rule.
use Rattle.std.specs.Prelude.{◌≡◌, ℕ, ◌<◌, Option}
use Rattle.mvn_outside.specs.declared.shelf.ShelfTold.{ShelfTold}
use Rattle.build_core.specs.declared.plan.Plan.{Plan}
use Rattle.event_core.specs.Runs.{IsRunOf}
use Rattle.board.specs.Builds.{Build}
use Rattle.board.specs.declared.kept.Opened.{Opened}
use Rattle.crew_turns.specs.Came.{HasCome}
use Rattle.crew_turns.specs.Seen.{Told}

-- what no turn changes of a board, by what its repository told at first and how often it had failed
abbrev pub opened_of : {S : Type 0} → (S → Option ShelfTold) → (S → ℕ) → Build S → Opened
opened_of told faults b = record { plan = b.plan; told = told b.opening; faults = faults b.opening }

-- a board of this plan: others' entries came since the worker's pass looked last, and the worker is one of the plan's
pub record IsOut {S : Type 0} (plan : Plan) (w : ℕ) (before : Told) (b : Build S) : Type 0 where
  pub plan_is : b.plan ≡ plan
  pub run : IsRunOf plan b.log
  pub came : HasCome w before b.log
  pub low : w < plan.workers
