-- A worker between two modules. Project rule.
use Rattle.std.specs.Prelude.{◌≡◌, ℕ, None}
use Rattle.build_core.specs.declared.plan.Plan.{Plan}
use Rattle.event_core.specs.Runs.{module_by}
use Rattle.atomic_table.specs.Seated.{TableId}
use Rattle.crew_turns.specs.Endings.{endings_since}
use Rattle.crew_turns.specs.Hands.{HandState, IsWorked}
use Rattle.crew_turns.specs.Seen.{FitsHand, Follows, IsOf, Told, seen_by}

-- a worker builds no module: its pass is what the one at its start became, its entries fit what its hand told then, and its hand was worked
-- with as its modules ended since
pub record IsBetween (plan : Plan) (lock : TableId) (worker : ℕ) (start pass : Told) (first now : HandState) : Type 0 where
  pub of : IsOf plan lock worker pass
  pub idle : module_by plan (seen_by pass) worker ≡ None
  pub follows : Follows start pass
  pub own : FitsHand plan worker first.told pass
  pub worked : IsWorked first now (endings_since worker (seen_by start) (seen_by pass))
