-- What goals of a module are asked, one after another. Introduction to the Build Lifecycle.
use Rattle.std.specs.Prelude.{◌≡◌, List}
use Rattle.goal_types.specs.declared.goal.GoalCall.{GoalCall}
use Rattle.goal_types.specs.declared.goal.GoalRequest.{GoalRequest}
use Rattle.goal_types.specs.declared.goal.OwnBytes.{OwnBytes}
use Rattle.goal_types.specs.declared.goal.PathEntry.{PathEntry}
use Rattle.build_core.specs.declared.plan.PlanModule.{PlanModule}

-- a request of the module with these outputs; its call and its classpath may be another goal's
pub record IsRequestOf (m : PlanModule) (outputs : List OwnBytes) (request : GoalRequest) : Type 0 where
  pub unit : request.«module» ≡ m.gav
  pub sources : request.sources ≡ m.sources
  pub own : request.own ≡ outputs

-- the same request for this goal, with this classpath
abbrev pub asked : GoalRequest → GoalCall → List PathEntry → GoalRequest
asked request call paths = record { «module» = request.«module»; call = call; sources = request.sources; own = request.own; classpath = paths }
