-- Where a worker is in its module, behind a run. Project rule.
use Rattle.std.specs.Prelude.{◌≡◌, ℕ, List, Option, Some, slice_get}
use Rattle.build_core.specs.declared.plan.Plan.{Plan}
use Rattle.build_core.specs.declared.plan.PlanModule.{PlanModule}
use Rattle.event_core.specs.declared.entry.RunEntry.{RunEntry}
use Rattle.event_core.specs.Runs.{IsRunOf, standing_of_run}
use Rattle.scripts.specs.Scripts.{Script}
use Rattle.event_core.specs.Standing.{course_of, on_course}

-- behind this run the worker builds this module of the plan, and has this left of its script
pub record IsPlacedAt (plan : Plan) (past : List RunEntry) (w number : ℕ) (m : PlanModule) (script : Script) : Type 0 where
  pub run : IsRunOf plan past
  pub unit : slice_get plan.modules number ≡ Some m
  pub last : Option ℕ
  pub course : course_of (standing_of_run plan past) w ≡ on_course number script last
