-- A call once more, over other files of the repository. Project rule.
use Rattle.std.specs.Prelude.{Result, Ok, Err}
use Rattle.mvn_shared.specs.Files.{Files}
use Rattle.build_core.specs.declared.plan.Plan.{Plan}
use Rattle.build_outcome.specs.declared.outcome.Outcome.{Outcome}
use Rattle.module_plan.specs.Plans.{present_in}
use Rattle.module_plan.specs.declared.selected.Planned.{Planned}
use Rattle.call_plan.specs.Headline.{World}

-- the plan, but that it says of each of its files whether these files have it
abbrev pub plan_over : Files → Plan → Plan
plan_over files plan = record plan { present = present_in files plan.files }

abbrev pub planned_over : Files → Planned → Planned
planned_over files p = record p { plan = plan_over files p.plan }

-- what was found, over other files: the plan over them, or what is answered in its place
abbrev pub found_over : Files → Result Planned Outcome → Result Planned Outcome
found_over files (Ok p) = Ok (planned_over files p)
found_over files (Err answer) = Err answer

-- the world, but that the repository has these files at the start
abbrev pub world_over : Files → World → World
world_over files world = record world { start = files }
