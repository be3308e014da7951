-- Where a worker stands while it builds a module. Project rule.
use Rattle.std.specs.Prelude.{◌≡◌, ℕ, true, List, [], slice_get, Option, Some, None}
use Rattle.build_core.specs.declared.plan.Plan.{Plan}
use Rattle.build_core.specs.declared.plan.PlanModule.{PlanModule}
use Rattle.scripts.specs.Outlines.{module_outline, outline_of}
use Rattle.scripts.specs.Scripts.{Script, script_of, settled}
use Rattle.event_core.specs.Standing.{on_course}
use Rattle.event_core.specs.Worlds.{Stood, stood}
use Rattle.scripts.specs.declared.outline.ModuleOutline.{ModuleOutline}
use Rattle.scripts.specs.declared.outline.Outline.{Outline}
use Rattle.crew_turns.specs.Seen.{Told, course_by, names_by, seen_by, start_by, there_by}

-- a worker's module, of a plan
pub record ModuleTask : Type 0 where
  pub plan : Plan
  pub unit : PlanModule
  pub number : ℕ
  pub worker : ℕ

abbrev pub IsTask : ModuleTask → Type 0
IsTask t = slice_get t.plan.modules t.number ≡ Some t.unit

abbrev pub plan_outline : ModuleTask → Outline
plan_outline t = outline_of t.plan

-- the module as the run stands that a pass has seen
abbrev pub stood_by : ModuleTask → Told → Stood
stood_by t pass = stood t.plan (start_by pass) (seen_by pass) t.number t.unit

abbrev pub unit_outline : ModuleTask → ModuleOutline
unit_outline t = module_outline t.unit

-- ---- places

-- the worker has this left to do, holds these names, and its last event was this answer, if it was one
pub record StandsAt (t : ModuleTask) (script : Script) (last : Option ℕ) (names : List ℕ) (pass : Told) : Type 0 where
  pub course : course_by t.plan t.worker pass ≡ on_course t.number script last
  pub held : names_by t.plan t.worker pass ≡ names

-- directly behind its start
abbrev pub HasBegun : ModuleTask → Told → Type 0
HasBegun t pass = StandsAt t (settled (there_by t.plan pass) true (script_of (unit_outline t))) None [] pass
