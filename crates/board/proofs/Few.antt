-- How many modules a plan has.
use Rattle.std.proofs.Common.{◌<◌, ◌≤◌, ◌+◌, ◌*◌, ◌^◌, ℕ, List, [], ◌∷◌, length, arith}
use Rattle.build_core.specs.declared.plan.Plan.{Plan}
use Rattle.build_core.specs.declared.plan.PlanModule.{PlanModule}
use Rattle.scripts.specs.Bounds.{total}
use Rattle.event_core.specs.SoundPlans.{IsSoundPlan, greatest_events}

-- each module has events
each_has : (modules : List PlanModule) → length modules ≤ total greatest_events modules
each_has [] = omega arith
each_has (m ∷ modules) =
    let rest : length modules ≤ total greatest_events modules = each_has modules in
    omega (arith, rest)

-- so there are no more of them than events
pub few_modules : (plan : Plan) → IsSoundPlan plan → plan.events < 2 ^ 32 → length plan.modules < 2 ^ 32
few_modules plan sound few =
    let whole : total greatest_events plan.modules ≤ plan.events = sound.events in
    let each : length plan.modules ≤ total greatest_events plan.modules = each_has plan.modules in
    omega (arith, whole, each, few)
