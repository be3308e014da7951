-- How many goals a module of a plan has.
use Rattle.std.proofs.Common.{◌≡◌, ℕ, zero, suc, ◌+◌, ◌*◌, ◌≤◌, List, [], ◌∷◌, length, slice_get, Some, is_some, unwrap_or, arith, ap}
use Rattle.std.proofs.lemmas.Bool.{false≢true}
use Rattle.build_core.specs.declared.plan.Plan.{Plan}
use Rattle.build_core.specs.declared.plan.PlanModule.{PlanModule}
use Rattle.scripts.specs.Bounds.{total}
use Rattle.event_core.specs.SoundPlans.{IsSoundPlan, greatest_events}

-- what one item counts is within what all count
one_of_all : {A : Type 0} (f : A → ℕ) (xs : List A) (i : ℕ) (x : A) → slice_get xs i ≡ Some x → f x ≤ total f xs
one_of_all f [] i x is = absurd (false≢true (ap is_some is))
one_of_all f (y ∷ xs) zero x is =
    let same : f y ≡ f x = ap (λ o. f (unwrap_or o y)) is in
    omega (arith, same)
one_of_all f (y ∷ xs) (suc i) x is =
    let rest = one_of_all f xs i x is in
    omega (arith, rest)

-- each goal is an event of its plan
pub few_goals : (plan : Plan) (number : ℕ) (m : PlanModule) → IsSoundPlan plan → slice_get plan.modules number ≡ Some m → length m.goals ≤ plan.events
few_goals plan number m sound at =
    let whole = sound.events in
    let part : 6 + 4 * length m.batch + 2 * length m.fetch + 2 * length m.own + length m.goals ≤ total greatest_events plan.modules = one_of_all greatest_events plan.modules number m at in
    omega (arith, whole, part)
