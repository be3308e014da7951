-- What a goal is asked is what the definition of the build by one hand says.
use Rattle.std.proofs.Common.{◌≡◌, List, map, ap, ◌∙◌}
use Rattle.mvn_shared.specs.Files.{Files}
use Rattle.goal_types.specs.declared.goal.GoalCall.{GoalCall}
use Rattle.goal_types.specs.declared.goal.GoalRequest.{GoalRequest}
use Rattle.goal_types.specs.declared.goal.OwnBytes.{OwnBytes}
use Rattle.goal_types.specs.declared.goal.PathEntry.{PathEntry}
use Rattle.build_core.specs.OneThread.{path_entry, request}
use Rattle.build_core.specs.declared.plan.Plan.{Plan}
use Rattle.build_core.specs.declared.plan.PlanModule.{PlanModule}
use Rattle.run_law.specs.Gathered.{needed_of}
use Rattle.run_law.proofs.Paths.{needed}
use Rattle.crew_turns.specs.Asking.{IsRequestOf, asked}

-- with all entries gathered, a request of the module becomes the definition's
pub asks : (plan : Plan) (files : Files) (outputs : List (List OwnBytes)) (m : PlanModule) (own : List OwnBytes) (before : GoalRequest) (call : GoalCall) (paths : List PathEntry) → IsRequestOf m own before
    → paths ≡ map (path_entry plan files outputs) m.entries → asked before call (needed_of call.need m.entries paths) ≡ request plan files outputs m call own
asks plan files outputs m own before call paths is all =
    let list = needed_of call.need m.entries paths in
    let one : asked before call list ≡ record { «module» = m.gav; call = call; sources = before.sources; own = before.own; classpath = list } = ap (λ g. record { «module» = g; call = call; sources = before.sources; own = before.own; classpath = list }) is.unit in
    let two : asked before call list ≡ record { «module» = m.gav; call = call; sources = m.sources; own = before.own; classpath = list } = one ∙ ap (λ s. record { «module» = m.gav; call = call; sources = s; own = before.own; classpath = list }) is.sources in
    let three : asked before call list ≡ record { «module» = m.gav; call = call; sources = m.sources; own = own; classpath = list } = two ∙ ap (λ o. record { «module» = m.gav; call = call; sources = m.sources; own = o; classpath = list }) is.own in
    three ∙ ap (λ ps. record { «module» = m.gav; call = call; sources = m.sources; own = own; classpath = ps }) (ap (needed_of call.need m.entries) all ∙ needed plan files outputs call.need m.entries)
