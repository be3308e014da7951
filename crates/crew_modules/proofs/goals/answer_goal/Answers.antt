use Rattle.std.proofs.Common.{◌≡◌, ◌<◌, List, length, slice_get, Some, refl, sym, ap, subst, ◌∙◌}
use Rattle.std.proofs.lemmas.Option.{slice_get_read}
use Rattle.mvn_shared.specs.Cause.{HasCause}
use Rattle.goal_types.specs.declared.goal.GoalCall.{GoalCall}
use Rattle.run_law.specs.Gathered.{needed_of}
use Rattle.crew_turns.specs.Hands.{told_by}
use Rattle.crew_turns.specs.Tasks.{IsTask}
use Rattle.crew_modules.proofs.Rounds.{answer_fits, gate_held, goes, left_of, told_so}
use Rattle.crew_modules.proofs.goals.answer_goal.Goals as goal

pub returns-clause-left : goal.returns-clause-left
returns-clause-left g c =
    let t = c.args.task.now in
    let goals = c.as_slice.result.now in
    let same : goals ≡ t.unit.goals = c.as_slice.ensures ∙ ap (λ v. v.unit.goals) c.task.view_is in
    let low = subst (λ (gs : List GoalCall). c.args.goal < length gs) (sym same) c.requires.some_goal in
    let call = c.index-as_slice-goal.result in
    let at = subst (λ (gs : List GoalCall). slice_get gs c.args.goal ≡ Some call) same (slice_get_read goals (length goals) c.args.goal call refl low c.index-as_slice-goal.is) in
    let took = c.take_answer.ensures in
    left_of t c.args.lock.now c.args.paths.now c.args.goal c.args.request.now c.args.pass.now (subst IsTask c.task.view_is c.task.invariant) c.requires.some_goal c.requires.stands c.take_answer.new.pass took.step
    c.ask_gate.new.request c.take_answer.new.own call c.in-Ok.answer (needed_of call.need c.task.inside.unit.now.entries c.args.paths.now) c.take_answer.result
    at took.goals c.in-Ok.ensures.asked took.settles

-- none of it is a fault of the gate
pub returns-clause-cause : goal.returns-clause-cause
returns-clause-cause g c =
    let t = c.args.task.now in
    let goals = c.as_slice.result.now in
    let same : goals ≡ t.unit.goals = c.as_slice.ensures ∙ ap (λ v. v.unit.goals) c.task.view_is in
    let low = subst (λ (gs : List GoalCall). c.args.goal < length gs) (sym same) c.requires.some_goal in
    let call = c.index-as_slice-goal.result in
    let at = subst (λ (gs : List GoalCall). slice_get gs c.args.goal ≡ Some call) same (slice_get_read goals (length goals) c.args.goal call refl low c.index-as_slice-goal.is) in
    let took = c.take_answer.ensures in
    let held = gate_held t c.args.lock.now c.args.paths.now c.args.goal c.args.request.now c.args.pass.now (subst IsTask c.task.view_is c.task.invariant) c.requires.some_goal c.requires.stands c.take_answer.new.pass took.step
    c.ask_gate.new.request c.take_answer.new.own call c.in-Ok.answer (needed_of call.need c.task.inside.unit.now.entries c.args.paths.now) c.take_answer.result
    at took.goals c.in-Ok.ensures.asked took.settles in
    subst (HasCause (g.G.Gate.faults c.args.gate.now) (g.G.Gate.faults c.ask_gate.new.gate)) (sym held) c.in-Ok.ensures.cause

pub returns-clause-way : goal.returns-clause-way
returns-clause-way g c =
    let t = c.args.task.now in
    let goals = c.as_slice.result.now in
    let same : goals ≡ t.unit.goals = c.as_slice.ensures ∙ ap (λ v. v.unit.goals) c.task.view_is in
    let low = subst (λ (gs : List GoalCall). c.args.goal < length gs) (sym same) c.requires.some_goal in
    let call = c.index-as_slice-goal.result in
    let at = subst (λ (gs : List GoalCall). slice_get gs c.args.goal ≡ Some call) same (slice_get_read goals (length goals) c.args.goal call refl low c.index-as_slice-goal.is) in
    let is = subst IsTask c.task.view_is c.task.invariant in
    let gate = g.G.Gate.answers c.args.gate.now in
    let answer = c.in-Ok.answer in
    let told = told_so t c.args.lock.now c.args.paths.now c.args.goal c.args.request.now c.args.pass.now is c.requires.some_goal c.requires.stands gate c.ask_gate.new.request c.task.inside.unit.now call answer (ap (λ v. v.unit) c.task.view_is) c.in-Ok.ensures.asked c.in-Ok.ensures.answer in
    goes t c.args.lock.now c.args.paths.now c.args.goal c.args.request.now c.args.pass.now is c.requires.some_goal c.requires.stands c.take_answer.new.pass c.take_answer.ensures.step gate
    (λ remote area. c.take_answer.ensures.fits (told_by remote area gate)
    (answer_fits t c.args.lock.now c.args.paths.now c.args.goal c.args.request.now c.args.pass.now is c.requires.some_goal c.requires.stands remote area gate call answer at told))
