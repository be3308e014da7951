use Rattle.std.proofs.Common.{◌≡◌, IfOk, subst, ◌∙◌}
use Rattle.goal_types.specs.Requests.{request_text}
use Rattle.gates.specs.Asking.{Asked}
use Rattle.gates.proofs.Steps.{asks_of, left_as_before}
use Rattle.gates.proofs.process_gate.ProcessGateGate.call.Goals as goal

pub returns-in-Ok-start-clause-asks : goal.returns-in-Ok-start-clause-asks
returns-in-Ok-start-clause-asks g c =
    let told = g.P.Spawner.told c.args.self.now.spawner in
    let one = g.P.Spawner.told c.start.new.self in
    let two = g.P.Spawner.told c.ask.new.spawner in
    let bytes : c.as_slice.result.now ≡ request_text c.args.request.now = c.as_slice.ensures ∙ c.in-Ok.ensures in
    asks_of told one two c.in-Ok-start.child c.args.request.now c.ask.result c.in-Ok-start.ensures.starts c.in-Ok-start.ensures.place
    (subst (λ b. IfOk c.ask.result (λ said. Asked c.in-Ok-start.child one two b said)) bytes c.ask.ensures.asked) c.ask.ensures.err

pub returns-in-Ok-start-clause-none_left : goal.returns-in-Ok-start-clause-none_left
returns-in-Ok-start-clause-none_left g c =
    left_as_before (g.P.Spawner.children c.args.self.now.spawner) (g.P.Spawner.children c.start.new.self) (g.P.Spawner.children c.ask.new.spawner) c.in-Ok-start.child c.in-Ok-start.ensures.fresh c.in-Ok-start.ensures.there c.ask.ensures.gone
