use Rattle.std.proofs.Common.{List, length, refl, sym, subst}
use Rattle.goal_types.specs.declared.goal.OwnBytes.{OwnBytes}
use Rattle.crew_modules.specs.Answering.{HasAllAnswered}
use Rattle.crew_modules.proofs.Rounds.{all_asked}
use Rattle.crew_modules.proofs.goals.answer_from.Goals as goal

pub returns-in-None-clause-done : goal.returns-in-None-clause-done
returns-in-None-clause-done g c =
    let t = c.args.task.now in
    let pass = c.answer_each.new.pass in
    subst (λ (own : List OwnBytes). HasAllAnswered t c.args.lock.now own pass) (sym c.take_own.ensures)
    (all_asked t c.args.lock.now c.args.paths.now (length t.unit.goals) c.answer_each.new.request pass c.in-None.ensures.left refl)
