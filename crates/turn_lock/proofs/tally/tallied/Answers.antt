use Rattle.std.proofs.Common.{arith, sym, subst}
use Rattle.std.proofs.lemmas.Result.{IfOk-at_ok}
use Rattle.turn_lock.specs.Noted.{AllNoted, noted, notes_of}
use Rattle.turn_lock.specs.Turns.{Begins}
use Rattle.turn_lock.proofs.tally.tallied.Goals as goal

pub returns-clause-noted : goal.returns-clause-noted
returns-clause-noted g c =
    let all = IfOk-at_ok (λ t. AllNoted 0 c.args.workers c.args.task.now.count c.crew-noted.new.pass) c.in_ok-noted.was c.crew-noted.ensures.noted in
    λ k low. subst (λ log. Begins (noted k c.args.task.now.count) (notes_of k log)) (sym c.close-tally.ensures.log) (all k (omega arith) low)
