use Rattle.crew_turns.proofs.Taken.{out}
use Rattle.crew_turns.proofs.turns.taken.Goals as goal

pub returns-clause-out : goal.returns-clause-out
returns-clause-out g c = λ plan w of. out plan c.args.lock.now w c.args.pass.now of c.take-value.result.value g.S.Shelf.told g.S.Shelf.faults c.take-value.ensures.known c.keeps.ensures.run
