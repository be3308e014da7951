use Rattle.call_laws.proofs.Growing.{grown}
use Rattle.call_laws.proofs.additions.builds_add.Goals as goal

pub returns : goal.returns
returns c = λ tree start remote files given line p said few planned lies. grown tree start remote files given line p said few planned lies
