use Rattle.run_law.proofs.Laws.{again_same}
use Rattle.run_law.proofs.rerun.again_the_same.Goals as goal

pub returns : goal.returns
returns c = λ plan start between remote said sound lies. again_same plan start between remote said sound lies
