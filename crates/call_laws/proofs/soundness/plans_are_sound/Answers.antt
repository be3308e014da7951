use Rattle.call_laws.proofs.Planned.{asked_workers, sound}
use Rattle.call_laws.proofs.soundness.plans_are_sound.Goals as goal

pub returns : goal.returns
returns c = record {
  sound = λ tree start remote given line p few planned. sound tree start remote given line p few planned;
  workers = λ words hands line some most is. asked_workers words hands line some most is;
}
