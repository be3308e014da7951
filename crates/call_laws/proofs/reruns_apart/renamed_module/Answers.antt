use Rattle.std.proofs.Common.{refl}
use Rattle.call_laws.proofs.Renamed.{found_behind, nothing_before}
use Rattle.call_laws.proofs.reruns_apart.renamed_module.Goals as goal

pub returns : goal.returns
returns c = record {
  unknown = refl;
  before = λ start none. nothing_before start none;
  installed = λ start files bytes some. found_behind start files bytes some;
}
