use Rattle.run_law.proofs.Fitting.{all, others, own}
use Rattle.run_law.proofs.hands.hands_fit_together.Goals as goal

pub returns : goal.returns
returns c = record {
  others = λ plan start told w past rest fits is. others plan start told w past rest fits is;
  own = λ plan start told w past e fits one. own plan start told w past e fits one;
  all = λ plan start hands run runs bare each. all plan start hands run runs bare each;
}
