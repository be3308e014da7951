use Rattle.run_law.proofs.Ending.{ends, installable, within}
use Rattle.run_law.proofs.Leaving.{left_all}
use Rattle.run_law.proofs.endings.endings_stay.Goals as goal

pub returns : goal.returns
returns c = record {
  left = λ plan past w number m file run off at. left_all plan past w number m file run off at;
  within = λ plan start past rest w number m sound run whose at all is. within plan past rest w number m sound run whose at all start is;
  installable = λ plan start past rest w number m sound run others whose at all is. installable plan past rest w number m sound run whose at all others start is;
  ends = λ plan start past rest told w number m e sound run others whose at all is. ends plan past rest w number m sound run whose at all others start told e is;
}
