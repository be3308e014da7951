use Rattle.run_law.proofs.Ending.{bare, own_file}
use Rattle.run_law.proofs.endings.own_entries_change_little.Goals as goal

pub returns : goal.returns
returns c = record {
  bare = λ plan start past e none. bare plan start past e none;
  own_file = λ plan files outputs w number file m what sound at own. own_file plan files outputs w number file m sound at own what;
}
