use Rattle.run_law.proofs.Answering.{answered, answered_once, begun, unanswered}
use Rattle.run_law.proofs.goals.goals_come_in_order.Goals as goal

pub returns : goal.returns
returns c = record {
  unanswered = λ plan past w number m script goal later at left low. unanswered plan past w number m script at goal later left low;
  once = λ plan past run. answered_once plan past run;
  begun = λ plan past w number m script at all. begun plan past w number m script at all;
  answered = λ plan past w number m script goal call answer own at left is good. answered plan past w number m script at goal answer left call own is good;
}
