use Rattle.run_law.proofs.Laws.{hand_is_judged, judged_alike, run_is_judged}
use Rattle.run_law.proofs.closed_form.one_closed_form.Goals as goal

pub returns : goal.returns
returns c = record {
  hand = hand_is_judged;
  run = λ g run said fitting complete extends. run_is_judged g run said fitting extends complete;
  states = λ plan supply states others outputs kept sound one two number low. (judged_alike plan supply sound states others outputs kept one two number low).0;
  outputs = λ plan supply states others outputs kept sound one two number low. (judged_alike plan supply sound states others outputs kept one two number low).1;
}
