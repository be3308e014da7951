use Rattle.crew_turns.proofs.Counting.{since, worked_more, worked_none}
use Rattle.crew_turns.proofs.hands.hands_are_counted.Goals as goal

pub returns : goal.returns
returns c = record {
  unused = λ hand. worked_none hand;
  both = λ before now later first more a b. worked_more before now later first more a b;
  since = λ worker before rest. since worker before rest;
}
