use Rattle.gates.proofs.Statuses.{spoken_some, spoken_none}
use Rattle.gates.proofs.meaning.spoken.Goals as goal

pub returns-in-Some : goal.returns-in-Some
returns-in-Some c = spoken_some c.args.output.now c.in_ok-answer.field-0 c.in-Some.answer c.in_ok-answer.ensures.text c.in_ok-answer.ensures.no_text c.in-Some.is

pub returns-in-None : goal.returns-in-None
returns-in-None c = spoken_none c.args.output.now c.in_ok-answer.field-0 c.no_answer.result c.in_ok-answer.ensures.text c.in_ok-answer.ensures.no_text c.in-None.is c.no_answer.ensures
