use Rattle.std.proofs.Common.{◌∙◌, length}
use Rattle.call_plan.specs.Commands.{asked}
use Rattle.mvn_call.proofs.Whole.{said_at, words_two}
use Rattle.mvn_call.proofs.top.mvn.Goals as goal

pub mvn_asked-requires-clause-words : goal.mvn_asked-requires-clause-words
mvn_asked-requires-clause-words g c κs within = words_two c.asked-answer.result c.args.words.now c.len.result c.asked-answer.ensures.says

pub returns-clause-outcome : goal.returns-clause-outcome
returns-clause-outcome g c = (c.mvn_asked.ensures.call (asked c.args.words.now (length c.args.devices.hands.items)) (said_at c.asked-answer.result c.args.words.now c.len.result (length c.args.devices.hands.items) (c.len.ensures ∙ c.args.devices.hands.ok.0) c.asked-answer.ensures.says)).outcome

pub returns-clause-again : goal.returns-clause-again
returns-clause-again g c = (c.mvn_asked.ensures.call (asked c.args.words.now (length c.args.devices.hands.items)) (said_at c.asked-answer.result c.args.words.now c.len.result (length c.args.devices.hands.items) (c.len.ensures ∙ c.args.devices.hands.ok.0) c.asked-answer.ensures.says)).again

pub returns-clause-remains : goal.returns-clause-remains
returns-clause-remains g c = (c.mvn_asked.ensures.call (asked c.args.words.now (length c.args.devices.hands.items)) (said_at c.asked-answer.result c.args.words.now c.len.result (length c.args.devices.hands.items) (c.len.ensures ∙ c.args.devices.hands.ok.0) c.asked-answer.ensures.says)).remains

pub returns-clause-history : goal.returns-clause-history
returns-clause-history g c = (c.mvn_asked.ensures.call (asked c.args.words.now (length c.args.devices.hands.items)) (said_at c.asked-answer.result c.args.words.now c.len.result (length c.args.devices.hands.items) (c.len.ensures ∙ c.args.devices.hands.ok.0) c.asked-answer.ensures.says)).history

pub returns-clause-answers : goal.returns-clause-answers
returns-clause-answers g c = (c.mvn_asked.ensures.call (asked c.args.words.now (length c.args.devices.hands.items)) (said_at c.asked-answer.result c.args.words.now c.len.result (length c.args.devices.hands.items) (c.len.ensures ∙ c.args.devices.hands.ok.0) c.asked-answer.ensures.says)).kept

pub returns-clause-causes : goal.returns-clause-causes
returns-clause-causes g c = (c.mvn_asked.ensures.call (asked c.args.words.now (length c.args.devices.hands.items)) (said_at c.asked-answer.result c.args.words.now c.len.result (length c.args.devices.hands.items) (c.len.ensures ∙ c.args.devices.hands.ok.0) c.asked-answer.ensures.says)).causes

pub returns-clause-refused : goal.returns-clause-refused
returns-clause-refused g c = (c.mvn_asked.ensures.call (asked c.args.words.now (length c.args.devices.hands.items)) (said_at c.asked-answer.result c.args.words.now c.len.result (length c.args.devices.hands.items) (c.len.ensures ∙ c.args.devices.hands.ok.0) c.asked-answer.ensures.says)).refused

pub returns-clause-once : goal.returns-clause-once
returns-clause-once g c = (c.mvn_asked.ensures.call (asked c.args.words.now (length c.args.devices.hands.items)) (said_at c.asked-answer.result c.args.words.now c.len.result (length c.args.devices.hands.items) (c.len.ensures ∙ c.args.devices.hands.ok.0) c.asked-answer.ensures.says)).once

pub returns-clause-whole_files : goal.returns-clause-whole_files
returns-clause-whole_files g c = (c.mvn_asked.ensures.call (asked c.args.words.now (length c.args.devices.hands.items)) (said_at c.asked-answer.result c.args.words.now c.len.result (length c.args.devices.hands.items) (c.len.ensures ∙ c.args.devices.hands.ok.0) c.asked-answer.ensures.says)).whole_files

pub returns-clause-settled : goal.returns-clause-settled
returns-clause-settled g c = (c.mvn_asked.ensures.call (asked c.args.words.now (length c.args.devices.hands.items)) (said_at c.asked-answer.result c.args.words.now c.len.result (length c.args.devices.hands.items) (c.len.ensures ∙ c.args.devices.hands.ok.0) c.asked-answer.ensures.says)).settled

pub returns-clause-areas : goal.returns-clause-areas
returns-clause-areas g c = (c.mvn_asked.ensures.call (asked c.args.words.now (length c.args.devices.hands.items)) (said_at c.asked-answer.result c.args.words.now c.len.result (length c.args.devices.hands.items) (c.len.ensures ∙ c.args.devices.hands.ok.0) c.asked-answer.ensures.says)).areas

pub returns-clause-quiet : goal.returns-clause-quiet
returns-clause-quiet g c = (c.mvn_asked.ensures.call (asked c.args.words.now (length c.args.devices.hands.items)) (said_at c.asked-answer.result c.args.words.now c.len.result (length c.args.devices.hands.items) (c.len.ensures ∙ c.args.devices.hands.ok.0) c.asked-answer.ensures.says)).quiet

pub returns-clause-fault : goal.returns-clause-fault
returns-clause-fault g c = (c.mvn_asked.ensures.call (asked c.args.words.now (length c.args.devices.hands.items)) (said_at c.asked-answer.result c.args.words.now c.len.result (length c.args.devices.hands.items) (c.len.ensures ∙ c.args.devices.hands.ok.0) c.asked-answer.ensures.says)).fault

pub returns-clause-bound : goal.returns-clause-bound
returns-clause-bound g c = (c.mvn_asked.ensures.call (asked c.args.words.now (length c.args.devices.hands.items)) (said_at c.asked-answer.result c.args.words.now c.len.result (length c.args.devices.hands.items) (c.len.ensures ∙ c.args.devices.hands.ok.0) c.asked-answer.ensures.says)).bound

pub returns-clause-tells : goal.returns-clause-tells
returns-clause-tells g c = (c.mvn_asked.ensures.call (asked c.args.words.now (length c.args.devices.hands.items)) (said_at c.asked-answer.result c.args.words.now c.len.result (length c.args.devices.hands.items) (c.len.ensures ∙ c.args.devices.hands.ok.0) c.asked-answer.ensures.says)).tells

pub returns-clause-hands : goal.returns-clause-hands
returns-clause-hands g c = c.mvn_asked.ensures.hands (asked c.args.words.now (length c.args.devices.hands.items)) (said_at c.asked-answer.result c.args.words.now c.len.result (length c.args.devices.hands.items) (c.len.ensures ∙ c.args.devices.hands.ok.0) c.asked-answer.ensures.says)
