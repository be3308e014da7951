use Rattle.pom_text.proofs.Answered.{apart, refusal_exactly, text_exactly, elements_once, place_once, rule_once}
use Rattle.pom_text.proofs.law.one_reading.Goals as goal

pub returns : goal.returns
returns c = record { text = text_exactly; refusal = refusal_exactly; elements = elements_once; rule = rule_once; place = place_once; apart = apart }
