use Rattle.pom_text.proofs.Answered.{answered, elements_answered, refused_answered}
use Rattle.pom_text.proofs.read.read_text.Goals as goal

pub returns : goal.returns
returns c = record {
  answer = c.before.read_bytes.ensures;
  right = answered c.args.bytes.now c.before.read_bytes.result c.before.read_bytes.ensures;
  elements = elements_answered c.args.bytes.now c.before.read_bytes.result c.before.read_bytes.ensures;
  refusal = refused_answered c.args.bytes.now c.before.read_bytes.result c.before.read_bytes.ensures;
}
