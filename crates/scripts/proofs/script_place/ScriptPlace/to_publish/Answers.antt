use Rattle.std.proofs.Common.{option_and_then, sym, ap, ◌∙◌}
use Rattle.scripts.specs.Scripts.{head, published_by}
use Rattle.scripts.proofs.Readings.{published_is}
use Rattle.scripts.proofs.script_place.ScriptPlace.to_publish.Goals as goal

pub returns : goal.returns
returns c = c.published_at.ensures ∙ sym (published_is c.args.plan.now c.here.result c.here.ensures.placed) ∙ ap (λ s. option_and_then published_by (head s)) c.here.ensures.here
