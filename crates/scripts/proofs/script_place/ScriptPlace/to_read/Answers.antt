use Rattle.std.proofs.Common.{option_and_then, sym, ap, ◌∙◌}
use Rattle.scripts.specs.Scripts.{head, read_by}
use Rattle.scripts.proofs.Readings.{read_is}
use Rattle.scripts.proofs.script_place.ScriptPlace.to_read.Goals as goal

pub returns : goal.returns
returns c = c.file_at.ensures ∙ sym (read_is c.args.plan.now c.here.result c.here.ensures.placed) ∙ ap (λ s. option_and_then read_by (head s)) c.here.ensures.here
