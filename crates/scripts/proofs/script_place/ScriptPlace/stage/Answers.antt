use Rattle.std.proofs.Common.{sym, ap, ◌∙◌}
use Rattle.scripts.specs.Scripts.{stage_of}
use Rattle.scripts.proofs.Readings.{stage_is}
use Rattle.scripts.proofs.script_place.ScriptPlace.stage.Goals as goal

pub returns : goal.returns
returns c = c.stage_at.ensures ∙ sym (stage_is c.args.plan.now c.here.result c.here.ensures.placed) ∙ ap stage_of c.here.ensures.here
