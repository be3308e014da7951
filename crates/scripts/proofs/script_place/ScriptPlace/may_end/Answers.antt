use Rattle.std.proofs.Common.{sym, ap, ◌∙◌}
use Rattle.scripts.specs.Scripts.{may_end}
use Rattle.scripts.proofs.Readings.{may_end_is}
use Rattle.scripts.proofs.script_place.ScriptPlace.may_end.Goals as goal

pub returns : goal.returns
returns c = c.may_end_at.ensures ∙ sym (may_end_is c.args.plan.now c.here.result c.here.ensures.placed) ∙ ap may_end c.here.ensures.here
