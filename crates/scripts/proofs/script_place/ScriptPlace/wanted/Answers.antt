use Rattle.std.proofs.Common.{sym, ap, ◌∙◌}
use Rattle.scripts.specs.Scripts.{wanted}
use Rattle.scripts.proofs.Readings.{wanted_is}
use Rattle.scripts.proofs.script_place.ScriptPlace.wanted.Goals as goal

pub returns : goal.returns
returns c = c.wanted_at.ensures ∙ sym (wanted_is c.args.plan.now c.here.result c.here.ensures.placed) ∙ ap wanted c.here.ensures.here
