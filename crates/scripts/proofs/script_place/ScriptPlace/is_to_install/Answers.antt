use Rattle.std.proofs.Common.{sym, ap, ◌∙◌}
use Rattle.scripts.specs.Scripts.{is_to_install}
use Rattle.scripts.proofs.Readings.{to_install_is}
use Rattle.scripts.proofs.script_place.ScriptPlace.is_to_install.Goals as goal

pub returns : goal.returns
returns c = c.is_to_install_at.ensures ∙ sym (to_install_is c.args.plan.now c.here.result c.here.ensures.placed) ∙ ap is_to_install c.here.ensures.here
