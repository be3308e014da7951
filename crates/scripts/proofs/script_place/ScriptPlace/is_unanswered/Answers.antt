use Rattle.std.proofs.Common.{nat_eq, sym, ap, ◌∙◌}
use Rattle.scripts.specs.Scripts.{answers_left}
use Rattle.scripts.proofs.Readings.{unanswered_is}
use Rattle.scripts.proofs.script_place.ScriptPlace.is_unanswered.Goals as goal

pub returns : goal.returns
returns c = c.is_unanswered_at.ensures ∙ sym (unanswered_is c.args.plan.now c.here.result c.here.ensures.placed) ∙ ap (λ s. nat_eq (answers_left s) c.args.plan.now.goals) c.here.ensures.here
