use Rattle.std.proofs.Common.{sym, ap, ◌∙◌}
use Rattle.std.specs.Option.{option_copied}
use Rattle.resolution.proofs.Told.{judged_conflict, judged_made}
use Rattle.resolution.proofs.resolving.judged.Goals as goal

pub returns-in-Some-clause-resolves : goal.returns-in-Some-clause-resolves
returns-in-Some-clause-resolves c = λ libraries managed direct declared whole.
    judged_conflict libraries managed direct c.args.winners.now c.args.own.now c.args.below.now c.args.places.now c.in-Some.winner.now c.refused.result declared whole
    (sym c.in_ok-conflict.ensures ∙ ap option_copied c.in-Some.is) c.refused.ensures.says

pub returns-in_ok-made-in-None-clause-resolves : goal.returns-in_ok-made-in-None-clause-resolves
returns-in_ok-made-in-None-clause-resolves c = λ libraries managed direct declared whole.
    judged_made libraries managed direct c.args.winners.now c.args.own.now c.args.below.now c.args.places.now c.in_ok-made-in-None.field-0 declared whole
    (sym c.in_ok-conflict.ensures ∙ ap option_copied c.in-None.is) (c.in_ok-made-in-None.ensures managed direct declared)
