use Rattle.std.proofs.Common.{length, ap, ◌∙◌}
use Rattle.resolution.specs.Links.{scopes_from}
use Rattle.resolution.proofs.Scoped.{links_long, scoped, widest_declared}
use Rattle.resolution.proofs.Turning.{scopes_long}
use Rattle.resolution.proofs.scopes.scopes_of.Goals as goal

pub returns-clause-long : goal.returns-clause-long
returns-clause-long c = ap length c.in_ok-scopes.ensures ∙ scopes_long c.as_slice.result.now c.args.winners.now 0

pub returns-clause-widest : goal.returns-clause-widest
returns-clause-widest c = λ libraries managed direct declared whole.
    scoped libraries managed direct c.args.winners.now whole c.in_ok-widest.widest
    (widest_declared managed direct c.args.winners.now c.args.own.now c.args.below.now c.args.places.now c.in_ok-widest.widest declared c.in_ok-widest.ensures)
    c.in_ok-scopes.scopes (c.in_ok-scopes.ensures ∙ ap (λ w. scopes_from w 0 c.args.winners.now) c.as_slice.ensures) (links_long managed c.args.winners.now)
