use Rattle.resolution.specs.Links.{scopes_from}
use Rattle.resolution.proofs.Turning.{scope_one}
use Rattle.resolution.proofs.scopes.scopes_among.Goals as goal

pub loop-place-preserved : goal.loop-place-preserved
loop-place-preserved c =
    scope_one c.args.widest.now c.loop-place.list c.add_scope.new.list (scopes_from c.args.widest.now 0 c.args.winners.now) c.args.winners.now c.loop-place.place
    c.in_ok-add_scope.ensures c.loop-place.invariant
