use Rattle.std.proofs.Common.{flat_map, ap, ◌∙◌}
use Rattle.resolution.specs.Resolved.{resolved_at}
use Rattle.resolution.proofs.resolving.made.Goals as goal

pub returns : goal.returns
returns c = λ managed direct declared. record {
  scopes = c.in_ok-scopes.scopes;
  widest = λ libraries whole. c.in_ok-scopes.ensures.widest libraries managed direct declared whole;
  winners = c.in_ok-list.ensures ∙ ap (λ o. flat_map (resolved_at c.args.winners.now c.in_ok-scopes.scopes) o) c.in_ok-order.ensures;
  notes = c.in_ok-notes.ensures;
}
