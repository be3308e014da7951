use Rattle.std.proofs.Common.{flat_map, sym, subst}
use Rattle.mediation.specs.Rows.{ArePlaced}
use Rattle.resolution.specs.Links.{cut_links, each_from, link_by}
use Rattle.resolution.proofs.Scoped.{widest_found}
use Rattle.resolution.proofs.Turning.{first_placed, lists_placed, rest_placed, starts_placed}
use Rattle.resolution.proofs.scopes.widest_of.Goals as goal

pub returns : goal.returns
returns c = λ are.
    let rows = c.args.winners.now in
    let own = c.args.own.now in
    let below = c.args.below.now in
    let places = c.args.places.now in
    let rest = c.behind-rest.result.now in
    let more = flat_map (λ edges. edges) below in
    let placed = subst (λ l. ArePlaced rows more l) (sym c.behind-rest.ensures) (rest_placed rows own more places are) in
    widest_found rows own below (each_from (link_by places) 0 own) (cut_links rows rest below) c.in_ok-widest.widest
    (starts_placed rows places own (first_placed rows own more places are))
    (lists_placed rows rest below placed)
    c.in_ok-widest.ensures
