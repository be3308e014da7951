use Rattle.std.proofs.Common.{◌≤◌, length, arith}
use Rattle.resolution.specs.Walks.{walked}
use Rattle.resolution.specs.Search.{raised_all, search_of}
use Rattle.resolution.specs.Links.{each_from, link_below_by}
use Rattle.resolution.proofs.Turning.{raise_all, raise_one}
use Rattle.resolution.proofs.walks.raise_below.Goals as goal

pub loop-at-preserved : goal.loop-at-preserved
loop-at-preserved c =
    raise_one (walked c.args.above) (link_below_by c.args.winners.now c.args.places.now) (search_of c.loop-at.scopes.items c.loop-at.waiting.items) (search_of c.raise_edge_at.new.scopes.items c.raise_edge_at.new.waiting.items)
    (raised_all (walked c.args.above) (search_of c.args.scopes.now.items c.args.waiting.now.items) (each_from (link_below_by c.args.winners.now c.args.places.now) 0 c.args.edges.now)) c.args.edges.now c.loop-at.at c.in_ok-raise_edge_at.ensures c.loop-at.invariant

pub returns : goal.returns
returns c =
    let low : length c.args.edges.now ≤ c.loop-at.at = omega (arith, c.loop-at-test.false) in
    raise_all (walked c.args.above) (link_below_by c.args.winners.now c.args.places.now) (search_of c.loop-at.scopes.items c.loop-at.waiting.items)
    (raised_all (walked c.args.above) (search_of c.args.scopes.now.items c.args.waiting.now.items) (each_from (link_below_by c.args.winners.now c.args.places.now) 0 c.args.edges.now)) c.args.edges.now c.loop-at.at low c.loop-at.invariant
