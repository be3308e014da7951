use Rattle.std.proofs.Common.{◌≤◌, length, arith}
use Rattle.resolution.specs.Search.{raised_all, search_of}
use Rattle.resolution.specs.Links.{each_from, link_by}
use Rattle.resolution.proofs.Turning.{raise_all, raise_one}
use Rattle.resolution.proofs.walks.raise_starts.Goals as goal

pub loop-at-preserved : goal.loop-at-preserved
loop-at-preserved c =
    raise_one (λ l. l.scope) (link_by c.args.places.now) (search_of c.loop-at.scopes.items c.loop-at.waiting.items) (search_of c.raise_start_at.new.scopes.items c.raise_start_at.new.waiting.items)
    (raised_all (λ l. l.scope) (search_of c.args.scopes.now.items c.args.waiting.now.items) (each_from (link_by c.args.places.now) 0 c.args.own.now)) c.args.own.now c.loop-at.at c.in_ok-raise_start_at.ensures c.loop-at.invariant

pub returns : goal.returns
returns c =
    let low : length c.args.own.now ≤ c.loop-at.at = omega (arith, c.loop-at-test.false) in
    raise_all (λ l. l.scope) (link_by c.args.places.now) (search_of c.loop-at.scopes.items c.loop-at.waiting.items)
    (raised_all (λ l. l.scope) (search_of c.args.scopes.now.items c.args.waiting.now.items) (each_from (link_by c.args.places.now) 0 c.args.own.now)) c.args.own.now c.loop-at.at low c.loop-at.invariant
