use Rattle.std.proofs.Common.{◌≡◌, None, get_or, length, replicate, subst, sym, ap, arith, ◌∙◌}
use Rattle.resolution.specs.Walks.{IsWidest}
use Rattle.resolution.specs.Search.{raised_all, search_of, turned}
use Rattle.resolution.proofs.Ending.{begins_so, is_widest, turns}
use Rattle.resolution.specs.Links.{cut_links, each_from, link_by}
use Rattle.resolution.proofs.Turning.{none_yet}
use Rattle.resolution.proofs.walks.widest_scopes.Goals as goal

pub loop-next-init : goal.loop-next-init
loop-next-init c =
    let starts = each_from (link_by c.args.places.now) 0 c.args.own.now in
    let links = cut_links c.args.winners.now c.args.rest.now c.args.below.now in
    let none : c.in_ok-scopes.scopes.items ≡ replicate (length links) None = none_yet c.args.winners.now c.args.rest.now c.args.below.now c.in_ok-scopes.scopes.items c.in_ok-scopes.ensures in
    begins_so starts links (search_of c.raise_starts.new.scopes.items c.raise_starts.new.waiting.items)
    (c.in_ok-raise_starts.ensures
    ∙ ap (λ l. raised_all (λ l. l.scope) (search_of l c.new-waiting.result.items) starts) none
    ∙ ap (λ w. raised_all (λ l. l.scope) (search_of (replicate (length links) None) w) starts) c.new-waiting.ensures.items)

pub loop-next-preserved : goal.loop-next-preserved
loop-next-preserved c =
    let starts = each_from (link_by c.args.places.now) 0 c.args.own.now in
    let links = cut_links c.args.winners.now c.args.rest.now c.args.below.now in
    let old = search_of c.loop-next.scopes.items c.loop-next.waiting.items in
    turns starts links old c.loop-next.next c.loop-next.invariant (omega (arith, c.loop-next-test.true, c.len.ensures))
    (search_of c.turn.new.scopes.items c.turn.new.waiting.items)
    (c.in_ok-turn.ensures ∙ ap (λ p. turned links old p) c.waiting_at-place.ensures)

pub returns : goal.returns
returns c = λ place low.
    let starts = each_from (link_by c.args.places.now) 0 c.args.own.now in
    let links = cut_links c.args.winners.now c.args.rest.now c.args.below.now in
    subst (λ l. IsWidest starts links place (get_or l place None)) (sym c.of.ensures)
    (is_widest starts links (search_of c.loop-next.scopes.items c.loop-next.waiting.items) c.loop-next.next c.loop-next.invariant (omega (arith, c.loop-next-test.false, c.len.ensures)) place low)
