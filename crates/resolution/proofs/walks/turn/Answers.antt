use Rattle.std.proofs.Common.{◌≡◌, None, Some, drop, get_or, slice_get, sym, ap, ◌∙◌}
use Rattle.std.proofs.lemmas.Result.{on_ok_weaker}
use Rattle.resolution.specs.Walks.{walked}
use Rattle.resolution.specs.Search.{raised_all, search_of}
use Rattle.resolution.specs.Links.{each_from, link_below_by}
use Rattle.resolution.proofs.Turning.{turned_at, turned_past}
use Rattle.resolution.proofs.walks.turn.Goals as goal

pub returns-in_default-edges_at : goal.returns-in_default-edges_at
returns-in_default-edges_at c =
    turned_past c.args.winners.now c.args.places.now c.args.below.now (search_of c.args.scopes.now.items c.args.waiting.now.items) c.args.place (sym c.in_default-edges_at.ensures)

pub returns : goal.returns
returns c =
    let old = search_of c.args.scopes.now.items c.args.waiting.now.items in
    let kept : get_or c.args.scopes.now.items c.args.place None ≡ Some c.in-Some.above = ap (λ l. get_or l c.args.place None) (sym c.deref.ensures.value) ∙ sym c.in-Some.ensures in
    let list = c.in-Some-edges_at.shared.now in
    let there : slice_get c.args.below.now c.args.place ≡ Some list = sym c.in-Some-edges_at.ensures in
    on_ok_weaker c.raise_below.result
    (λ is. turned_at c.args.winners.now c.args.places.now c.args.begins.now c.behind-rest.result.now c.args.below.now old
    (search_of c.raise_below.new.scopes.items c.raise_below.new.waiting.items) c.args.place c.in-Some.above list c.requires kept there
    (c.behind-rest.ensures ∙ ap (λ n. drop n c.args.places.now) c.number_at.ensures)
    (is ∙ ap (λ l. raised_all (walked c.in-Some.above) old (each_from (link_below_by c.args.winners.now c.behind-rest.result.now) 0 l)) (c.as_slice-edges.ensures ∙ c.deref-2.ensures)))
    c.raise_below.ensures
