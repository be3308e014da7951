use Rattle.std.proofs.Common.{◌≡◌, ◌<◌, [], get_or, length, ap, sym, subst, ◌∙◌}
use Rattle.std.proofs.lemmas.List.{get_or_default}
use Rattle.reactor_order.specs.Graph.{has}
use Rattle.reactor.proofs.upstreams.places_at.Goals as goal

pub places_of-requires-clause-upstreams : goal.places_of-requires-clause-upstreams
places_of-requires-clause-upstreams c =
    let lists = c.args.lists.now in
    let low : c.args.m < length lists = subst (λ k. c.args.m < k) (sym c.requires.long) c.requires.below in
    let list : c.as_slice.result.now ≡ get_or lists c.args.m [] = c.as_slice.ensures ∙ c.index-lists-m.is ∙ get_or_default lists c.args.m c.index-lists-m.result [] low in
    λ k is. c.requires.lists c.args.m k (sym (ap (λ l. has l k) list) ∙ is)
