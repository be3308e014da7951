use Rattle.std.proofs.Common.{[], ◌∷◌, ◌++◌, ap, ◌∙◌}
use Rattle.std.proofs.lemmas.List.{get_or_default}
use Rattle.reactor_order.proofs.Adjacency.{graph_more}
use Rattle.reactor.proofs.upstreams.add_edge.Goals as goal

pub returns : goal.returns
returns c = λ n edges g.
    let lists = c.args.lists.now.items in
    let is = c.in_ok-push.ensures.ok ∙ ap (λ l. l ++ c.args.upstream ∷ []) (c.index_mut.ensures.value ∙ get_or_default lists c.args.m c.index_mut.result.now [] c.requires.m) in
    graph_more n edges c.args.m c.args.upstream lists c.push.new.self c.requires.m c.requires.upstream is g
