use Rattle.std.proofs.Common.{Ok, Err}
use Rattle.sources.specs.Sources.{ListsIn, ListsNames}
use Rattle.sources.proofs.SourcesRead.{if_some_map, ordered, unordered}
use Rattle.sources.proofs.names.source_names.Goals as goal

pub returns-in-Ok-clause-lists : goal.returns-in-Ok-clause-lists
returns-in-Ok-clause-lists g c =
    if_some_map (λ files. ListsIn files c.args.folders.now (Ok c.in-Ok.names)) (λ files. ListsNames files c.args.folders.now c.in_order.result) (g.T.Tree.files c.args.tree.now)
    (λ files h. ordered files c.args.folders.now c.in-Ok.names c.in_order.result h c.in_order.ensures)
    c.in-Ok.ensures.lists

pub returns-in-Err-clause-lists : goal.returns-in-Err-clause-lists
returns-in-Err-clause-lists g c =
    if_some_map (λ files. ListsIn files c.args.folders.now (Err c.in-Err.fault)) (λ files. ListsNames files c.args.folders.now (Err c.in-Err.fault)) (g.T.Tree.files c.args.tree.now)
    (λ files h. unordered files c.args.folders.now c.in-Err.fault h)
    c.in-Err.ensures.lists
