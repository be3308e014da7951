use Rattle.std.proofs.Common.{ℕ, List, Option, Ok, Err, IfSome, subst}
use Rattle.mvn_base.specs.Limits.{most_sources}
use Rattle.mvn_shared.specs.Files.{Files}
use Rattle.sources.specs.Sources.{sources_at, ListsNames, ReadsSources, GivesSources}
use Rattle.sources.proofs.SourcesRead.{if_some_map, if_some_both, names_give, reads_give}
use Rattle.sources.proofs.sources.project_sources.Goals as goal

pub returns-in-Err-clause-gives : goal.returns-in-Err-clause-gives
returns-in-Err-clause-gives g c = if_some_map (λ files. ListsNames files c.args.folders.now (Err c.in-Err.fault)) (λ files. GivesSources files c.args.folders.now (Err c.in-Err.fault)) (g.T.Tree.files c.args.tree.now) (λ files h. names_give files c.args.folders.now c.in-Err.fault h) c.in-Err.ensures.lists

pub returns-in-Ok-clause-gives : goal.returns-in-Ok-clause-gives
returns-in-Ok-clause-gives g c =
    let told = g.T.Tree.files c.args.tree.now in
    let read = c.read_anew.result in
    let reads = λ (ns : List (List ℕ)) (files : Files). ReadsSources most_sources (sources_at files ns) read in
    if_some_both (λ files. ListsNames files c.args.folders.now (Ok c.in-Ok.names)) (reads c.in-Ok.names) (λ files. GivesSources files c.args.folders.now read) told
    (λ files n h. reads_give files c.args.folders.now c.in-Ok.names read n h)
    c.in-Ok.ensures.lists
    (subst (λ (t : Option Files). IfSome t (reads c.in-Ok.names)) c.in-Ok.ensures.same
    (subst (λ (ns : List (List ℕ)). IfSome (g.T.Tree.files c.source_names.new.tree) (reads ns)) c.as_slice.ensures c.read_anew.ensures.reads))
