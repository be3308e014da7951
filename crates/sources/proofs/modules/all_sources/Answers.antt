use Rattle.std.proofs.Common.{◌+◌, List, ℕ, take, Option, Ok, Err, IfSome, ap, subst, sym, ◌∙◌}
use Rattle.std.proofs.lemmas.List.{take_all}
use Rattle.goal_types.specs.declared.goal.SourceFile.{SourceFile}
use Rattle.mvn_shared.specs.Files.{Files}
use Rattle.sources.specs.Sources.{GivesAll, PutsSources}
use Rattle.sources.specs.Earlier.{AreThere}
use Rattle.sources.proofs.ReadBefore.{so_far_there}
use Rattle.sources.proofs.SourcesRead.{IsSoFar, all_so_far, if_some_both, if_some_map, one_exceeds, one_so_far}
use Rattle.sources.proofs.modules.all_sources.Goals as goal

pub push_sources-requires : goal.push_sources-requires
push_sources-requires g c =
    let inv = c.loop-folders.invariant in
    let so_far = c.loop-folders.earlier in
    let there = so_far_there (g.T.Tree.files c.args.tree.now) (take c.loop-folders.folders-index c.args.modules.now) so_far c.loop-folders.count c.loop-folders.room inv.so_far in
    record { there = subst (λ (t : Option Files). IfSome t (λ files. AreThere files so_far)) (sym inv.same) there }

pub returns-in-Err-clause-gives : goal.returns-in-Err-clause-gives
returns-in-Err-clause-gives g c =
    let inv = c.loop-folders.invariant in
    let modules = c.args.modules.now in
    let i = c.loop-folders.folders-index in
    let folders = c.folders-item.result in
    let puts = λ (l : List (List ℕ)) (files : Files). PutsSources files l c.loop-folders.count c.loop-folders.room c.push_sources.new.count c.push_sources.new.room c.loop-folders.earlier c.push_sources.new.earlier (Err c.in-Err.fault) in
    let one = subst (λ (t : Option Files). IfSome t (puts folders)) inv.same (subst (λ (l : List (List ℕ)). IfSome (g.T.Tree.files c.loop-folders.tree) (puts l)) c.as_slice.ensures c.in-Err.ensures.puts) in
    if_some_both (λ files. IsSoFar files (take i modules) c.loop-folders.earlier c.loop-folders.count c.loop-folders.room) (puts folders) (λ files. GivesAll files modules (Err c.in-Err.fault)) (g.T.Tree.files c.args.tree.now)
    (λ files so h. one_exceeds files modules i folders c.loop-folders.earlier c.loop-folders.count c.loop-folders.room c.push_sources.new.count c.push_sources.new.room c.in-Err.fault c.loop-folders-test.true c.folders-item.is so c.push_sources.new.earlier h)
    inv.so_far one

pub loop-folders-preserved : goal.loop-folders-preserved
loop-folders-preserved g c =
    let inv = c.loop-folders.invariant in
    let modules = c.args.modules.now in
    let i = c.loop-folders.folders-index in
    let folders = c.folders-item.result in
    let puts = λ (l : List (List ℕ)) (files : Files). PutsSources files l c.loop-folders.count c.loop-folders.room c.push_sources.new.count c.push_sources.new.room c.loop-folders.earlier c.push_sources.new.earlier (Ok tt) in
    let one = subst (λ (t : Option Files). IfSome t (puts folders)) inv.same (subst (λ (l : List (List ℕ)). IfSome (g.T.Tree.files c.loop-folders.tree) (puts l)) c.as_slice.ensures c.in-Ok.ensures.puts) in
    record {
      so_far = if_some_both (λ files. IsSoFar files (take i modules) c.loop-folders.earlier c.loop-folders.count c.loop-folders.room) (puts folders) (λ files. IsSoFar files (take (i + 1) modules) c.push_sources.new.earlier c.push_sources.new.count c.push_sources.new.room) (g.T.Tree.files c.args.tree.now)
          (λ files so h. one_so_far files modules i folders c.loop-folders.earlier c.push_sources.new.earlier c.loop-folders.count c.loop-folders.room c.push_sources.new.count c.push_sources.new.room c.loop-folders-test.true c.folders-item.is so h)
          inv.so_far one;
      each = c.in-Ok.ensures.one ∙ ap (λ n. n + 1) inv.each;
      same = c.in-Ok.ensures.same ∙ inv.same;
      quiet = c.in-Ok.ensures.cause ∙ inv.quiet;
    }

pub returns-clause-gives : goal.returns-clause-gives
returns-clause-gives g c =
    let told = g.T.Tree.files c.args.tree.now in
    let modules = c.args.modules.now in
    let so_far = c.loop-folders.earlier in
    let all = take_all c.loop-folders.folders-index modules c.loop-folders-test.false in
    subst (λ (l : List (List SourceFile)). IfSome told (λ files. GivesAll files modules (Ok l))) (sym c.into_lists.ensures)
    (if_some_map (λ files. IsSoFar files (take c.loop-folders.folders-index modules) so_far c.loop-folders.count c.loop-folders.room) (λ files. GivesAll files modules (Ok so_far)) told
    (λ files so. all_so_far files modules so_far c.loop-folders.count c.loop-folders.room (subst (λ (l : List (List (List ℕ))). IsSoFar files l so_far c.loop-folders.count c.loop-folders.room) all so))
    c.loop-folders.invariant.so_far)
