use Rattle.std.proofs.Common.{◌≡◌, ◌+◌, List, [], ◌∷◌, ◌++◌, take, Option, Err, IfSome, ap, subst, sym, ◌∙◌}
use Rattle.mvn_shared.specs.Files.{Files}
use Rattle.goal_types.specs.declared.goal.SourceFile.{SourceFile}
use Rattle.sources.specs.Sources.{sources_at, ReadsOne, ReadsSources}
use Rattle.sources.proofs.SourcesRead.{if_some_both, one_too_many, sources_more}
use Rattle.sources.proofs.sources.read_sources.Goals as goal

pub returns-in-Err-clause-reads : goal.returns-in-Err-clause-reads
returns-in-Err-clause-reads g c =
    let inv = c.loop-name.invariant in
    let names = c.args.names.now in
    let i = c.loop-name.name-index in
    let name = c.name-item.result in
    let now = c.push_source.new.sources in
    let told = g.T.Tree.files c.args.tree.now in
    let one = subst (λ (t : Option Files). IfSome t (λ files. ReadsOne c.loop-name.left c.loop-name.sources (sources_at files (name ∷ [])) now (Err c.in-Err.fault))) inv.same c.in-Err.ensures.reads in
    if_some_both (λ files. c.loop-name.sources ≡ sources_at files (take i names)) (λ files. ReadsOne c.loop-name.left c.loop-name.sources (sources_at files (name ∷ [])) now (Err c.in-Err.fault)) (λ files. ReadsSources c.args.room (sources_at files names) (Err c.in-Err.fault)) told
    (λ files so_far h. one_too_many files names i name c.loop-name.left c.loop-name.sources now c.in-Err.fault c.loop-name-test.true c.name-item.is c.args.room so_far inv.left h)
    inv.so_far one

pub loop-name-preserved : goal.loop-name-preserved
loop-name-preserved g c =
    let inv = c.loop-name.invariant in
    let names = c.args.names.now in
    let i = c.loop-name.name-index in
    let name = c.name-item.result in
    let now = c.push_source.new.sources in
    let told = g.T.Tree.files c.args.tree.now in
    let one = subst (λ (t : Option Files). IfSome t (λ files. now ≡ c.loop-name.sources ++ sources_at files (name ∷ []))) inv.same c.in-Ok.ensures.reads in
    record {
      so_far = if_some_both (λ files. c.loop-name.sources ≡ sources_at files (take i names)) (λ files. now ≡ c.loop-name.sources ++ sources_at files (name ∷ [])) (λ files. now ≡ sources_at files (take (i + 1) names)) told
          (λ files so_far h. h ∙ ap (λ (s : List SourceFile). s ++ sources_at files (name ∷ [])) so_far ∙ sym (sources_more files names i name c.loop-name-test.true c.name-item.is))
          inv.so_far one;
      left = c.in-Ok.ensures.left ∙ inv.left;
      same = c.in-Ok.ensures.same ∙ inv.same;
      quiet = c.in-Ok.ensures.cause ∙ inv.quiet;
    }
