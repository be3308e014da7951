use Rattle.std.proofs.Common.{Ok, refl, sym, ap, ◌∙◌}
use Rattle.std.proofs.lemmas.Result.{err_from_is_err_and}
use Rattle.interpolation.proofs.Lists.{chain, chain_fails, exit_gives, next_fails, next_gives, stop_fails}
use Rattle.interpolation.specs.Filling.{fill_sources}
use Rattle.interpolation.proofs.groups.SourcesFill.fill.Goals as goal

pub returns-in_err-source : goal.returns-in_err-source
unfolding fill_sources
returns-in_err-source c = λ known table.
    let fault = c.in_err-source.field-0.0 in
    let p = err_from_is_err_and c.from_residual.result c.from_residual.ensures.1 in
    exit_gives _ known c.text_if.new.filler fault p.0 c.from_residual.result p.1 p.2 (stop_fails _ fault _ (c.in_err-source.ensures known table))

pub returns-in_err-sources : goal.returns-in_err-sources
unfolding fill_sources
returns-in_err-sources c = λ known table.
    let s0 = c.in_ok-source.ensures known table in
    let fault = c.in_err-sources.field-0.0 in
    let p = err_from_is_err_and c.from_residual-in_err-sources.result c.from_residual-in_err-sources.ensures.1 in
    exit_gives _ known c.text_if-2.new.filler fault p.0 c.from_residual-in_err-sources.result p.1 p.2 (chain_fails fault _ s0.0 (stop_fails _ fault _ (next_fails known _ c.text_if-2.new.filler c.in_ok-source.source c.text_if-2.result fault (c.text_if-2.ensures known s0.1) c.in_err-sources.ensures)))

pub returns-in_err-main : goal.returns-in_err-main
unfolding fill_sources
returns-in_err-main c = λ known table.
    let s0 = c.in_ok-source.ensures known table in
    let s1 = next_gives known _ c.text_if-2.new.filler c.in_ok-source.source c.text_if-2.result c.in_ok-sources.sources (c.text_if-2.ensures known s0.1) c.in_ok-sources.ensures in
    let fault = c.in_err-main.field-0.0 in
    let p = err_from_is_err_and c.from_residual-in_err-main.result c.from_residual-in_err-main.ensures.1 in
    exit_gives _ known c.fill_texts.new.filler fault p.0 c.from_residual-in_err-main.result p.1 p.2 (chain_fails fault _ s0.0 (chain_fails fault _ s1.0 (stop_fails _ fault _ (next_fails known _ c.fill_texts.new.filler c.in_ok-sources.sources c.fill_texts.result fault (c.fill_texts.ensures known s1.1) c.in_err-main.ensures))))

pub returns-in_err-all : goal.returns-in_err-all
unfolding fill_sources
returns-in_err-all c = λ known table.
    let s0 = c.in_ok-source.ensures known table in
    let s1 = next_gives known _ c.text_if-2.new.filler c.in_ok-source.source c.text_if-2.result c.in_ok-sources.sources (c.text_if-2.ensures known s0.1) c.in_ok-sources.ensures in
    let s2 = next_gives known _ c.fill_texts.new.filler c.in_ok-sources.sources c.fill_texts.result c.in_ok-main.main (c.fill_texts.ensures known s1.1) c.in_ok-main.ensures in
    let fault = c.in_err-all.field-0.0 in
    let p = err_from_is_err_and c.from_residual-in_err-all.result c.from_residual-in_err-all.ensures.1 in
    exit_gives _ known c.fill_texts-2.new.filler fault p.0 c.from_residual-in_err-all.result p.1 p.2 (chain_fails fault _ s0.0 (chain_fails fault _ s1.0 (chain_fails fault _ s2.0 (stop_fails _ fault _ (next_fails known _ c.fill_texts-2.new.filler c.in_ok-main.main c.fill_texts-2.result fault (c.fill_texts-2.ensures known s2.1) c.in_err-all.ensures)))))

pub returns : goal.returns
unfolding fill_sources
returns c = λ known table.
    let s0 = c.in_ok-source.ensures known table in
    let s1 = next_gives known _ c.text_if-2.new.filler c.in_ok-source.source c.text_if-2.result c.in_ok-sources.sources (c.text_if-2.ensures known s0.1) c.in_ok-sources.ensures in
    let s2 = next_gives known _ c.fill_texts.new.filler c.in_ok-sources.sources c.fill_texts.result c.in_ok-main.main (c.fill_texts.ensures known s1.1) c.in_ok-main.ensures in
    let s3 = next_gives known _ c.fill_texts-2.new.filler c.in_ok-main.main c.fill_texts-2.result c.in_ok-all.all (c.fill_texts-2.ensures known s2.1) c.in_ok-all.ensures in
    let q2 = sym s3.2 in
    let q1 = sym s2.2 ∙ (λ i. (q2 i).0) in
    let q0 = sym s1.2 ∙ (λ i. (q1 i).0) in
    (chain _ s0.0 (chain _ s1.0 (chain _ s2.0 (chain _ s3.0 refl))) ∙ (λ i. Ok (record { source = q0 i; test_source = (q1 i).1; resources = (q2 i).1; test_resources = c.in_ok-all.all.1 })), s3.1)
