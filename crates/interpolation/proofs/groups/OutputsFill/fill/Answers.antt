use Rattle.std.proofs.Common.{Ok, refl, sym, ap, ◌∙◌}
use Rattle.std.proofs.lemmas.Result.{err_from_is_err_and}
use Rattle.interpolation.proofs.Lists.{chain, chain_fails, exit_gives, next_fails, next_gives, stop_fails}
use Rattle.interpolation.specs.Filling.{fill_outputs}
use Rattle.interpolation.proofs.groups.OutputsFill.fill.Goals as goal

pub returns-in_err-directory : goal.returns-in_err-directory
unfolding fill_outputs
returns-in_err-directory c = λ known table.
    let fault = c.in_err-directory.field-0.0 in
    let p = err_from_is_err_and c.from_residual.result c.from_residual.ensures.1 in
    exit_gives _ known c.text_if.new.filler fault p.0 c.from_residual.result p.1 p.2 (stop_fails _ fault _ (c.in_err-directory.ensures known table))

pub returns-in_err-main : goal.returns-in_err-main
unfolding fill_outputs
returns-in_err-main c = λ known table.
    let s0 = c.in_ok-directory.ensures known table in
    let fault = c.in_err-main.field-0.0 in
    let p = err_from_is_err_and c.from_residual-in_err-main.result c.from_residual-in_err-main.ensures.1 in
    exit_gives _ known c.text_if-2.new.filler fault p.0 c.from_residual-in_err-main.result p.1 p.2 (chain_fails fault _ s0.0 (stop_fails _ fault _ (next_fails known _ c.text_if-2.new.filler c.in_ok-directory.directory c.text_if-2.result fault (c.text_if-2.ensures known s0.1) c.in_err-main.ensures)))

pub returns-in_err-folders : goal.returns-in_err-folders
unfolding fill_outputs
returns-in_err-folders c = λ known table.
    let s0 = c.in_ok-directory.ensures known table in
    let s1 = next_gives known _ c.text_if-2.new.filler c.in_ok-directory.directory c.text_if-2.result c.in_ok-main.main (c.text_if-2.ensures known s0.1) c.in_ok-main.ensures in
    let fault = c.in_err-folders.field-0.0 in
    let p = err_from_is_err_and c.from_residual-in_err-folders.result c.from_residual-in_err-folders.ensures.1 in
    exit_gives _ known c.text_if-3.new.filler fault p.0 c.from_residual-in_err-folders.result p.1 p.2 (chain_fails fault _ s0.0 (chain_fails fault _ s1.0 (stop_fails _ fault _ (next_fails known _ c.text_if-3.new.filler c.in_ok-main.main c.text_if-3.result fault (c.text_if-3.ensures known s1.1) c.in_err-folders.ensures))))

pub returns-in_err-all : goal.returns-in_err-all
unfolding fill_outputs
returns-in_err-all c = λ known table.
    let s0 = c.in_ok-directory.ensures known table in
    let s1 = next_gives known _ c.text_if-2.new.filler c.in_ok-directory.directory c.text_if-2.result c.in_ok-main.main (c.text_if-2.ensures known s0.1) c.in_ok-main.ensures in
    let s2 = next_gives known _ c.text_if-3.new.filler c.in_ok-main.main c.text_if-3.result c.in_ok-folders.folders (c.text_if-3.ensures known s1.1) c.in_ok-folders.ensures in
    let fault = c.in_err-all.field-0.0 in
    let p = err_from_is_err_and c.from_residual-in_err-all.result c.from_residual-in_err-all.ensures.1 in
    exit_gives _ known c.text_if-4.new.filler fault p.0 c.from_residual-in_err-all.result p.1 p.2 (chain_fails fault _ s0.0 (chain_fails fault _ s1.0 (chain_fails fault _ s2.0 (stop_fails _ fault _ (next_fails known _ c.text_if-4.new.filler c.in_ok-folders.folders c.text_if-4.result fault (c.text_if-4.ensures known s2.1) c.in_err-all.ensures)))))

pub returns : goal.returns
unfolding fill_outputs
returns c = λ known table.
    let s0 = c.in_ok-directory.ensures known table in
    let s1 = next_gives known _ c.text_if-2.new.filler c.in_ok-directory.directory c.text_if-2.result c.in_ok-main.main (c.text_if-2.ensures known s0.1) c.in_ok-main.ensures in
    let s2 = next_gives known _ c.text_if-3.new.filler c.in_ok-main.main c.text_if-3.result c.in_ok-folders.folders (c.text_if-3.ensures known s1.1) c.in_ok-folders.ensures in
    let s3 = next_gives known _ c.text_if-4.new.filler c.in_ok-folders.folders c.text_if-4.result c.in_ok-all.all (c.text_if-4.ensures known s2.1) c.in_ok-all.ensures in
    let q2 = sym s3.2 in
    let q1 = sym s2.2 ∙ (λ i. (q2 i).0) in
    let q0 = sym s1.2 ∙ (λ i. (q1 i).0) in
    (chain _ s0.0 (chain _ s1.0 (chain _ s2.0 (chain _ s3.0 refl))) ∙ (λ i. Ok (record { directory = q0 i; output = (q1 i).1; test_output = (q2 i).1; final_name = c.in_ok-all.all.1 })), s3.1)
