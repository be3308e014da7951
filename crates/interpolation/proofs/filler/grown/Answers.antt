use Rattle.std.proofs.Common.{◌∷◌, sym, refl, ap, subst}
use Rattle.std.specs.Vec.Iter.{into_iter_items}
use Rattle.interpolation.specs.Tables.{IsTable}
use Rattle.interpolation.proofs.Steps.{come, grow_fails}
use Rattle.interpolation.proofs.filler.grown.Goals as goal

pub returns-in-Ok-clause-says : goal.returns-in-Ok-clause-says
returns-in-Ok-clause-says c = λ known seen part filler table is has.
    let grows = c.in-Ok.ensures in
    (grows.0, come known seen part c.args.text.now c.in-Ok.step.done c.args.step c.in-Ok.step is has grows.2 grows.0 refl (ap into_iter_items grows.1), subst (λ n. IsTable known (n ∷ seen) filler) (sym grows.0) table)

pub returns-in-Err-clause-says : goal.returns-in-Err-clause-says
returns-in-Err-clause-says c = λ known seen part filler table is has. grow_fails known seen part c.args.text.now filler c.args.step c.in-Err.fault is has c.in-Err.ensures
