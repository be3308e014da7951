use Rattle.std.proofs.Common.{Ok, sym, ap}
use Rattle.interpolation.proofs.Lists.{chain}
use Rattle.interpolation.specs.Filling.{fill_build}
use Rattle.interpolation.proofs.groups.fill_build.Goals as goal

pub returns : goal.returns
unfolding fill_build
returns c = λ known table.
    let s0 = c.in_ok-base.ensures known table in
    let s1 = c.in_ok-extensions.ensures known s0.1 in
    (chain _ s0.0 (chain _ s1.0 (ap (λ b. Ok b) (sym c.in_ok-filled.ensures))), s1.1)
