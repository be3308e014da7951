use Rattle.std.proofs.Common.{refl}
use Rattle.interpolation.proofs.Lists.{chain}
use Rattle.interpolation.specs.Filling.{fill_build_base}
use Rattle.interpolation.proofs.groups.BuildBaseFill.fill.Goals as goal

pub returns : goal.returns
unfolding fill_build_base
returns c = λ known table.
    let s0 = c.in_ok-managed_plugins.ensures known table in
    let s1 = c.in_ok-plugins.ensures known s0.1 in
    (chain _ s0.0 (chain _ s1.0 refl), s1.1)
