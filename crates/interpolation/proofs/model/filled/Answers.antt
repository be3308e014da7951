use Rattle.std.proofs.Common.{subst}
use Rattle.interpolation.specs.Filling.{fill_groups}
use Rattle.interpolation.specs.Tables.{Gives}
use Rattle.interpolation.proofs.model.filled.Goals as goal

pub returns : goal.returns
returns c = λ known table.
    let raw = c.args.raw.now in
    subst (λ b. Gives known (fill_groups known raw b raw.build) c.fill_groups.new.filler c.fill_groups.result) c.value.ensures
    (subst (λ b. Gives known (fill_groups known raw c.value.result.now b) c.fill_groups.new.filler c.fill_groups.result) c.value-2.ensures (c.fill_groups.ensures known table))
