use Rattle.std.proofs.Common.{refl}
use Rattle.effective.specs.declared.run_store.RunStore.{RunStore}
use Rattle.effective.proofs.Storing.{lineages_put}
use Rattle.effective.proofs.lineages.lineage_with.Goals as goal

pub returns-in-Ok-clause-holds : goal.returns-in-Ok-clause-holds
returns-in-Ok-clause-holds g c = λ world fits holds.
    let new : RunStore = record { lineages = c.lineage.new.store; imports = c.args.store.now.imports; bound = c.args.store.now.bound } in
    lineages_put world c.args.given.now c.args.store.now new refl (c.lineage.ensures.holds world fits holds.lineages) holds

pub returns-in-Err-clause-holds : goal.returns-in-Err-clause-holds
returns-in-Err-clause-holds g c = λ world fits holds.
    let new : RunStore = record { lineages = c.lineage.new.store; imports = c.args.store.now.imports; bound = c.args.store.now.bound } in
    lineages_put world c.args.given.now c.args.store.now new refl (c.lineage.ensures.holds world fits holds.lineages) holds
