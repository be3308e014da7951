use Rattle.std.proofs.Common.{refl}
use Rattle.effective.specs.declared.run_store.RunStore.{RunStore}
use Rattle.effective.proofs.Storing.{lineages_put}
use Rattle.effective.proofs.Asking.{read_there}
use Rattle.effective.proofs.lineages.module_with.Goals as goal

pub returns-in-Ok-clause-holds : goal.returns-in-Ok-clause-holds
returns-in-Ok-clause-holds g c = λ world fits holds at.
    let new : RunStore = record { lineages = c.module_lineage.new.store; imports = c.args.store.now.imports; bound = c.args.store.now.bound } in
    lineages_put world c.args.given.now c.args.store.now new refl
    (c.module_lineage.ensures.holds world fits holds.lineages (read_there world c.args.path.now c.args.raw.now at)) holds

pub returns-in-Err-clause-holds : goal.returns-in-Err-clause-holds
returns-in-Err-clause-holds g c = λ world fits holds at.
    let new : RunStore = record { lineages = c.module_lineage.new.store; imports = c.args.store.now.imports; bound = c.args.store.now.bound } in
    lineages_put world c.args.given.now c.args.store.now new refl
    (c.module_lineage.ensures.holds world fits holds.lineages (read_there world c.args.path.now c.args.raw.now at)) holds
