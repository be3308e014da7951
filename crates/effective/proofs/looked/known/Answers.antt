use Rattle.std.proofs.Common.{refl}
use Rattle.effective.specs.declared.run_store.RunStore.{RunStore}
use Rattle.effective.proofs.Storing.{lineages_put}
use Rattle.effective.proofs.looked.known.Goals as goal

pub returns-in_err-found-clause-holds : goal.returns-in_err-found-clause-holds
returns-in_err-found-clause-holds g c = λ world given fits holds.
    let new : RunStore = record { lineages = c.pom_at.new.store; imports = c.args.store.now.imports; bound = c.args.store.now.bound } in
    lineages_put world given c.args.store.now new refl (c.pom_at.ensures.holds world given fits holds.lineages) holds

pub returns-clause-holds : goal.returns-clause-holds
returns-clause-holds g c = λ world given fits holds.
    let new : RunStore = record { lineages = c.pom_at.new.store; imports = c.args.store.now.imports; bound = c.args.store.now.bound } in
    lineages_put world given c.args.store.now new refl (c.pom_at.ensures.holds world given fits holds.lineages) holds
