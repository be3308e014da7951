use Rattle.std.proofs.Common.{refl}
use Rattle.effective.specs.declared.run_store.RunStore.{RunStore}
use Rattle.effective.proofs.Storing.{lineages_put}
use Rattle.effective.proofs.asked.asked_path.Goals as goal

pub returns-in_err-raw-clause-holds : goal.returns-in_err-raw-clause-holds
returns-in_err-raw-clause-holds g c = λ world given fits holds.
    let new : RunStore = record { lineages = c.read_at.new.store; imports = c.args.store.now.imports; bound = c.args.store.now.bound } in
    lineages_put world given c.args.store.now new refl (c.read_at.ensures.holds world given fits holds.lineages) holds

pub returns-in-Some-clause-holds : goal.returns-in-Some-clause-holds
returns-in-Some-clause-holds g c = λ world given fits holds.
    let new : RunStore = record { lineages = c.read_at.new.store; imports = c.args.store.now.imports; bound = c.args.store.now.bound } in
    lineages_put world given c.args.store.now new refl (c.read_at.ensures.holds world given fits holds.lineages) holds

pub returns-in-None-clause-holds : goal.returns-in-None-clause-holds
returns-in-None-clause-holds g c = λ world given fits holds.
    let new : RunStore = record { lineages = c.read_at.new.store; imports = c.args.store.now.imports; bound = c.args.store.now.bound } in
    lineages_put world given c.args.store.now new refl (c.read_at.ensures.holds world given fits holds.lineages) holds
