use Rattle.std.proofs.Common.{refl}
use Rattle.effective.proofs.Storing.{lineages_put}
use Rattle.effective.proofs.run_store.RunStore.built.Goals as goal

pub returns-in-Ok-clause-holds : goal.returns-in-Ok-clause-holds
returns-in-Ok-clause-holds c = λ world given holds. lineages_put world given c.args.self.now _ refl holds.lineages holds

pub returns-in-Err-clause-holds : goal.returns-in-Err-clause-holds
returns-in-Err-clause-holds c = λ world given holds. lineages_put world given c.args.self.now _ refl holds.lineages holds
