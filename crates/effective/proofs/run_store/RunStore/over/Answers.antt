use Rattle.std.proofs.Common.{ap}
use Rattle.std.specs.Map.{lookup}
use Rattle.mvn_base.specs.Gav.{gav_eq}
use Rattle.effective.proofs.Storing.{nothing_held}
use Rattle.effective.proofs.run_store.RunStore.over.Goals as goal

pub returns : goal.returns
returns c = λ world given holds. nothing_held world given _ holds (λ gav. ap (lookup (gav_eq gav)) c.new.ensures.empty)
