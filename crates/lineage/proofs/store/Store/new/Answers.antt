use Rattle.std.proofs.Common.{ap}
use Rattle.std.specs.Map.{lookup}
use Rattle.std.specs.Str.{bytes_eq}
use Rattle.mvn_base.specs.Gav.{gav_eq}
use Rattle.lineage.proofs.Holding.{nothing_held}
use Rattle.lineage.proofs.store.Store.new.Goals as goal

pub returns : goal.returns
returns c = λ world given.
    nothing_held world given _ (λ path. ap (lookup (bytes_eq path)) c.new.ensures.empty) (λ gav. ap (lookup (gav_eq gav)) c.new-2.ensures.empty)
    (λ path. ap (lookup (bytes_eq path)) c.new-3.ensures.empty) (λ gav. ap (lookup (gav_eq gav)) c.new-4.ensures.empty)
    (λ path. ap (lookup (bytes_eq path)) c.new-5.ensures.empty)
