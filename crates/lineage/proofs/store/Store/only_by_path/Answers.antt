use Rattle.std.proofs.Common.{refl, ap}
use Rattle.std.specs.Map.{lookup}
use Rattle.std.specs.Str.{bytes_eq}
use Rattle.mvn_base.specs.Gav.{gav_eq}
use Rattle.lineage.proofs.Holding.{read_alone}
use Rattle.lineage.proofs.store.Store.only_by_path.Goals as goal

pub returns : goal.returns
returns c = λ world other given holds same there.
    read_alone world other given c.args.self _ refl refl (λ gav. ap (lookup (gav_eq gav)) c.new.ensures.empty) (λ path. ap (lookup (bytes_eq path)) c.new-2.ensures.empty) (λ gav. ap (lookup (gav_eq gav)) c.new-3.ensures.empty) holds same there
