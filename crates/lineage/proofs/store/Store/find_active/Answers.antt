use Rattle.lineage.proofs.Holding.{active_serves}
use Rattle.lineage.proofs.store.Store.find_active.Goals as goal

pub returns : goal.returns
returns c = record {
  value = c.in_ok-kept.ensures;
  told = λ world given holds. active_serves world given c.args.self.now c.args.path.now c.in_ok-kept.kept holds c.in_ok-kept.ensures;
}
