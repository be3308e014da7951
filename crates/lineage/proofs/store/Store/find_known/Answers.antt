use Rattle.lineage.proofs.Holding.{known_serves}
use Rattle.lineage.proofs.store.Store.find_known.Goals as goal

pub returns : goal.returns
returns c = record {
  value = c.in_ok-kept.ensures;
  told = λ world given holds. known_serves world given c.args.self.now c.args.gav.now c.in_ok-kept.kept holds c.in_ok-kept.ensures;
}
