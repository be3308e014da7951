use Rattle.std.proofs.Common.{refl}
use Rattle.lineage.specs.declared.store.Store.{Store}
use Rattle.lineage.proofs.Holding.{known_put}
use Rattle.lineage.proofs.Kept.{known_apart, known_kept, lines_keep}
use Rattle.lineage.proofs.store.Store.keep_known.Goals as goal

pub returns : goal.returns
returns c =
    let new : Store = record { read = c.args.self.now.read; known = c.set_known.new.map; beside = c.args.self.now.beside; elsewhere = c.args.self.now.elsewhere; active = c.args.self.now.active } in
    record {
      kept = known_kept c.set_known.result c.args.self.now new c.args.gav.now c.args.found.now c.set_known.ensures.ok;
      others = λ other apart. known_apart c.set_known.result c.args.self.now new c.args.gav.now c.args.found.now c.set_known.ensures.ok c.set_known.ensures.err other apart;
      keeps = λ path found there. there;
      keeps_lines = lines_keep c.args.self.now new (λ other. refl) (λ gav. refl);
      holds = λ world given holds is. known_put world given c.set_known.result c.args.self.now _ c.args.gav.now c.args.found.now c.set_known.ensures.ok c.set_known.ensures.err (λ other. refl) (λ other. refl) (λ gav. refl) (λ other. refl) holds is;
    }
