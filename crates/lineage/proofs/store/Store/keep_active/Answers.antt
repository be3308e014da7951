use Rattle.std.proofs.Common.{refl}
use Rattle.lineage.specs.declared.store.Store.{Store}
use Rattle.lineage.proofs.Holding.{active_put}
use Rattle.lineage.proofs.Kept.{active_kept, lines_keep}
use Rattle.lineage.proofs.store.Store.keep_active.Goals as goal

pub returns : goal.returns
returns c =
    let new : Store = record { read = c.args.self.now.read; known = c.args.self.now.known; beside = c.args.self.now.beside; elsewhere = c.args.self.now.elsewhere; active = c.set_active.new.map } in
    record {
      kept = active_kept c.set_active.result c.args.self.now new c.args.path.now c.args.places.now c.set_active.ensures.ok;
      keeps = λ path found there. there;
      keeps_lines = lines_keep c.args.self.now new (λ other. refl) (λ gav. refl);
      holds = λ world given holds are. active_put world given c.set_active.result c.args.self.now _ c.args.path.now c.args.places.now c.set_active.ensures.ok c.set_active.ensures.err (λ other. refl) (λ gav. refl) (λ other. refl) (λ gav. refl) holds are;
    }
