use Rattle.std.proofs.Common.{refl}
use Rattle.lineage.specs.declared.store.Store.{Store}
use Rattle.lineage.proofs.Holding.{read_put}
use Rattle.lineage.proofs.Kept.{lines_keep, read_keeps, read_kept}
use Rattle.lineage.proofs.store.Store.keep_read.Goals as goal

pub returns : goal.returns
returns c =
    let new : Store = record { read = c.set_read.new.map; known = c.args.self.now.known; beside = c.args.self.now.beside; elsewhere = c.args.self.now.elsewhere; active = c.args.self.now.active } in
    record {
      kept = read_kept c.set_read.result c.args.self.now new c.args.path.now c.args.found.now c.set_read.ensures.ok;
      keeps = read_keeps c.set_read.result c.args.self.now new c.args.path.now c.args.found.now c.set_read.ensures.ok c.set_read.ensures.err;
      keeps_lines = lines_keep c.args.self.now new (λ other. refl) (λ gav. refl);
      holds = λ world given holds is. read_put world given c.set_read.result c.args.self.now _ c.args.path.now c.args.found.now c.set_read.ensures.ok c.set_read.ensures.err (λ gav. refl) (λ other. refl) (λ gav. refl) (λ other. refl) holds is;
    }
