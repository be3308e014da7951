use Rattle.std.proofs.Common.{refl, subst}
use Rattle.lineage.specs.Stores.{IsAt, IsKept}
use Rattle.lineage.specs.declared.store.Store.{Store}
use Rattle.lineage.proofs.Holding.{beside_put, elsewhere_put}
use Rattle.lineage.proofs.Kept.{beside_keeps, beside_kept, elsewhere_keeps, elsewhere_kept}
use Rattle.lineage.proofs.store.Store.keep_line.Goals as goal

pub returns-in-Beside : goal.returns-in-Beside
returns-in-Beside c =
    let new : Store = record { read = c.args.self.now.read; known = c.args.self.now.known; beside = c.set_beside.new.map; elsewhere = c.args.self.now.elsewhere; active = c.args.self.now.active } in
    record {
      kept = beside_kept c.set_beside.result c.args.self.now new c.args.origin.now c.in-Beside.path c.in-Beside.field-1 c.args.line.now c.in-Beside.is c.set_beside.ensures.ok;
      keeps = λ path found there. there;
      keeps_lines = beside_keeps c.set_beside.result c.args.self.now new c.in-Beside.path c.args.line.now c.set_beside.ensures.ok c.set_beside.ensures.err (λ gav. refl);
      holds = λ world given holds at kept.
          beside_put world given c.set_beside.result c.args.self.now _ c.in-Beside.path c.in-Beside.field-1 c.args.line.now c.set_beside.ensures.ok c.set_beside.ensures.err (λ other. refl) (λ gav. refl) (λ gav. refl) (λ other. refl) holds
          (subst (λ o. IsAt world o) c.in-Beside.is at) (subst (λ o. IsKept world given o c.args.line.now) c.in-Beside.is kept);
    }

pub returns-in-Elsewhere : goal.returns-in-Elsewhere
returns-in-Elsewhere c =
    let new : Store = record { read = c.args.self.now.read; known = c.args.self.now.known; beside = c.args.self.now.beside; elsewhere = c.set_elsewhere.new.map; active = c.args.self.now.active } in
    record {
      kept = elsewhere_kept c.set_elsewhere.result c.args.self.now new c.args.origin.now c.in-Elsewhere.gav c.args.line.now c.in-Elsewhere.is c.set_elsewhere.ensures.ok;
      keeps = λ path found there. there;
      keeps_lines = elsewhere_keeps c.set_elsewhere.result c.args.self.now new c.in-Elsewhere.gav c.args.line.now c.set_elsewhere.ensures.ok c.set_elsewhere.ensures.err (λ other. refl);
      holds = λ world given holds at kept.
          elsewhere_put world given c.set_elsewhere.result c.args.self.now _ c.in-Elsewhere.gav c.args.line.now c.set_elsewhere.ensures.ok c.set_elsewhere.ensures.err (λ other. refl) (λ gav. refl) (λ other. refl) (λ other. refl) holds
          (subst (λ o. IsKept world given o c.args.line.now) c.in-Elsewhere.is kept);
    }
