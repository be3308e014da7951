use Rattle.std.proofs.Common.{refl}
use Rattle.effective.proofs.Storing.{import_put}
use Rattle.effective.proofs.run_store.RunStore.keep_import.Goals as goal

pub returns : goal.returns
returns c = λ world given holds is.
    import_put world given c.set_import.result c.args.self.now _ c.args.gav.now c.args.import.now refl c.set_import.ensures.ok c.set_import.ensures.err holds is
