use Rattle.std.proofs.Common.{[], Ok, Err, refl}
use Rattle.lineage.proofs.Joining.{as_parent, at_path, unasked_as}
use Rattle.lineage.proofs.stored.as_parent.Goals as goal

pub returns-in-Ok-clause-says : goal.returns-in-Ok-clause-says
returns-in-Ok-clause-says g c = λ world fits holds at.
    as_parent world c.args.given.now _ c.args.path.now c.args.raw.now [] c.in_ok-origin.origin (Ok c.in-Ok.line) c.requires.parent refl c.in_ok-origin.ensures
    (c.in-Ok.ensures.says world fits holds (at_path world c.args.path.now c.args.raw.now c.in_ok-origin.origin c.in_ok-origin.ensures at))

pub returns-in-Ok-clause-unasked : goal.returns-in-Ok-clause-unasked
returns-in-Ok-clause-unasked g c =
    unasked_as _ c.args.store.now c.args.path.now c.args.raw.now [] c.in_ok-origin.origin refl c.in_ok-origin.ensures c.in-Ok.ensures.unasked

pub returns-clause-says : goal.returns-clause-says
returns-clause-says g c = λ world fits holds at.
    as_parent world c.args.given.now _ c.args.path.now c.args.raw.now [] c.in_ok-origin.origin (Err c.in-Err.fault) c.requires.parent refl c.in_ok-origin.ensures
    (c.in-Err.ensures.says world fits holds (at_path world c.args.path.now c.args.raw.now c.in_ok-origin.origin c.in_ok-origin.ensures at))

pub returns-clause-unasked : goal.returns-clause-unasked
returns-clause-unasked g c =
    unasked_as _ c.args.store.now c.args.path.now c.args.raw.now [] c.in_ok-origin.origin refl c.in_ok-origin.ensures c.in-Err.ensures.unasked
