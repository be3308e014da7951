use Rattle.std.proofs.Common.{ℕ}
use Rattle.model_resolver.specs.Devices.{Counts}
use Rattle.model_resolver.proofs.Counting.{counted_twice}
use Rattle.project_libraries.proofs.Joining.{available_of}
use Rattle.project_libraries.proofs.available_versions.available.Goals as goal

pub returns-in-Ok-clause-tells : goal.returns-in-Ok-clause-tells
returns-in-Ok-clause-tells g c =
    available_of (g.S.Shelf.told c.args.shelf.now) (g.R.Remote.files c.args.remote.now) c.args.own.now c.args.group.now c.args.artifact.now c.in_ok-list.list c.in-Ok.local c.with_remote.result
    c.in_ok-list.ensures c.in-Ok.ensures.tells c.with_remote.ensures.tells

pub returns-in-Ok-clause-counted : goal.returns-in-Ok-clause-counted
returns-in-Ok-clause-counted g c = λ tree.
    let counts : ℕ → ℕ → Counts = λ s r. record { tree = tree; shelf = s; remote = r } in
    let shelf = g.S.Shelf.faults c.local_versions.new.shelf in
    let before = g.R.Remote.faults c.args.remote.now in
    counted_twice c.args.failures.now.first c.local_versions.new.failures.first c.with_remote.new.failures.first
    (counts (g.S.Shelf.faults c.args.shelf.now) before) (counts shelf before) (counts shelf (g.R.Remote.faults c.with_remote.new.remote))
    (c.in-Ok.ensures.counted tree before) (c.with_remote.ensures.counted tree shelf)
