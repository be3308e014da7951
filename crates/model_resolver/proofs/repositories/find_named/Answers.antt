use Rattle.std.proofs.Common.{ℕ}
use Rattle.model_resolver.specs.Devices.{Counts}
use Rattle.model_resolver.proofs.Counting.{counted_twice}
use Rattle.model_resolver.proofs.repositories.find_named.Goals as goal

pub returns-in-Ok-None-clause-counted : goal.returns-in-Ok-None-clause-counted
returns-in-Ok-None-clause-counted g c = λ tree.
    let counts : ℕ → ℕ → Counts = λ s r. record { tree = tree; shelf = s; remote = r } in
    let shelf = g.S.Shelf.faults c.find_local.new.shelf in
    let before = g.R.Remote.faults c.args.remote.now in
    counted_twice c.args.failures.now.first c.find_local.new.failures.first c.find_remote.new.failures.first
    (counts (g.S.Shelf.faults c.args.shelf.now) before) (counts shelf before) (counts shelf (g.R.Remote.faults c.find_remote.new.remote))
    (c.in-Ok-None.ensures.counted tree before) (c.find_remote.ensures.counted tree shelf)
