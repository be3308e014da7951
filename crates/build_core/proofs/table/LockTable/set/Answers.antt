use Rattle.std.proofs.Common.{◌<◌, refl, length, arith, sym, ap, ◌∙◌}
use Rattle.std.specs.Vec.{with_item}
use Rattle.build_core.specs.Locks.{with_hold}
use Rattle.build_core.proofs.Tables.{set_row}
use Rattle.build_core.proofs.table.LockTable.set.Goals as goal

pub returns : goal.returns
returns c =
    let held = c.self.inside.held.items in
    let view = sym c.self.view_is in
    let low : c.args.name < length held = omega (arith, c.requires.0, ap (λ t. t.0) view, c.self.invariant.0) in
    (λ i. (c.self.inside.names, c.self.inside.workers, set_row (λ r. r.items) held c.args.name c.args.worker c.args.mode c.index_mut.result.now (with_item c.index_mut.result.now c.args.worker c.args.mode) low c.index_mut.ensures.value refl i))
    ∙ ap (λ t. with_hold t c.args.name c.args.worker c.args.mode) (sym view)
