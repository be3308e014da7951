use Rattle.std.specs.Option.{option_copied}
use Rattle.interpolation.specs.Filling.{fill}
use Rattle.interpolation.proofs.Refusals.{fill_tells}
use Rattle.interpolation.proofs.model.fill.Goals as goal

pub returns : goal.returns
returns c =
    let raw = c.args.raw.now in
    let basedir = option_copied c.args.basedir in
    c.in_pom.ensures (fill raw basedir c.args.machine.now c.args.defines.now)
    (fill_tells raw basedir c.args.machine.now c.args.defines.now c.in_ok-list.list c.in-Err.fault c.in_ok-list.ensures (c.in-Err.ensures c.in_ok-list.list c.in_ok-filler.ensures))
