use Rattle.std.proofs.Common.{◌∙◌, arith, drop}
use Rattle.outside_mem.specs.Image.{chosen}
use Rattle.outside_mem.proofs.Moments.{chosen_end, nothing_more}
use Rattle.outside_mem.proofs.images.chosen.Goals as goal

pub returns-then-at-newest : goal.returns-then-at-newest
returns-then-at-newest c =
    let names = c.args.names.now in
    let newest = c.args.newest.now in
    nothing_more c.loop-at.found.items (chosen (drop c.loop-at.at names) (drop c.loop-at.at newest)) (chosen_end names newest c.loop-at.at (omega (c.if-at-newest.true, arith)))
    ∙ c.loop-at.invariant
