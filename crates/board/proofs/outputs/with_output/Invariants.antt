use Rattle.std.proofs.Common.{◌≡◌, ◌++◌, filter}
use Rattle.std.specs.Vec.Iter.{into_iter_items}
use Rattle.build_core.specs.Slots.{is_below, is_above}
use Rattle.board.proofs.outputs.with_output.Given as goal

-- what is below so far and in the rest, and above
abbrev pub invariant-loop-output : goal.invariant-loop-output
invariant-loop-output l = record {
  below : l.below.items ++ filter (is_below l.slot) (into_iter_items l.output-iterator) ≡ filter (is_below l.slot) l.fn.own;
  above : l.above.items ++ filter (is_above l.slot) (into_iter_items l.output-iterator) ≡ filter (is_above l.slot) l.fn.own;
}
