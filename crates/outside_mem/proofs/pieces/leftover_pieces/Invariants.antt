use Rattle.std.proofs.Common.{◌≡◌, ℕ, drop, take}
use Rattle.std.specs.List.{slice_get}
use Rattle.std.specs.Option.{option_map}
use Rattle.std.specs.Ordering.{nat_cmp}
use Rattle.std.specs.BTreeMap.{get}
use Rattle.std.specs.Vec.Iter.{into_iter_items}
use Rattle.outside_mem.specs.Pieces.{leftover}
use Rattle.outside_mem.proofs.pieces.leftover_pieces.Given as goal

-- the first so many are pieces, and the rest is left
abbrev pub invariant-loop-number : goal.invariant-loop-number
invariant-loop-number l = record {
  rest : into_iter_items l.items ≡ drop l.number l.fn.list;
  made : (n : ℕ) → get nat_cmp l.pieces n ≡ option_map leftover (slice_get (take l.number l.fn.list) n);
}
