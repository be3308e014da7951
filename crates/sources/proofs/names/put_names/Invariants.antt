use Rattle.std.proofs.Common.{◌≡◌}
use Rattle.std.specs.Vec.Iter.{into_iter_items}
use Rattle.sources.specs.Sources.{with_names}
use Rattle.sources.proofs.names.put_names.Given as goal

-- the set so far, with the names that are left
abbrev pub invariant-loop-name : goal.invariant-loop-name
invariant-loop-name l = with_names l.names (into_iter_items l.name-iterator) ≡ with_names l.fn.names l.fn.more
