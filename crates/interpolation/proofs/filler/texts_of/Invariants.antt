use Rattle.std.proofs.Common.{◌≡◌, ℕ, List}
use Rattle.std.specs.HashMap.{get}
use Rattle.std.specs.Option.{option_or}
use Rattle.std.specs.Str.{bytes_eq}
use Rattle.std.specs.Vec.Iter.{into_iter_items}
use Rattle.interpolation.specs.Expressions.{last_named}
use Rattle.interpolation.proofs.filler.texts_of.Given as goal

abbrev pub invariant-loop-pair : goal.invariant-loop-pair
invariant-loop-pair l = (q : List ℕ) → option_or (last_named (into_iter_items l.pair-iterator) q) (get bytes_eq l.texts q) ≡ last_named l.fn.pairs q
