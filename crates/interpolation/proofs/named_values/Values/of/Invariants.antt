use Rattle.std.proofs.Common.{◌≡◌, ℕ, List, drop}
use Rattle.std.specs.Option.{option_or}
use Rattle.interpolation.specs.Expressions.{last_named, value_of}
use Rattle.interpolation.proofs.named_values.Values.of.Given as goal

abbrev pub invariant-loop-pair : goal.invariant-loop-pair
invariant-loop-pair l = (q : List ℕ) → option_or (last_named (drop l.pair-index l.pairs) q) (value_of l.values q) ≡ last_named l.pairs q
