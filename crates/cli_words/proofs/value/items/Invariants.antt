use Rattle.std.proofs.Common.{◌≡◌, ◌++◌, map, flat_map, drop}
use Rattle.cli_words.specs.Options.{item, items}
use Rattle.cli_words.proofs.value.items.Given as goal

abbrev pub invariant-loop-part : goal.invariant-loop-part
invariant-loop-part l = items l.value ≡ map (λ x. x.now) l.items.items ++ flat_map item (map (λ x. x.now) (drop l.part-index l.part-items))
