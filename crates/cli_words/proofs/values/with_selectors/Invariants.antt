use Rattle.std.proofs.Common.{◌≡◌, ◌++◌, map, take}
use Rattle.cli_words.specs.Options.{selector}
use Rattle.cli_words.proofs.values.with_selectors.Given as goal

abbrev pub invariant-loop-selector : goal.invariant-loop-selector
invariant-loop-selector l = l.projects ≡ l.initial.projects ++ map (selector l.at) (map (λ x. x.now) (take l.selector-index l.selector-items))
