use Rattle.std.proofs.Common.{◌≡◌, map, drop}
use Rattle.std.specs.List.{list_any}
use Rattle.cli_words.specs.Options.{is_bad_selector}
use Rattle.cli_words.proofs.values.any_bad_selector.Given as goal

abbrev pub invariant-loop-selector : goal.invariant-loop-selector
invariant-loop-selector l = list_any is_bad_selector (map (λ x. x.now) l.selectors) ≡ list_any is_bad_selector (map (λ x. x.now) (drop l.selector-index l.selectors))
