use Rattle.std.proofs.Common.{map, option_and_then, slice_get}
use Rattle.model_merge.specs.Names.{count_in}
use Rattle.model_merge.proofs.Pairing.{IsPairedTo}
use Rattle.model_merge.proofs.configuration.partner_places.Given as goal

abbrev pub invariant-loop-setting : goal.invariant-loop-setting
invariant-loop-setting l = IsPairedTo l.child l.parent l.setting-index (count_in l.counts) (map (option_and_then (slice_get l.parent)) l.list.items)
