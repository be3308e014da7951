use Rattle.std.proofs.Common.{◌∙◌}
use Rattle.std.proofs.lemmas.List.Filters.{dedup_is}
use Rattle.version_index.proofs.Sorting.{set_of_sorted}
use Rattle.version_index.proofs.set.sorted.Goals as goal

pub returns : goal.returns
returns c = c.of.ensures ∙ dedup_is _ _ _ c.dedup.ensures.filtered ∙ set_of_sorted _ _ c.sort_unstable.ensures.permutation c.sort_unstable.ensures.sorted
