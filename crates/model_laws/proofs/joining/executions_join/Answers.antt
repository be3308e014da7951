use Rattle.model_merge.specs.Keys.{key_of_execution}
use Rattle.model_merge.specs.Merging.{merged_execution}
use Rattle.model_laws.proofs.Merges.{item_merged, join_merged}
use Rattle.model_laws.proofs.Plugins.{execution_keeps}
use Rattle.model_laws.proofs.joining.executions_join.Goals as goal

pub returns : goal.returns
returns c = record { ids = join_merged key_of_execution merged_execution execution_keeps; found = item_merged key_of_execution merged_execution execution_keeps }
