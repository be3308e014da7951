use Rattle.version_index.proofs.Names.{above_artifacts, no_artifact, one_of_a_lock, one_of_an_index}
use Rattle.version_index.proofs.law.one_library.Goals as goal

pub returns : goal.returns
returns c = record { file = one_of_an_index; lock = one_of_a_lock; apart = no_artifact; above = above_artifacts }
