use Rattle.model_laws.proofs.Composed.{key_applied, scope_stays, version_stays}
use Rattle.model_laws.proofs.composing.stated_version_stays.Goals as goal

pub returns : goal.returns
returns c = record { key = key_applied; version = version_stays; scope = scope_stays }
