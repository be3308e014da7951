use Rattle.effective.proofs.Imported.{put_together}
use Rattle.effective.proofs.law.imports_are_models.Goals as goal

pub returns : goal.returns
returns c = put_together
