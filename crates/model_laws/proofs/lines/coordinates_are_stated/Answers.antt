use Rattle.model_laws.proofs.Filled.{filled_stated}
use Rattle.model_laws.proofs.Rooted.{alone_stated}
use Rattle.model_laws.proofs.Stated.{lineage_stated}
use Rattle.model_laws.proofs.lines.coordinates_are_stated.Goals as goal

pub returns : goal.returns
returns c = record { alone = alone_stated; joined = lineage_stated; filled = filled_stated }
