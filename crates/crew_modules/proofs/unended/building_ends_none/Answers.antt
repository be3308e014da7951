use Rattle.crew_modules.proofs.NoEnds.{ended_none}
use Rattle.crew_modules.proofs.unended.building_ends_none.Goals as goal

pub returns : goal.returns
returns c = λ plan past rest w number run before still. ended_none plan w number past rest run before still
