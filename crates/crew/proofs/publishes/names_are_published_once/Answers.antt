use Rattle.crew.proofs.Names.{once, told_contents}
use Rattle.crew.proofs.publishes.names_are_published_once.Goals as goal

pub returns : goal.returns
returns c = record { once = once; files = told_contents }
