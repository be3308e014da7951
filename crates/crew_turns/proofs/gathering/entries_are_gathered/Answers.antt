use Rattle.crew_turns.proofs.Beginnings as gathering
use Rattle.crew_turns.proofs.gathering.entries_are_gathered.Goals as goal

pub returns : goal.returns
returns c = record { begun = gathering.begun; more = gathering.more; all = gathering.all; within = gathering.within }
