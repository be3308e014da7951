use Rattle.crew_turns.proofs.PathFirsts as firsts
use Rattle.crew_turns.proofs.gathering.first_entry_decides.Goals as goal

pub returns : goal.returns
returns c = record { again = firsts.again; fresh = firsts.fresh }
