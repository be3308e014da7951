use Rattle.outside_real.proofs.Ways.{no_split, split_at_slash}
use Rattle.outside_real.proofs.settling.folder_of.Goals as goal

pub returns-in-Some : goal.returns-in-Some
returns-in-Some c =
    let s = c.in-Some.ensures.cases in
    split_at_slash c.args.name.now c.in-Some.above.now s.0 s.1 s.2 s.3

pub returns-in-None : goal.returns-in-None
returns-in-None c = no_split c.args.name.now c.in-None.ensures.cases
