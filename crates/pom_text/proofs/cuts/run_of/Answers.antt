use Rattle.pom_text.proofs.RunCuts.{run_cut}
use Rattle.pom_text.proofs.cuts.run_of.Goals as goal

pub returns : goal.returns
returns c = run_cut c.args.text.now c.split_at.result.0.now c.split_at.result.1.now c.run_len.result c.utf8.text c.run_len.ensures.len c.split_at.ensures.front c.split_at.ensures.back
