use Rattle.run_law.proofs.Settling.{choosing, fetching, late}
use Rattle.run_law.proofs.crew_scripts.absent_files_decide.Goals as goal

pub returns : goal.returns
returns c = record {
  choosing = λ m there empty found is. choosing m there empty found is;
  fetching = λ m there empty from found is. fetching m there empty from found is;
  late = λ m place there empty is. late m there empty place is;
}
