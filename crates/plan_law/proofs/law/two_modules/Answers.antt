use Rattle.plan_law.proofs.Worked.{entries, fetch, files, names, ordered}
use Rattle.plan_law.proofs.law.two_modules.Goals as goal

pub returns : goal.returns
returns c = record { ordered = ordered; names = names; files = files; fetch = fetch; entries = entries }
