use Rattle.profiles.proofs.Prefixes.{behind_cases}
use Rattle.profiles.proofs.lookup.behind.Goals as goal

pub returns : goal.returns
returns c = behind_cases c.args.front.now c.args.text.now c.strip_prefix.result c.strip_prefix.ensures.cases
