use Rattle.std.proofs.Common.{ap, ◌∙◌}
use Rattle.managed_deps.specs.Managed.{all_entries, find_pair}
use Rattle.managed_deps.proofs.Entries.{found}
use Rattle.managed_deps.proofs.set.managed.Goals as goal

pub returns-clause-found : goal.returns-clause-found
returns-clause-found c = λ key. ap (λ s. find_pair s key) c.in_ok-set.ensures ∙ found (all_entries c.args.own.now c.args.imports.now) key
