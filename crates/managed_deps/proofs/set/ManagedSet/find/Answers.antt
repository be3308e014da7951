use Rattle.std.specs.Option.{option_copied}
use Rattle.managed_deps.proofs.Entries.{row_there}
use Rattle.managed_deps.proofs.set.ManagedSet.find.Goals as goal

pub returns : goal.returns
returns c = row_there c.self.inside.rows.keys c.args.self.now c.args.key.now (option_copied c.row_of.result) c.row_of.ensures c.self.view_is
