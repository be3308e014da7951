use Rattle.std.proofs.Common.{ap, ◌∙◌}
use Rattle.std.specs.FinMap as map
use Rattle.mvn_shared.proofs.FileMaps.{one_put}
use Rattle.mvn_shared.proofs.file_map.FileMap.insert.Goals as goal

pub returns-clause-ok : goal.returns-clause-ok
returns-clause-ok c =
    one_put c.self.inside.files.entries c.insert.new.self.entries c.args.name c.args.bytes c.in_ok-insert.ensures.updates.0
    ∙ ap (λ m. map.insert m c.args.name c.args.bytes) c.self.view_is
