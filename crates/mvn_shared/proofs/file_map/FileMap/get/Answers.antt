use Rattle.std.proofs.Common.{sym, ap, ◌∙◌}
use Rattle.std.specs.FinMap as map
use Rattle.mvn_shared.proofs.FileMaps.{get_file}
use Rattle.mvn_shared.proofs.file_map.FileMap.get.Goals as goal

pub returns : goal.returns
returns c =
    c.get.ensures.value ∙ sym (get_file c.self.inside.files.entries c.args.name.now)
    ∙ ap (λ m. map.get m c.args.name.now) c.self.view_is
