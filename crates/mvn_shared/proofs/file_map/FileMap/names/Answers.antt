use Rattle.std.proofs.Common.{◌++◌, ap, ◌∙◌}
use Rattle.mvn_shared.proofs.FileMaps.{keys_same}
use Rattle.mvn_shared.proofs.file_map.FileMap.names.Goals as goal

pub loop-name-init : goal.loop-name-init
loop-name-init c =
    ap (λ front. front ++ c.into_iter-name-iterator.result) c.new-names.ensures.items
    ∙ (c.into_iter-name-iterator.ensures.into_iter_gives ∙ c.keys-name-items.ensures.rest
    ∙ keys_same c.self.inside.files.entries c.args.self.now c.keys-name-items.ensures.ordered c.self.view_is)
