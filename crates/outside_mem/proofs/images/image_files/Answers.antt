use Rattle.std.proofs.Common.{ap, ◌∙◌}
use Rattle.outside_mem.specs.FilesNamed.{files_named}
use Rattle.outside_mem.proofs.Moments.{made_files}
use Rattle.outside_mem.proofs.images.image_files.Goals as goal

pub returns : goal.returns
returns c =
    ap files_named c.of.ensures
    ∙ made_files c.args.given.now c.args.settled.now c.args.later.now c.args.newest.now c.in_ok-files.files.items c.add_all.new.files.items c.add_named.new.files.items c.as_slice.result.now
    c.in_ok-files.ensures c.in_ok-add_all.ensures (c.as_slice.ensures.value ∙ c.in_ok-names.ensures) c.in_ok-add_named.ensures
