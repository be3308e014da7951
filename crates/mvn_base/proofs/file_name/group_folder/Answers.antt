use Rattle.mvn_base.proofs.FileNames.{group_ascii}
use Rattle.mvn_base.proofs.file_name.group_folder.Goals as goal

pub folder_char-requires : goal.folder_char-requires
folder_char-requires c = group_ascii c.args.group.now c.loop-b.b-index c.requires c.loop-b-test.true
