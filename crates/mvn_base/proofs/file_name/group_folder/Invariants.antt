use Rattle.std.proofs.Common.{◌≡◌, map, take}
use Rattle.std.specs.String.{string_bytes}
use Rattle.mvn_base.specs.FileName.{folder_byte}
use Rattle.mvn_base.proofs.file_name.group_folder.Given as goal

abbrev pub invariant-loop-b : goal.invariant-loop-b
invariant-loop-b l = string_bytes l.folder ≡ map folder_byte (take l.b-index l.group)
