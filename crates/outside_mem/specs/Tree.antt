-- What a tree in memory holds.
use Rattle.std.specs.Prelude.{List, fold}
use Rattle.std.specs.FinMap as map
use Rattle.mvn_shared.specs.Files.{Files}
use Rattle.goal_types.specs.declared.goal.SourceFile.{SourceFile}
use Rattle.outside_mem.specs.declared.tree.MemTree.{MemTree}

abbrev pub tree_files : {F : Type 0} → MemTree F → Files
tree_files tree = tree.files

-- one file more
abbrev pub with_file : Files → SourceFile → Files
with_file files file = map.insert files file.path file.bytes

-- the files of a list, one put after another: of two with one path the later counts
abbrev pub files_of : List SourceFile → Files
files_of files = fold with_file map.empty files
