-- The files of a list of named files.
use Rattle.std.specs.Prelude.{List, fold}
use Rattle.std.specs.FinMap as map
use Rattle.mvn_shared.specs.Files.{Files}
use Rattle.outside_mem.specs.declared.remote.MemFile.{MemFile}

-- one file more
abbrev pub with_named : Files → MemFile → Files
with_named files file = map.insert files file.name file.bytes

-- one put after another: of two with one name the later counts
abbrev pub files_named : List MemFile → Files
files_named files = fold with_named map.empty files
