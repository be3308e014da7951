-- What a repository in memory holds.
use Rattle.mvn_shared.specs.Files.{Files}
use Rattle.outside_mem.specs.declared.remote.MemRemote.{MemRemote}

abbrev pub remote_files : {F : Type 0} → MemRemote F → Files
remote_files remote = remote.files
