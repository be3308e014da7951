use Rattle.std.proofs.Common.{◌≡◌, flat_map}
use Rattle.make_project.specs.Projects.{below, library_files}
use Rattle.make_project.proofs.repository.remote_files.Given as goal

-- the files of the libraries so far
abbrev pub invariant-loop-number : goal.invariant-loop-number
invariant-loop-number l = l.files ≡ flat_map library_files (below l.number)
