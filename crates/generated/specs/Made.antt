-- What stands outside of a build of the generated project: all of it is made, in memory. Project rule.
use Rattle.std.specs.Prelude.{ℕ, true, [], replicate, Some}
use Rattle.std.specs.FinMap as map
use Rattle.mvn_shared.specs.Files.{Files}
use Rattle.mvn_outside.specs.declared.shelf.ShelfTold.{ShelfTold}
use Rattle.gates.specs.Builtin.{builtin, same_answer}
use Rattle.crew_turns.specs.Hands.{HandState, told_by}
use Rattle.build_outcome.specs.Left.{Outside}
use Rattle.outside_mem.specs.FilesNamed.{files_named}
use Rattle.outside_mem.specs.Tree.{files_of}
use Rattle.make_project.specs.Projects.{project_files, remote_files}

-- the project, and the remote repository
abbrev pub project : (poms : ℕ) → Files
project poms = files_of (project_files poms)

abbrev pub remote : Files
remote = files_named remote_files

-- a hand that tells these files of its remote repository, whose area is empty and whose goals are the built-in ones; no device failed
abbrev pub fresh_hand : Files → HandState
fresh_hand files = record {
  told = told_by (Some files) true (Some (λ request answer. same_answer (builtin request) answer));
  remote = 0;
  area = 0;
  gate = 0;
  pieces = map.empty;
}

abbrev pub empty_shelf : ShelfTold
empty_shelf = record { opening = map.empty; publishes = []; settled = 0 }

-- an empty repository, and so many such hands
abbrev pub made : (hands : ℕ) → Outside
made hands = record {
  shelf = Some empty_shelf;
  faults = 0;
  hands = replicate hands (fresh_hand remote);
}
