use Rattle.std.proofs.Common.{◌≡◌, ◌≤◌, ◌++◌, flat_map}
use Rattle.make_project.specs.Poms.{numbers}
use Rattle.make_project.specs.Projects.{module_files}
use Rattle.make_project.proofs.tree.push_modules.Given as goal

-- the files of the modules so far
abbrev pub invariant-loop-number : goal.invariant-loop-number
invariant-loop-number l = (l.files ≡ l.fn.files ++ flat_map module_files (numbers l.number)) × (1 ≤ l.number) × (l.number ≤ l.poms)
