use Rattle.std.proofs.Common.{◌≡◌, ◌++◌, map, drop}
use Rattle.model_steps.specs.Folders.{placed}
use Rattle.model_steps.proofs.folders.placed_each.Given as goal

abbrev pub invariant-loop-folder : goal.invariant-loop-folder
invariant-loop-folder l = l.paths ++ map (placed l.basedir) (drop l.folder-index l.folder-items) ≡ map (placed l.basedir) l.folder-items
