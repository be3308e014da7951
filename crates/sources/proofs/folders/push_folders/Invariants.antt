use Rattle.std.proofs.Common.{◌≡◌, ◌++◌, drop, filter_map}
use Rattle.sources.specs.Folders.{folder_in}
use Rattle.sources.proofs.folders.push_folders.Given as goal

-- the folders so far, and those that are left
abbrev pub invariant-loop-folder : goal.invariant-loop-folder
invariant-loop-folder l = l.list ++ filter_map (folder_in l.root) (drop l.folder-index l.folders) ≡ l.initial.list ++ filter_map (folder_in l.root) l.folders
