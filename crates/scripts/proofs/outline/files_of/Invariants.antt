use Rattle.std.proofs.Common.{◌≡◌, ◌++◌, drop}
use Rattle.scripts.specs.Outlines.{files_of}
use Rattle.scripts.proofs.outline.files_of.Given as goal

-- the files of the entries before this one are there
abbrev pub invariant-loop-at : goal.invariant-loop-at
invariant-loop-at l = l.files ++ files_of (drop l.at l.entries) ≡ files_of l.entries
