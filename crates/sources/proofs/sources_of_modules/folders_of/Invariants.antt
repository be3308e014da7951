use Rattle.std.proofs.Common.{◌≡◌, ◌++◌, drop}
use Rattle.sources.specs.Modules.{folders_of}
use Rattle.sources.proofs.sources_of_modules.folders_of.Given as goal

-- the folders so far, and those of the modules that are left
abbrev pub invariant-loop-model : goal.invariant-loop-model
invariant-loop-model l = l.folders ++ folders_of l.root (drop l.model-index l.models) ≡ folders_of l.root l.models
