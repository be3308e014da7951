use Rattle.outside_real.specs.Ways.{Keeps}
use Rattle.outside_real.proofs.folders.make_folders.Given as goal

-- what was noted before the loop is noted
abbrev pub invariant-loop-folder : goal.invariant-loop-folder
invariant-loop-folder g l = Keeps l.initial.changed l.changed
