use Rattle.std.proofs.Common.{◌≡◌, ◌++◌, map, drop}
use Rattle.scripts.specs.Outlines.{module_outline}
use Rattle.scripts.proofs.outline.modules_of.Given as goal

abbrev pub invariant-loop-at : goal.invariant-loop-at
invariant-loop-at l = l.outlines ++ map module_outline (drop l.at l.modules) ≡ map module_outline l.modules
