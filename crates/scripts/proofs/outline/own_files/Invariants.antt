use Rattle.std.proofs.Common.{◌≡◌, ◌++◌, map, drop}
use Rattle.scripts.proofs.outline.own_files.Given as goal

abbrev pub invariant-loop-at : goal.invariant-loop-at
invariant-loop-at l = l.files ++ map (λ o. o.file) (drop l.at l.own) ≡ map (λ o. o.file) l.own
