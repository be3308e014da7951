use Rattle.std.proofs.Common.{◌≡◌, Bool, drop}
use Rattle.scripts.specs.Scripts.{Script, fetches, settled, steps}
use Rattle.scripts.proofs.script_place.absent_from.Given as goal

-- the files before this one are there
abbrev pub invariant-loop-at : goal.invariant-loop-at
invariant-loop-at l = (empty : Bool) (rest : Script) → settled l.there empty (steps 3 fetches (drop l.at l.files) rest) ≡ settled l.there empty (steps 3 fetches (drop l.from l.files) rest)
