use Rattle.std.proofs.Common.{◌≡◌, drop}
use Rattle.scripts.specs.declared.deed.Deed.TheVariants.{Publish}
use Rattle.scripts.specs.Scripts.{Script, done, may_publish, steps}
use Rattle.scripts.proofs.script_place.place_from.Given as goal

-- the files before this one are others
abbrev pub invariant-loop-at : goal.invariant-loop-at
invariant-loop-at l = (rest : Script) → done (steps 6 may_publish (drop l.at l.files) rest) (Publish l.file) ≡ done (steps 6 may_publish (drop l.from l.files) rest) (Publish l.file)
