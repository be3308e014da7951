use Rattle.std.proofs.Common.{◌≡◌, drop}
use Rattle.std.specs.List.{list_all}
use Rattle.scripts.specs.Scripts.{is_there}
use Rattle.scripts.proofs.script_place.all_there.Given as goal

-- the files before this one are there
abbrev pub invariant-loop-at : goal.invariant-loop-at
invariant-loop-at l = list_all (is_there l.there) (drop l.at l.files) ≡ list_all (is_there l.there) l.files
