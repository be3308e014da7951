use Rattle.std.proofs.Common.{◌≡◌, drop}
use Rattle.std.specs.List.{list_any}
use Rattle.pom_model.specs.Faults.{is_combine}
use Rattle.pom_model.proofs.walk.combines.Given as goal

abbrev pub invariant-loop-name : goal.invariant-loop-name
invariant-loop-name l = list_any is_combine (drop l.name-index l.name-items) ≡ list_any is_combine l.name-items
