use Rattle.std.proofs.Common.{◌≡◌, drop}
use Rattle.interpolation.specs.Texts.{first_name}
use Rattle.interpolation.proofs.filler.first_name.Given as goal

abbrev pub invariant-loop-part : goal.invariant-loop-part
invariant-loop-part l = first_name (drop l.part-index l.list) ≡ first_name l.list
