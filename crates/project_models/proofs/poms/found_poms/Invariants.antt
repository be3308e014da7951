use Rattle.std.proofs.Common.{◌≡◌, ◌++◌, map}
use Rattle.std.specs.Vec.Iter.{into_iter_items}
use Rattle.project_models.specs.Found.{with_own_text}
use Rattle.project_models.proofs.poms.found_poms.Given as goal

abbrev pub invariant-loop-listed : goal.invariant-loop-listed
invariant-loop-listed l = l.poms ++ map with_own_text (into_iter_items l.listed-iterator) ≡ map with_own_text l.fn.modules
