use Rattle.std.proofs.Common.{◌≡◌, ◌++◌, drop}
use Rattle.profiles.proofs.contents.push_all.Given as goal

abbrev pub invariant-loop-item : goal.invariant-loop-item
invariant-loop-item g l = l.list ++ drop l.item-index l.items ≡ l.initial.list ++ l.items
