use Rattle.std.proofs.Common.{◌≡◌, ◌++◌, drop}
use Rattle.inheritance.proofs.placing.push_copies.Given as goal

abbrev pub invariant-loop-plugin : goal.invariant-loop-plugin
invariant-loop-plugin l = l.list ++ drop l.plugin-index l.plugins ≡ l.initial.list ++ l.plugins
