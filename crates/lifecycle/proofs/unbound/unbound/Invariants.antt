use Rattle.std.proofs.Common.{◌≡◌, ◌++◌, flat_map, drop}
use Rattle.lifecycle.specs.Goals.{declared, unbound, unbound_of}
use Rattle.lifecycle.proofs.unbound.unbound.Given as goal

abbrev pub invariant-loop-plugin : goal.invariant-loop-plugin
invariant-loop-plugin l = l.list ++ flat_map unbound_of (declared (drop l.plugin-index l.plugins)) ≡ unbound l.plugins
