use Rattle.std.proofs.Common.{◌≡◌, ◌++◌, map, drop}
use Rattle.lifecycle.specs.Bindings.{bound_plugin, row_view}
use Rattle.lifecycle.proofs.binding.bound_plugins.Given as goal

abbrev pub invariant-loop-name : goal.invariant-loop-name
invariant-loop-name l = l.plugins ++ map (bound_plugin (map row_view l.rows)) (drop l.name-index l.name-items) ≡ map (bound_plugin (map row_view l.rows)) l.name-items
