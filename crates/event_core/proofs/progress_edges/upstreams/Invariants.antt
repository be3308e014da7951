use Rattle.std.proofs.Common.{◌≡◌, ◌++◌, map, drop}
use Rattle.scripts.specs.declared.outline.ModuleOutline.{ModuleOutline}
use Rattle.event_core.proofs.progress_edges.upstreams.Given as goal

abbrev pub invariant-loop-at : goal.invariant-loop-at
invariant-loop-at l = l.lists.items ++ map (λ (m : ModuleOutline). m.upstream) (drop l.at l.modules) ≡ map (λ (m : ModuleOutline). m.upstream) l.modules
