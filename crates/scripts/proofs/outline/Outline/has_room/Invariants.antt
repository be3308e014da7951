use Rattle.std.proofs.Common.{◌≡◌, ◌<◌, ◌≤◌, ◌+◌, ◌^◌, drop}
use Rattle.scripts.specs.Bounds.{module_events, total}
use Rattle.scripts.proofs.outline.Outline.has_room.Given as goal

-- the modules before this one are counted, and there is room for them
abbrev pub invariant-loop-at : goal.invariant-loop-at
invariant-loop-at l = (l.total + total module_events (drop l.at l.self.modules) ≡ total module_events l.self.modules) × (l.total ≤ l.events) × (l.events ≡ l.self.events) × (l.events < 2 ^ 64)
