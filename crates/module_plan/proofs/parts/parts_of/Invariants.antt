use Rattle.std.proofs.Common.{◌≡◌, ◌++◌}
use Rattle.std.specs.Vec.Iter.{into_iter_items}
use Rattle.module_plan.specs.Parts.{parts_of}
use Rattle.module_plan.proofs.parts.parts_of.Given as goal

-- the modules so far, and those that are left
abbrev pub invariant-loop-ready : goal.invariant-loop-ready
invariant-loop-ready l = record {
  modules : l.parts.modules ++ (parts_of l.built l.names l.files (into_iter_items l.ready-iterator)).modules ≡ (parts_of l.built l.names l.files l.fn.modules).modules;
  models : l.parts.models ++ (parts_of l.built l.names l.files (into_iter_items l.ready-iterator)).models ≡ (parts_of l.built l.names l.files l.fn.modules).models;
  resolutions : l.parts.resolutions ++ (parts_of l.built l.names l.files (into_iter_items l.ready-iterator)).resolutions ≡ (parts_of l.built l.names l.files l.fn.modules).resolutions;
  unbound : l.parts.unbound ++ (parts_of l.built l.names l.files (into_iter_items l.ready-iterator)).unbound ≡ (parts_of l.built l.names l.files l.fn.modules).unbound;
}
