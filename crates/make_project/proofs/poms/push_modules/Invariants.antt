use Rattle.std.proofs.Common.{◌≡◌, ◌≤◌, ◌++◌, flat_map}
use Rattle.make_project.specs.Poms.{module_element, numbers}
use Rattle.make_project.proofs.poms.push_modules.Given as goal

-- the modules so far
abbrev pub invariant-loop-number : goal.invariant-loop-number
invariant-loop-number l = (l.out.items ≡ l.fn.out.items ++ flat_map module_element (numbers l.number)) × (1 ≤ l.number) × (l.number ≤ l.poms)
