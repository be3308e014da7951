use Rattle.std.proofs.Common.{◌≡◌, ◌++◌, drop}
use Rattle.discovery.specs.Discovery.{listed}
use Rattle.discovery.proofs.modules.push_modules.Given as goal

abbrev pub invariant-loop-text : goal.invariant-loop-text
invariant-loop-text l = l.list ++ listed l.by (drop l.text-index l.modules) ≡ l.initial.list ++ listed l.by l.modules
