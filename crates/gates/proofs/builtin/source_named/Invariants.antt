use Rattle.std.proofs.Common.{◌≡◌, drop, find}
use Rattle.gates.specs.Builtin.{is_named}
use Rattle.gates.proofs.builtin.source_named.Given as goal

-- the source is among those that are left where it is among all
abbrev pub invariant-loop-source : goal.invariant-loop-source
invariant-loop-source l = find (λ s. is_named l.name s.path) (drop l.source-index l.sources) ≡ find (λ s. is_named l.name s.path) l.sources
