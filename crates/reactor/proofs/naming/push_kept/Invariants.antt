use Rattle.std.proofs.Common.{◌≡◌, ◌++◌, drop}
use Rattle.std.specs.Prelude.{filter}
use Rattle.std.specs.Option.{option_copied}
use Rattle.reactor.specs.Edges.{edges_to}
use Rattle.reactor.specs.Index.{passes_at}
use Rattle.reactor.specs.Naming.{is_named}
use Rattle.reactor.proofs.naming.push_kept.Given as goal

abbrev pub invariant-loop-number : goal.invariant-loop-number
invariant-loop-number l = l.edges.items ++ edges_to l.from (filter (passes_at l.modules (is_named l.group l.artifact (option_copied l.version))) (drop l.number-index l.numbers)) ≡ l.initial.edges.items ++ edges_to l.from (filter (passes_at l.modules (is_named l.group l.artifact (option_copied l.version))) l.numbers)
