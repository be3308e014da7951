use Rattle.std.proofs.Common.{◌≡◌, drop}
use Rattle.lineage.proofs.Expressions.{opens_expression}
use Rattle.mvn_base.specs.Names.{has_expression}
use Rattle.lineage.proofs.expression.has_expression.Given as goal

-- what is left, with the dollar before it, says of an expression what the whole text does
abbrev pub invariant-loop-b : goal.invariant-loop-b
invariant-loop-b l = opens_expression l.after_dollar (drop l.b-index l.text) ≡ has_expression l.text
