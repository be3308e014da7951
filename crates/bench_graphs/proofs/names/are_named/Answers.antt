use Rattle.std.proofs.Common.{subst, arith, ◌∙◌}
use Rattle.std.proofs.lemmas.List.{take_all}
use Rattle.std.proofs.lemmas.List.Elements.{All-more}
use Rattle.std.specs.List.{All}
use Rattle.classpaths.specs.Classpaths.{HasNames}
use Rattle.bench_graphs.proofs.names.are_named.Goals as goal

pub loop-winner-preserved : goal.loop-winner-preserved
loop-winner-preserved c = All-more HasNames c.args.winners.now c.loop-winner.winner-index c.winner-item.result c.loop-winner-test.true c.loop-winner.invariant (subst HasNames (c.deref.ensures ∙ c.winner-item.is) (c.is_named.ensures c.if-not-is_named.false))

pub returns : goal.returns
returns c = λ is. subst (All HasNames) (take_all c.loop-winner.winner-index c.args.winners.now (omega arith)) c.loop-winner.invariant
