use Rattle.std.proofs.Common.{Ok, subst, ◌∙◌}
use Rattle.std.specs.Vec.Iter.{into_iter_len}
use Rattle.interpolation.specs.Tables.{TurnCounts, Turns, fresh_count}
use Rattle.interpolation.specs.declared.filler.Turn.TheVariants.{Goes}
use Rattle.interpolation.proofs.filler.Filler.run.Goals as goal

pub loop-next-preserved : goal.loop-next-preserved
loop-next-preserved c =
    let before = c.loop-next.invariant in
    let counts : TurnCounts (into_iter_len c.loop-next.step.rest) (fresh_count c.loop-next.self) (fresh_count c.turn.new.self) (Ok (Goes c.in-Goes.next)) = subst (λ t. TurnCounts (into_iter_len c.loop-next.step.rest) (fresh_count c.loop-next.self) (fresh_count c.turn.new.self) (Ok t)) c.in-Goes.is c.in_ok-next.ensures.count in (
      counts.1 ∙ before.0,
      λ known seen table is.
          let so = before.1 known seen table is in
          let turns : Turns known seen c.loop-next.step c.turn.new.self (Ok (Goes c.in-Goes.next)) = subst (λ t. Turns known seen c.loop-next.step c.turn.new.self (Ok t)) c.in-Goes.is (c.in_ok-next.ensures.says known seen so.2 so.1) in
          (turns.0 ∙ so.0, turns.1, turns.2),
    )
