use Rattle.std.proofs.Common.{◌<◌, get_or, refl, subst, arith}
use Rattle.std.proofs.lemmas.Bool.{false≢true}
use Rattle.reactor_order.proofs.Marking.{has_at}
use Rattle.reactor_order.proofs.Reaching.{stands}
use Rattle.reactor_order.proofs.below.modules_below.Goals as goal

pub returns-then-m-n : goal.returns-then-m-n
returns-then-m-n c = (
  λ e. absurd (false≢true e),
  λ below.
      absurd (never (omega (arith, c.if-m-n.true, below (get_or c.args.modules.now c.loop-m.m-index 0) (has_at c.args.modules.now c.loop-m.m-index 0 c.loop-m-test.true)))),
)
  where
    never : ⊥ → ⊥
    never e = e

pub returns : goal.returns
returns c = (
  λ _ m there.
      let s = stands c.args.modules.now m there in
      subst (λ k. k < c.args.n) s.is (c.loop-m.invariant s.place (omega (arith, s.within, c.loop-m-test.false))),
  λ _. refl,
)
