use Rattle.std.proofs.Common.{w64, ℕ, ◌≡◌, ◌<◌, arith, ap, subst, unwrap_or}
use Rattle.std.specs.Int.{bit_at}
use Rattle.std.proofs.lemmas.Nat.Bits.{bit_at-trailing_zeros}
use Rattle.event_core.proofs.Fronts.{above_zero}
use Rattle.event_core.proofs.marks.lowest.Goals as goal

pub returns-else-word-eq0-clause-some : goal.returns-else-word-eq0-clause-some
returns-else-word-eq0-clause-some c = λ k e.
    subst (λ j. (j < 64) × (bit_at c.args.word j ≡ 1) × ((i : ℕ) → i < j → bit_at c.args.word i ≡ 0)) (ap (λ o. unwrap_or o 0) e)
    (bit_at-trailing_zeros w64 c.args.word (above_zero c.args.word c.if-word-eq0.false) (omega (arith, c.ranges.word.fits)))
