use Rattle.std.proofs.Common.{◌≡◌, ℕ, ◌<◌, true, false, length, refl, arith, ap, subst, unwrap_or}
use Rattle.std.specs.Int.{bit_at}
use Rattle.std.proofs.lemmas.List.{get_or_read}
use Rattle.event_core.specs.Fronts.{is_marked}
use Rattle.event_core.proofs.Fronts.{first_marked}
use Rattle.event_core.proofs.marks.Bits.first.Goals as goal

pub returns-in-Some-clause-some : goal.returns-in-Some-clause-some
returns-in-Some-clause-some c = λ k e.
    let words = c.args.self.now.words.items in
    let low : c.loop-word.word < length words = omega (arith, c.loop-word-test.true, c.len-word-end.ensures) in
    let read = get_or_read words c.loop-word.word c.index.result.now low c.index.ensures 0 in
    let found = subst (λ x. (c.in-Some.place < 64) × (bit_at x c.in-Some.place ≡ 1) × ((i : ℕ) → i < c.in-Some.place → bit_at x i ≡ 0)) read (c.in-Some.ensures.some c.in-Some.place refl) in
    subst (λ j. (is_marked words j ≡ true) × ((i : ℕ) → i < j → is_marked words i ≡ false)) (ap (λ o. unwrap_or o 0) e)
    (first_marked words c.loop-word.word c.in-Some.place c.loop-word.invariant found.0 found.1 found.2)
