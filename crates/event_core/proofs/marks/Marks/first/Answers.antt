use Rattle.std.proofs.Common.{◌≡◌, ℕ, ◌<◌, true, false, length, refl, arith, ap, subst, unwrap_or, sym, ◌∙◌}
use Rattle.std.specs.Int.{bit_at}
use Rattle.std.proofs.lemmas.List.{get_or_past, get_or_read}
use Rattle.event_core.specs.Fronts.{is_marked}
use Rattle.event_core.proofs.Fronts.{first_marked, no_word, word_zero}
use Rattle.event_core.proofs.marks.Marks.first.Goals as goal

pub returns-then-word-len-clause-none : goal.returns-then-word-len-clause-none
returns-then-word-len-clause-none c = λ none k.
    let me = c.args.self.now in
    let is = (c.in-Some.ensures.some c.in-Some.word refl).0 in
    absurd (no_word me.words.items me.groups.words.items c.in-Some.word me.grouped is (get_or_past me.words.items c.in-Some.word 0 (omega (arith, c.if-word-len.true, c.len.ensures))))

pub returns-in-Some-lowest-clause-some : goal.returns-in-Some-lowest-clause-some
returns-in-Some-lowest-clause-some c = λ k e.
    let me = c.args.self.now in
    let words = me.words.items in
    let low : c.in-Some.word < length words = omega (arith, c.if-word-len.false, c.len.ensures) in
    let read = get_or_read words c.in-Some.word c.index.result.now low c.index.ensures 0 in
    let group = c.in-Some.ensures.some c.in-Some.word refl in
    let found = subst (λ x. (c.in-Some-lowest.place < 64) × (bit_at x c.in-Some-lowest.place ≡ 1) × ((i : ℕ) → i < c.in-Some-lowest.place → bit_at x i ≡ 0)) read (c.in-Some-lowest.ensures.some c.in-Some-lowest.place refl) in
    subst (λ j. (is_marked words j ≡ true) × ((i : ℕ) → i < j → is_marked words i ≡ false)) (ap (λ o. unwrap_or o 0) e)
    (first_marked words c.in-Some.word c.in-Some-lowest.place (λ i before. word_zero words me.groups.words.items i me.grouped (group.1 i before)) found.0 found.1 found.2)

pub returns-in-None-clause-none : goal.returns-in-None-clause-none
returns-in-None-clause-none c = λ none k.
    let me = c.args.self.now in
    let words = me.words.items in
    let low : c.in-Some.word < length words = omega (arith, c.if-word-len.false, c.len.ensures) in
    let read = get_or_read words c.in-Some.word c.index.result.now low c.index.ensures 0 in
    let is = (c.in-Some.ensures.some c.in-Some.word refl).0 in
    absurd (no_word words me.groups.words.items c.in-Some.word me.grouped is (sym read ∙ c.in-None.ensures.none refl))
