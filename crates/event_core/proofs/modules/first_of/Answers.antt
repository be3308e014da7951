use Rattle.std.proofs.Common.{arith, refl, sym}
use Rattle.event_core.specs.Fronts.{is_marked}
use Rattle.event_core.proofs.Fronts.{first_below, none_below}
use Rattle.event_core.proofs.modules.first_of.Goals as goal

pub returns-then-number-count : goal.returns-then-number-count
returns-then-number-count c =
    let found = c.in-Some.ensures.some c.in-Some.number refl in
    sym (first_below (is_marked c.args.marks.now.words.items) c.in-Some.number c.args.count found.0 found.1 (omega (arith, c.if-number-count.true)))

pub returns-else-number-count : goal.returns-else-number-count
returns-else-number-count c =
    let found = c.in-Some.ensures.some c.in-Some.number refl in
    sym (none_below (is_marked c.args.marks.now.words.items) c.args.count (λ j low. found.1 j (omega (arith, low, c.if-number-count.false))))

pub returns-in-None : goal.returns-in-None
returns-in-None c = sym (none_below (is_marked c.args.marks.now.words.items) c.args.count (λ j low. c.in-None.ensures.none refl j))
