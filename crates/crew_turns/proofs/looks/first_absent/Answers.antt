use Rattle.std.proofs.Common.{◌≡◌, suc, ◌+◌, ◌<◌, ◌≤◌, true, false, length, None, Some, arith, sym, subst, ◌∙◌}
use Rattle.std.proofs.lemmas.Bool.Decides.{nat_tests}
use Rattle.board.specs.Builds.{standing_at}
use Rattle.run_law.specs.Absent.{IsFirstAbsent}
use Rattle.crew_turns.proofs.Firsts.{none_left, one_there, this_one}
use Rattle.crew_turns.proofs.looks.first_absent.Goals as goal

pub returns-then-not-has : goal.returns-then-not-has
returns-then-not-has g c =
    let test = c.loop-at-test.true in
    let low : c.loop-at.at < length c.args.files.now = grind (arith, nat_tests, test) in
    let gone = c.if-not-has.true in
    let off : c.has.result ≡ false = grind (arith, gone) in
    c.loop-at.invariant (Some c.loop-at.at) (this_one (standing_at c.args.board.now).there c.args.files.now c.loop-at.at low (sym c.has.ensures ∙ off))

pub loop-at-preserved : goal.loop-at-preserved
loop-at-preserved g c =
    let test = c.loop-at-test.true in
    let low : c.loop-at.at < length c.args.files.now = grind (arith, nat_tests, test) in
    let here = c.if-not-has.false in
    let on : c.has.result ≡ true = grind (arith, here) in
    let next : c.loop-at.at + 1 ≡ suc c.loop-at.at = omega arith in
    λ found is.
    c.loop-at.invariant found
    (one_there (standing_at c.args.board.now).there c.args.files.now c.loop-at.at found low (sym c.has.ensures ∙ on)
    (subst (λ n. IsFirstAbsent (standing_at c.args.board.now).there c.args.files.now n found) next is))

pub returns : goal.returns
returns g c =
    let test = c.loop-at-test.false in
    let high : length c.args.files.now ≤ c.loop-at.at = grind (arith, nat_tests, test) in
    c.loop-at.invariant None (none_left (standing_at c.args.board.now).there c.args.files.now c.loop-at.at high)
