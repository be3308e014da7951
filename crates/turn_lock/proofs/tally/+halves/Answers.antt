use Rattle.std.proofs.Common.{◌-◌, ◌/◌}
use Rattle.std.proofs.lemmas.Result.{IfOk-at_ok, on_ok_weaker}
use Rattle.turn_lock.specs.Noted.{AllNoted, noted}
use Rattle.turn_lock.specs.Passes.{view_of}
use Rattle.turn_lock.proofs.Tallies.{of_both}
use Rattle.turn_lock.proofs.tally.+halves.Goals as goal

pub crew-returns-clause-noted : goal.crew-returns-clause-noted
crew-returns-clause-noted g t c =
    let middle = c.args.reach - (c.args.reach - c.args.first) / 2 in
    let one = IfOk-at_ok (λ x. AllNoted c.args.first middle c.args.task.now.count c.fork-one.new.pass) c.in_ok-one.was c.fork-one.ensures.noted in
    on_ok_weaker c.fork-one.result.1
    (λ two. of_both (λ k. noted k c.args.task.now.count) c.args.first middle c.args.reach (view_of c.fork-one.new.pass).seen (view_of c.fork-one.new.other).seen (view_of c.join.new.pass).seen one two c.join.ensures.own_log c.join.ensures.other_log)
    c.fork-one.ensures.other_noted
