use Rattle.std.proofs.Common.{◌≡◌, Ok, reverse, sym, subst}
use Rattle.interpolation.specs.KnownValues.{value}
use Rattle.interpolation.specs.Tables.{Waits, StopsAt, names}
use Rattle.interpolation.specs.declared.filler.Stop.TheVariants.{Asks, Ends}
use Rattle.interpolation.proofs.Steps.{last_first, run_fails, waits_more}
use Rattle.interpolation.proofs.filler.Filler.turned.Goals as goal

pub returns-in-Err-clause-says : goal.returns-in-Err-clause-says
returns-in-Err-clause-says c = λ known whole goes.
    let waiting = reverse c.args.waiting.items in
    run_fails known waiting c.args.step.name whole c.run.new.self c.run.new.self c.in-Err.fault goes.1 (c.in-Err.ensures.says known (names waiting) goes.2 goes.0)

pub returns-in_ok-waiting-in-Asks-clause-says : goal.returns-in_ok-waiting-in-Asks-clause-says
returns-in_ok-waiting-in-Asks-clause-says c = λ known whole goes.
    let waiting = reverse c.args.waiting.items in
    let stops : StopsAt known (names waiting) c.args.step.name c.run.new.self (Asks c.in-Asks.outer c.in-Asks.inner) = subst (λ s. StopsAt known (names waiting) c.args.step.name c.run.new.self s) c.in-Asks.is (c.in-Ok.ensures.says known (names waiting) goes.2 goes.0) in
    waits_more known c.args.step.name whole c.in-Asks.outer c.in-Asks.inner waiting (reverse c.in_ok-waiting-in-Asks.waiting.items) c.run.new.self (last_first c.in_ok-waiting-in-Asks.waiting.items c.args.waiting.items c.in-Asks.outer c.in_ok-waiting-in-Asks.ensures.items) goes.1 stops

pub returns-in-Ends-clause-says : goal.returns-in-Ends-clause-says
returns-in-Ends-clause-says c = λ known whole goes.
    let waiting = reverse c.args.waiting.items in
    let stops : StopsAt known (names waiting) c.args.step.name c.run.new.self (Ends c.in-Ends.step) = subst (λ s. StopsAt known (names waiting) c.args.step.name c.run.new.self s) c.in-Ends.is (c.in-Ok.ensures.says known (names waiting) goes.2 goes.0) in
    c.end.ensures.says known whole (subst (λ n. value known (names waiting) n ≡ Ok c.in-Ends.step.done) (sym stops.0) stops.1) (subst (λ n. Waits known waiting n whole) (sym stops.0) goes.1) stops.2
