use Rattle.std.proofs.Common.{◌+◌, ◌∷◌, Some, Ok, refl, sym, subst}
use Rattle.std.specs.Vec.Iter.{into_iter_len}
use Rattle.interpolation.specs.declared.part.Part.TheVariants.{Name}
use Rattle.interpolation.specs.Tables.{AskCounts, Asks, IsStep, TurnCounts, fresh_count}
use Rattle.interpolation.specs.declared.filler.Asked.TheVariants.{Value, Begun}
use Rattle.interpolation.proofs.Steps.{ask_fails, inner_way}
use Rattle.interpolation.proofs.filler.Filler.named.Goals as goal

pub returns-in-Ok-Value-clause-says : goal.returns-in-Ok-Value-clause-says
returns-in-Ok-Value-clause-says c = λ known seen table is.
    let asks : Asks known (c.args.step.name ∷ seen) c.args.name.now c.ask.new.self (Ok (Value c.in-Ok-Value.text)) = subst (λ o. Asks known (c.args.step.name ∷ seen) c.args.name.now c.ask.new.self (Ok o)) c.in-Ok-Value.field-0-is (c.in-Ok-Value.ensures.says known (c.args.step.name ∷ seen) table (inner_way known seen c.args.name.now c.args.step is)) in
    c.grown.ensures.says known seen (Name c.args.name.now) c.ask.new.self asks.1 is asks.0

pub returns-in-Ok-Begun-clause-says : goal.returns-in-Ok-Begun-clause-says
returns-in-Ok-Begun-clause-says c = λ known seen table is.
    let asks : Asks known (c.args.step.name ∷ seen) c.args.name.now c.ask.new.self (Ok (Begun c.in-Ok-Begun.inner)) = subst (λ o. Asks known (c.args.step.name ∷ seen) c.args.name.now c.ask.new.self (Ok o)) c.in-Ok-Begun.field-0-is (c.in-Ok-Begun.ensures.says known (c.args.step.name ∷ seen) table (inner_way known seen c.args.name.now c.args.step is)) in
    (refl, subst (λ n. IsStep known seen (Some (Name n)) c.args.step) (sym asks.0) is, asks.1, asks.2)

pub returns-in-Err-clause-says : goal.returns-in-Err-clause-says
returns-in-Err-clause-says c = λ known seen table is.
    ask_fails known seen c.args.name.now c.args.self.now c.ask.new.self c.args.step c.in-Err.fault is (c.in-Err.ensures.says known (c.args.step.name ∷ seen) table (inner_way known seen c.args.name.now c.args.step is))

pub returns-in-Ok-Value-clause-count : goal.returns-in-Ok-Value-clause-count
returns-in-Ok-Value-clause-count c =
    let counts : AskCounts (fresh_count c.args.self.now) (fresh_count c.ask.new.self) (Ok (Value c.in-Ok-Value.text)) = subst (λ o. AskCounts (fresh_count c.args.self.now) (fresh_count c.ask.new.self) (Ok o)) c.in-Ok-Value.field-0-is c.in-Ok-Value.ensures.count in
    subst (λ n. TurnCounts (into_iter_len c.args.step.rest + 1) n (fresh_count c.ask.new.self) c.grown.result) counts (c.grown.ensures.count (fresh_count c.ask.new.self))
