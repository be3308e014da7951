use Rattle.std.proofs.Common.{[], Ok, subst}
use Rattle.interpolation.specs.Tables.{Asks}
use Rattle.interpolation.specs.declared.filler.Asked.TheVariants.{Value}
use Rattle.interpolation.proofs.Plain.{no_way}
use Rattle.interpolation.proofs.filler.Filler.value.Goals as goal

pub returns-in-Value : goal.returns-in-Value
returns-in-Value c = λ known table.
    let asks : Asks known [] c.args.name.now c.ask.new.self (Ok (Value c.in-Value.text)) = subst (λ t. Asks known [] c.args.name.now c.ask.new.self (Ok t)) c.in-Value.is (c.in_ok-text.ensures.says known [] table (no_way known c.args.name.now)) in
    asks
