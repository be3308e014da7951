use Rattle.std.specs.Prelude.{List, ℕ}
use Rattle.std.proofs.Common.{subst}
use Rattle.crew_turns.specs.Asked.{KeepsOwn}
use Rattle.crew_modules.proofs.goals.put_copy.Goals as goal

pub returns : goal.returns
returns c = subst (λ (bytes : List ℕ). KeepsOwn c.args.slot bytes c.args.own.now c.put_output.new.own c.put_output.result) c.in-Ok.ensures c.put_output.ensures
