use Rattle.std.proofs.Common.{ℕ, refl, subst, IfOk}
use Rattle.outside_mem.specs.Shelf.{shelf_told}
use Rattle.generated.specs.States.{outside}
use Rattle.generated.specs.Summary.{IsSummedUp}
use Rattle.generated.proofs.Lists.{faultless}
use Rattle.generated.proofs.run.build_summed.Goals as goal

pub returns : goal.returns
returns g c =
    let call = c.build_by_first-call in
    record {
      sums = record {
        report = call.result.outcome;
        after = outside call.result.devices.shelf call.result.devices.hands.items;
        told = shelf_told call.result.devices.shelf;
        tells = refl;
        faultless = faultless call.result.devices.shelf call.result.devices.hands.items;
        reports = call.ensures.reports;
        summed = subst (λ (n : ℕ). IfOk c.summary_of-outcome.result (IsSummedUp c.args.poms c.args.planned.now n call.result.outcome)) c.names-files.ensures c.summary_of-outcome.ensures.summed;
      };
    }
