use Rattle.std.proofs.Common.{◌≡◌}
use Rattle.versions.proofs.reader.Stand.exactly.Goals as goal

pub returns-in_ok-upper-in-Some-clause-value : goal.returns-in_ok-upper-in-Some-clause-value
returns-in_ok-upper-in-Some-clause-value c =
    let same = c.in_ok-upper-in-Some.ensures.cases in
    let e : c.in_ok-upper-in-Some.upper ≡ c.in-Some.version = λ i. record { version = same.0 i; inclusive = same.1 i } in
    λ text at. rw c.in-Some.is (rw e at (c.close.ensures.value text at))
