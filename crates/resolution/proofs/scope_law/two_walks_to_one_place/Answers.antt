use Rattle.std.proofs.Common.{arith, refl}
use Rattle.resolution.specs.Example.{base_always, base_at_run_time, late, near}
use Rattle.resolution.specs.Walks.{begins, goes}
use Rattle.resolution.proofs.scope_law.two_walks_to_one_place.Goals as goal

pub returns-clause-runtime : goal.returns-clause-runtime
returns-clause-runtime c = goes (begins near (0, omega arith, refl)) base_at_run_time (0, omega arith, refl)

pub returns-clause-test : goal.returns-clause-test
returns-clause-test c = goes (begins late (1, omega arith, refl)) base_always (0, omega arith, refl)
