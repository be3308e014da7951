use Rattle.std.proofs.Common.{◌≡◌, [], drop, flat_map, fold}
use Rattle.classpaths.specs.Classpaths.{with_name}
use Rattle.module_plan.specs.Ready.{files_in, ready_files}
use Rattle.plan_numbers.proofs.tables.files_of.Given as goal

abbrev pub invariant-loop-ready : goal.invariant-loop-ready
invariant-loop-ready l = fold with_name l.files (flat_map files_in (drop l.ready-index l.modules)) ≡ ready_files l.modules
