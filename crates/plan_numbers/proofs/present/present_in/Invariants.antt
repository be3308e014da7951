use Rattle.std.proofs.Common.{◌≡◌, ◌+◌, ◌++◌, drop, length, IfSome}
use Rattle.mvn_outside.specs.Shelf.{files_now}
use Rattle.module_plan.specs.Plans.{present_in}
use Rattle.plan_numbers.proofs.present.present_in.Given as goal

-- what is known of the files so far
abbrev pub invariant-loop-name : goal.invariant-loop-name
invariant-loop-name g l = record {
  so_far : IfSome (g.S.Shelf.told l.fn.shelf) (λ told. l.list ++ present_in (files_now told) (drop l.name-index l.files) ≡ present_in (files_now told) l.files);
  each : length l.list + length (drop l.name-index l.files) ≡ length l.files;
  same : g.S.Shelf.told l.shelf ≡ g.S.Shelf.told l.fn.shelf;
  quiet : g.S.Shelf.faults l.shelf ≡ g.S.Shelf.faults l.fn.shelf;
}
