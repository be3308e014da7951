use Rattle.std.proofs.Common.{◌≡◌, nat_eq, fold, map, flat_map, drop}
use Rattle.std.specs.List.{slice_split}
use Rattle.mvn_base.specs.Paths.{add_step}
use Rattle.mvn_base.proofs.joining.add_path.Given as goal

abbrev pub invariant-loop-part : goal.invariant-loop-part
invariant-loop-part l = fold add_step (map (λ x. x.now) l.done.items) (flat_map (slice_split (λ b. nat_eq b 92)) (map (λ x. x.now) (drop l.part-index l.part-items))) ≡ fold add_step (map (λ x. x.now) l.initial.done.items) (flat_map (slice_split (λ b. nat_eq b 92)) (map (λ x. x.now) l.part-items))
