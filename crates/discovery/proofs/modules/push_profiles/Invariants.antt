use Rattle.std.proofs.Common.{◌≡◌, ◌++◌, drop, flat_map, slice_get}
use Rattle.discovery.specs.Discovery.{listed}
use Rattle.discovery.specs.Profiles.{modules_in}
use Rattle.discovery.proofs.modules.push_profiles.Given as goal

abbrev pub invariant-loop-place : goal.invariant-loop-place
invariant-loop-place l = l.list ++ listed l.by (flat_map (λ place. modules_in (slice_get l.profiles place)) (drop l.place-index l.places)) ≡ l.initial.list ++ listed l.by (flat_map (λ place. modules_in (slice_get l.profiles place)) l.places)
