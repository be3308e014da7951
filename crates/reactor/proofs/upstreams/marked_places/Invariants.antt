use Rattle.std.proofs.Common.{◌≡◌, ◌++◌, false, drop, get_or}
use Rattle.reactor.specs.Upstreams.{places_from}
use Rattle.reactor.proofs.upstreams.marked_places.Given as goal

abbrev pub invariant-loop-place : goal.invariant-loop-place
invariant-loop-place l = l.places ++ places_from (λ m. get_or l.marks m false) l.place (drop l.place l.numbers) ≡ places_from (λ m. get_or l.marks m false) 0 l.numbers
