-- Goals that a trace answers: two workers build three modules, and the second worker the modules 0 and 1.
use Rattle.std.proofs.Common.{◌≡◌, List, [], ◌∷◌, refl}
use Rattle.build_core.specs.declared.ending.Ending.TheVariants.{Built}
use Rattle.build_core.specs.declared.event.Event.{Event}
use Rattle.build_core.specs.declared.event.Event.TheVariants as event
use Rattle.call_laws.specs.Numbered.{goals_of_trace}

abbrev two_workers : List Event
two_workers = event.Start 0 2 ∷ event.Start 1 0 ∷ event.Answer 1 0 ∷ event.Answer 0 0 ∷ event.End 1 Built ∷ event.Start 1 1 ∷ event.Answer 1 0 ∷ event.Answer 0 1 ∷ []

goals_of_two : goals_of_trace two_workers ≡ (0, 0) ∷ (2, 0) ∷ (1, 0) ∷ (2, 1) ∷ []
goals_of_two = refl
