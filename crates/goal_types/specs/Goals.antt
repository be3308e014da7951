-- What holds of goal requests. Own rules.
use Rattle.std.specs.Prelude.{◌≡◌, Bool, true, false, List}
use Rattle.std.specs.List.{list_all}
use Rattle.goal_types.specs.declared.goal.Slot.{Slot}
use Rattle.goal_types.specs.declared.goal.Slot.TheVariants.{Nowhere, Pom, Classes, TestClasses, Main, Tests, Sources, Javadoc}
use Rattle.goal_types.specs.declared.goal.OwnBytes.{OwnBytes}

-- an output is kept in this slot: any but `Nowhere` and the POM's
abbrev pub is_kept : Slot → Bool
is_kept Nowhere = false
is_kept Pom = false
is_kept Classes = true
is_kept TestClasses = true
is_kept Main = true
is_kept Tests = true
is_kept Sources = true
is_kept Javadoc = true

abbrev pub HasOwnSlots : List OwnBytes → Type 0
HasOwnSlots own = list_all (λ o. is_kept o.slot) own ≡ true
