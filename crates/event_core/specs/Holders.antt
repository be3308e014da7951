-- The program's own words: which names workers hold, by what they are at.
use Rattle.std.specs.Prelude.{◌≡◌, ℕ, ◌<◌, true, false, List, [], ◌∷◌, ◌++◌, get_or, slice_get, Some}
use Rattle.scripts.specs.declared.outline.Outline.{Outline}
use Rattle.scripts.specs.declared.outline.ModuleOutline.{ModuleOutline}
use Rattle.scripts.specs.declared.deed.Deed.{Deed}
use Rattle.scripts.specs.declared.deed.Deed.TheVariants as deed
use Rattle.scripts.specs.HeldAt.{HoldsAt}
use Rattle.event_core.specs.declared.course.Course.{Course as KeptCourse}
use Rattle.event_core.specs.declared.course.Course.TheVariants as kept

-- of a worker that is at this: nothing is said where it left its script
abbrev pub CourseHolds : Outline → KeptCourse → List ℕ → Type 0
CourseHolds o kept.Idle held = held ≡ []
CourseHolds o (kept.On number s answered) held = (m : ModuleOutline) → slice_get o.modules number ≡ Some m → HoldsAt m s held
CourseHolds o (kept.Off number missing gathered) held = Unit {0}

-- what is held behind a deed that frees nothing: one more, or the same
abbrev pub IsHeldThen : Deed → List ℕ → List ℕ → Type 0
IsHeldThen (deed.Take mode name) before held = held ≡ before ++ name ∷ []
IsHeldThen deed.Free before held = false ≡ true
IsHeldThen (deed.Read file) before held = held ≡ before
IsHeldThen (deed.Publish file) before held = held ≡ before
IsHeldThen (deed.Answer goal) before held = held ≡ before

-- of all workers
abbrev pub AllHold : Outline → List KeptCourse → List (List ℕ) → Type 0
AllHold o courses held = (w : ℕ) → w < o.workers → CourseHolds o (get_or courses w kept.Idle) (get_or held w [])
