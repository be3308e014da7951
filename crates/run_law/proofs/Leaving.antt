-- What is there where a worker has left its script.
use Rattle.std.proofs.Common.{◌≡◌, ℕ, true, List, [], length, slice_get, Option, Some, refl, subst, ◌∙◌}
use Rattle.std.proofs.lemmas.List.{length-set}
use Rattle.build_core.specs.declared.event.Event.{Event}
use Rattle.build_core.specs.declared.event.Event.TheVariants as event
use Rattle.build_core.specs.declared.plan.Plan.{Plan}
use Rattle.build_core.specs.declared.plan.PlanModule.{PlanModule}
use Rattle.event_core.specs.declared.entry.RunEntry.{RunEntry}
use Rattle.scripts.specs.declared.outline.Outline.{Outline}
use Rattle.event_core.specs.Enabled.{IsRun}
use Rattle.scripts.specs.Outlines.{module_outline, outline_of}
use Rattle.event_core.specs.Runs.{IsRunOf, events_of, standing_of_run}
use Rattle.event_core.specs.Standing.{Standing, after, course_of, off_course, standing_of}
use Rattle.run_law.proofs.Complete.{by_events}
use Rattle.run_law.proofs.Courses.{courses_after, courses_first}
use Rattle.run_law.proofs.RunGathering.{gathering_after, gathering_first}
use Rattle.run_law.proofs.Invariants.{AreCoursesFit, AreGathering, IsGathering}
use Rattle.run_law.proofs.Stored.{get_map}
use Rattle.run_law.specs.Others.{HasAll}

module _ (o : Outline) where
  record IsFull (now : Standing) : Type 0 where
    courses : AreCoursesFit o now
    gathering : AreGathering o now
    sized : length now.there ≡ length o.present

  -- marks keep their number
  sized_after : (now : Standing) (e : Event) → length (after o now e).there ≡ length now.there
  unfolding after
  sized_after now (event.Start v m) = refl
  sized_after now (event.Skip m) = refl
  sized_after now (event.Take v n mode) = refl
  sized_after now (event.Free v n) = refl
  sized_after now (event.Read v f) = refl
  sized_after now (event.Publish v f) = length-set now.there f true
  sized_after now (event.Answer v g) = refl
  sized_after now (event.End v x) = refl

  full : (events : List Event) → IsRun o [] events → IsFull (standing_of o events)
  full events run = by_events o IsFull
      (λ now e s is. record { courses = courses_after o now e s.courses; gathering = gathering_after o now e s.courses s.gathering is s.sized; sized = sized_after now e ∙ s.sized })
      [] events (record { courses = courses_first o; gathering = gathering_first o; sized = refl }) run

-- who left its script with all files gathered has them all
pub left_all : (plan : Plan) (past : List RunEntry) (w number : ℕ) (m : PlanModule) (file : Option ℕ) → IsRunOf plan past
    → course_of (standing_of_run plan past) w ≡ off_course number file true → slice_get plan.modules number ≡ Some m → HasAll plan past m
left_all plan past w number m file run off at =
    let o = outline_of plan in
    let now = standing_of_run plan past in
    let is : IsGathering o now.there (off_course number file true) = subst (IsGathering o now.there) off ((full o (events_of past) run).gathering w) in
    (is (module_outline m) (get_map module_outline plan.modules number m at)).1 refl
