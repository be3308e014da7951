-- A publish that is due: its file is one of the plan's, and where it isn't of the fetch list all that is fetched is there.
use Rattle.std.proofs.Common.{◌≡◌, ◌<◌, ℕ, ◌⊎◌, inl, inr, true, false, nat_lt, List, [], length, map, slice_get, Option, Some, None, is_some, refl, arith, sym, ap, subst, ◌∙◌}
use Rattle.std.proofs.lemmas.Bool.{false≢true}
use Rattle.std.proofs.lemmas.Bool.Decides.{nat_tests}
use Rattle.std.proofs.lemmas.List.{length-set}
use Rattle.build_core.specs.declared.event.Event.{Event}
use Rattle.build_core.specs.declared.event.Event.TheVariants as event
use Rattle.build_core.specs.declared.plan.OwnFile.{OwnFile}
use Rattle.build_core.specs.declared.plan.Plan.{Plan}
use Rattle.build_core.specs.declared.plan.PlanModule.{PlanModule}
use Rattle.scripts.specs.declared.deed.Deed.TheVariants as deed
use Rattle.event_core.specs.declared.entry.RunEntry.{RunEntry}
use Rattle.scripts.specs.declared.outline.Outline.{Outline}
use Rattle.event_core.specs.Enabled.{IsRun, is_due}
use Rattle.scripts.specs.Outlines.{is_listed, module_outline, outline_of}
use Rattle.event_core.specs.Runs.{IsRunOf, events_of, module_by, standing_of_run}
use Rattle.scripts.specs.Scripts.{Script, absent, answers, done, fetches, frees, may_publish, publishes, reads, step, takes, wanted, whole}
use Rattle.event_core.specs.SoundPlans.{IsSoundPlan}
use Rattle.event_core.specs.Standing.{Standing, after, course_of, module_of, on_course, standing_of}
use Rattle.event_core.proofs.Ties.{some_same}
use Rattle.event_core.proofs.Weights.{nothing_is}
use Rattle.run_law.proofs.Absent.{found, stands}
use Rattle.run_law.proofs.Complete.{by_events}
use Rattle.run_law.proofs.Courses.{courses_after, courses_first, due_file}
use Rattle.run_law.proofs.RunGathering.{all_here, gathering_after, gathering_first}
use Rattle.run_law.proofs.Invariants.{AreCoursesFit, AreGathering, IsCourseFit, IsGathering, IsPassed, files_fit, pending}
use Rattle.run_law.proofs.Lates.{AreOwnsLate, IsOwnLate, is_late, late_pending, own_due, owns_after, owns_first}
use Rattle.run_law.proofs.Once.{both}
use Rattle.run_law.proofs.Ready.{all_listed}
use Rattle.run_law.proofs.Sounds.{fetch_low}
use Rattle.run_law.proofs.Stored.{due_on, get_map}
use Rattle.run_law.specs.Others.{HasAll}

lower : (a b : ℕ) → nat_lt a b ≡ true → a < b
lower a b is = grind (arith, nat_tests, is)

-- what a script is to fetch next is of its module's fetch list
fit_wanted : (fetch own : List ℕ) (script : Script) (f : ℕ) → files_fit fetch own script ≡ true → wanted script ≡ Some f → is_listed f fetch ≡ true
fit_wanted fetch own (step stage (fetches g) rest) f fit e = subst (λ x. is_listed x fetch ≡ true) (some_same g f e) (both (is_listed g fetch) (files_fit fetch own rest) fit).0
fit_wanted fetch own whole f fit e = absurd (nothing_is f e)
fit_wanted fetch own (absent files this that) f fit e = absurd (nothing_is f e)
fit_wanted fetch own (step stage (takes mode n) rest) f fit e = absurd (nothing_is f e)
fit_wanted fetch own (step stage frees rest) f fit e = absurd (nothing_is f e)
fit_wanted fetch own (step stage (reads g) rest) f fit e = absurd (nothing_is f e)
fit_wanted fetch own (step stage (publishes g) rest) f fit e = absurd (nothing_is f e)
fit_wanted fetch own (step stage (may_publish g) rest) f fit e = absurd (nothing_is f e)
fit_wanted fetch own (step stage (answers g) rest) f fit e = absurd (nothing_is f e)

-- what is there is something
some_of : (o : Option Script) → is_some o ≡ true → (rest : Script) × (o ≡ Some rest)
some_of None is = absurd (false≢true is)
some_of (Some rest) is = (rest, refl)

module _ (plan : Plan) where
  abbrev o : Outline
  o = outline_of plan

  -- where each worker stands: its files are its module's, own files come last, and what it passed over is there
  record IsOrdered (now : Standing) : Type 0 where
    courses : AreCoursesFit o now
    gathering : AreGathering o now
    owns : AreOwnsLate o now
    sized : length now.there ≡ length o.present

  -- marks keep their number
  sized_after : (now : Standing) (e : Event) → length (after o now e).there ≡ length now.there
  unfolding after
  sized_after now (event.Start v m) = refl
  sized_after now (event.Skip m) = refl
  sized_after now (event.Take v n mode) = refl
  sized_after now (event.Free v n) = refl
  sized_after now (event.Read v f) = refl
  sized_after now (event.Publish v f) = length-set now.there f true
  sized_after now (event.Answer v g) = refl
  sized_after now (event.End v x) = refl

  ordered : (events : List Event) → IsRun o [] events → IsOrdered (standing_of o events)
  ordered events run = by_events o IsOrdered
      (λ now e s is. record {
        courses = courses_after o now e s.courses;
        gathering = gathering_after o now e s.courses s.gathering is s.sized;
        owns = owns_after o now e s.owns;
        sized = sized_after now e ∙ s.sized;
      })
      [] events (record { courses = courses_first o; gathering = gathering_first o; owns = owns_first o; sized = refl }) run

  -- a publish that is due is of a file of the plan
  pub publish_low : IsSoundPlan plan → (log : List RunEntry) → IsRunOf plan log → (w f : ℕ) → is_due (course_of (standing_of_run plan log) w) (deed.Publish f) ≡ true → f < length plan.present
  publish_low sound log run w f due = by (due_on (course_of (standing_of_run plan log) w) (deed.Publish f) due)
    where
      by : (k : ℕ) × (script : Script) × (last : Option ℕ) × (course_of (standing_of_run plan log) w ≡ on_course k script last) → f < length plan.present
      by x = which (due_file m.0.fetch (map (λ (y : OwnFile). y.file) m.0.own) x.1 f m.2 (subst (λ c. is_due c (deed.Publish f) ≡ true) x.3 due))
        where
          m : (m : PlanModule) × (slice_get plan.modules x.0 ≡ Some m) × (files_fit m.fetch (map (λ (y : OwnFile). y.file) m.own) x.1 ≡ true)
          m = found plan sound (standing_of_run plan log) (stands plan sound (events_of log) run) w x.0 x.1 x.2 x.3

          which : ((wanted x.1 ≡ Some f) × (is_listed f m.0.fetch ≡ true)) ⊎ (is_listed f (map (λ (y : OwnFile). y.file) m.0.own) ≡ true) → f < length plan.present
          which (inl wants) = let low = fetch_low plan sound f (x.0, m.0, m.1, wants.1) in let sized = sound.present in omega (arith, low, sized)
          which (inr own) =
              lower f (length plan.present) (all_listed (λ y. nat_lt y (length plan.present)) (module_outline m.0).own (sound.places x.0 (module_outline m.0) (get_map module_outline plan.modules x.0 m.0 m.1)).own f own)

  module _ (log : List RunEntry) (run : IsRunOf plan log) (w f number : ℕ) (m : PlanModule) (due : is_due (course_of (standing_of_run plan log) w) (deed.Publish f) ≡ true)
      (whose : module_by plan log w ≡ Some number) (at : slice_get plan.modules number ≡ Some m) (other : is_listed f m.fetch ≡ false) where
    -- where a file is published that isn't fetched, all that is fetched is there
    pub own_all : HasAll plan log m
    own_all = by (due_on (course_of (standing_of_run plan log) w) (deed.Publish f) due)
      where
        now : Standing
        now = standing_of_run plan log

        is : IsOrdered now
        is = ordered (events_of log) run

        by : (k : ℕ) × (script : Script) × (last : Option ℕ) × (course_of now w ≡ on_course k script last) → HasAll plan log m
        by x = all_here now.there m.fetch (pending x.1) mine (late_pending x.1 late)
          where
            here : slice_get o.modules x.0 ≡ Some (module_outline m)
            here = get_map module_outline plan.modules x.0 m (ap (slice_get plan.modules) (some_same x.0 number (sym (ap module_of x.3) ∙ whose)) ∙ at)

            mine : IsPassed now.there m.fetch (pending x.1)
            mine = (subst (IsGathering o now.there) x.3 (is.gathering w) (module_outline m) here).1

            fit : IsCourseFit o (on_course x.0 x.1 x.2)
            fit = subst (IsCourseFit o) x.3 (is.courses.courses w)

            owns : IsOwnLate o (on_course x.0 x.1 x.2)
            owns = subst (IsOwnLate o) x.3 (is.owns w)

            isnt : wanted x.1 ≡ Some f → ⊥
            isnt wants = false≢true (sym other ∙ fit_wanted m.fetch (module_outline m).own x.1 f (fit.0 (module_outline m) here) wants)

            rest : (rest : Script) × (done x.1 (deed.Publish f) ≡ Some rest)
            rest = some_of (done x.1 (deed.Publish f)) (subst (λ c. is_due c (deed.Publish f) ≡ true) x.3 due)

            late : is_late x.1 ≡ true
            late = (own_due (module_outline m).installs x.1 f rest.0 (owns (module_outline m) here) isnt rest.1).0
