-- What a worker found absent stays absent until it fetches it itself.
use Rattle.std.proofs.Common.{◌≡◌, ℕ, ◌<◌, ◌⊎◌, inl, inr, Bool, true, false, List, [], ◌∷◌, ◌++◌, map, get_or, set, slice_get, Option, Some, None, is_some, refl, arith, sym, ap, subst, ◌∙◌}
use Rattle.std.specs.Option.{option_map_or}
use Rattle.std.proofs.lemmas.Bool.{false≢true}
use Rattle.std.proofs.lemmas.List.{get_or-set_other, get_or-set_same}
use Rattle.scripts.specs.declared.deed.Deed.{Deed}
use Rattle.scripts.specs.declared.deed.Deed.TheVariants as deed
use Rattle.build_core.specs.declared.event.Event.{Event}
use Rattle.build_core.specs.declared.event.Event.TheVariants as event
use Rattle.build_core.specs.declared.mode.Mode.TheVariants.{Exclusive}
use Rattle.scripts.specs.declared.outline.Outline.{Outline}
use Rattle.build_core.specs.declared.plan.OwnFile.{OwnFile}
use Rattle.build_core.specs.declared.plan.Plan.{Plan}
use Rattle.build_core.specs.declared.plan.PlanModule.{PlanModule}
use Rattle.event_core.specs.declared.entry.RunEntry.{RunEntry}
use Rattle.scripts.specs.Climbing.{but}
use Rattle.event_core.specs.Enabled.{IsEnabled, IsRun, is_due}
use Rattle.run_law.proofs.Invariants.{AreCoursesFit, IsCourseFit, files_fit}
use Rattle.build_core.specs.Locks.{hold}
use Rattle.scripts.specs.Outlines.{is_empty, is_listed, module_outline, outline_of}
use Rattle.event_core.specs.Runs.{IsRunOf, events_of, standing_of_run}
use Rattle.scripts.specs.Scripts.{Script, absent, answers, done, fetches, frees, is_gathered, is_there, may_publish, publishes, reads, settled, step, takes, wanted, whole}
use Rattle.event_core.specs.SoundPlans.{IsSoundPlan}
use Rattle.event_core.specs.Standing.{Course, Standing, after, after_deed, after_free, at_first, course_of, goals_of, held_by, idle, module_of, off_course, on_course, standing_of, start_of}
use Rattle.run_law.proofs.Alone.{AreGuarded, guarded, guarded_after, guarded_first, holds_now}
use Rattle.run_law.proofs.Complete.{IsStanding, by_events, standing_after, standing_first}
use Rattle.run_law.proofs.Courses.{at_place, courses_after, courses_first, due_file, settled_wants}
use Rattle.run_law.proofs.Excluding.{IsExcluding, excluding_after, excluding_first}
use Rattle.event_core.proofs.Fits.{same_or_not}
use Rattle.run_law.proofs.Once.{both}
use Rattle.run_law.proofs.Stored.{due_on, get_in, get_map, length_map}
use Rattle.event_core.proofs.Ties.{any_idle, some_same}
use Rattle.event_core.proofs.Weights.{nothing_is}

-- HoldsAlone of the statements
pub holds_alone : (plan : Plan) (past : List RunEntry) (w number f n : ℕ) (m : PlanModule) (script : Script) (last : Option ℕ) → IsRunOf plan past → slice_get plan.modules number ≡ Some m
    → course_of (standing_of_run plan past) w ≡ on_course number script last → wanted script ≡ Some f → is_listed n m.batch ≡ true → hold (standing_of_run plan past).locks n w ≡ Some Exclusive
holds_alone plan past w number f n m script last run at on wants l =
    holds_now (outline_of plan) (standing_of_run plan past) (guarded (outline_of plan) (events_of past) run) w number f n (module_outline m) script last (get_map module_outline plan.modules number m at) on wants l

-- ---- courses

abbrev pub IsAbsentAt : List Bool → Course → Type 0
IsAbsentAt there idle = Unit {0}
IsAbsentAt there (off_course number file gathered) = Unit {0}
IsAbsentAt there (on_course number script last) = (f : ℕ) → wanted script ≡ Some f → is_there there f ≡ false

abbrev pub AreAbsent : Standing → Type 0
AreAbsent now = (w : ℕ) → IsAbsentAt now.there (course_of now w)

-- behind a deed that was due, what a course is to fetch next isn't there
absent_deed : (there : List Bool) (held : List ℕ) (d : Deed) (answered : Option ℕ) (c : Course) → is_due c d ≡ true → IsAbsentAt there (after_deed there held d answered c)
absent_deed there held d answered idle due = tt
absent_deed there held d answered (off_course number file gathered) due = tt
absent_deed there held d answered (on_course number script last) due = by (done script d) due
  where
    by : (found : Option Script) → is_some found ≡ true → IsAbsentAt there (option_map_or (λ rest. on_course number (settled there (is_empty held) rest) answered) found (on_course number script last))
    by None some = absurd (false≢true some)
    by (Some rest) some = λ f e. settled_wants there (is_empty held) rest f e

-- nor behind a free
absent_free : (o : Outline) (there : List Bool) (held : List ℕ) (c : Course) → IsAbsentAt there (after_free o there held c)
absent_free o there held idle = tt
absent_free o there held (off_course number file gathered) = tt
absent_free o there held (on_course number script last) = by (done script deed.Free)
  where
    by : (found : Option Script) → IsAbsentAt there (option_map_or (λ rest. on_course number (settled there (is_empty held) rest) None) found (off_course number (wanted script) (is_gathered (goals_of o number) script)))
    by None = tt
    by (Some rest) = λ f e. settled_wants there (is_empty held) rest f e

-- what a script is to fetch next is of its module's fetch list
fit_wanted : (fetch own : List ℕ) (script : Script) (f : ℕ) → files_fit fetch own script ≡ true → wanted script ≡ Some f → is_listed f fetch ≡ true
fit_wanted fetch own (step stage (fetches g) rest) f fit e = subst (λ x. is_listed x fetch ≡ true) (some_same g f e) (both (is_listed g fetch) (files_fit fetch own rest) fit).0
fit_wanted fetch own whole f fit e = absurd (nothing_is f e)
fit_wanted fetch own (absent files this that) f fit e = absurd (nothing_is f e)
fit_wanted fetch own (step stage (takes mode n) rest) f fit e = absurd (nothing_is f e)
fit_wanted fetch own (step stage frees rest) f fit e = absurd (nothing_is f e)
fit_wanted fetch own (step stage (reads g) rest) f fit e = absurd (nothing_is f e)
fit_wanted fetch own (step stage (publishes g) rest) f fit e = absurd (nothing_is f e)
fit_wanted fetch own (step stage (may_publish g) rest) f fit e = absurd (nothing_is f e)
fit_wanted fetch own (step stage (answers g) rest) f fit e = absurd (nothing_is f e)

module _ (plan : Plan) (sound : IsSoundPlan plan) where
  abbrev o : Outline
  o = outline_of plan

  pub record Stands (now : Standing) : Type 0 where
    pub standing : IsStanding o now
    pub guarded : AreGuarded o now
    pub excluding : IsExcluding o now
    pub courses : AreCoursesFit o now
    pub absent : AreAbsent now

  module _ (now : Standing) (s : Stands now) where
    -- the module that a worker is at, with the files of its script
    pub found : (v number : ℕ) (script : Script) (last : Option ℕ) → course_of now v ≡ on_course number script last → (m : PlanModule) × (slice_get plan.modules number ≡ Some m) × (files_fit m.fetch (map (λ (x : OwnFile). x.file) m.own) script ≡ true)
    found v number script last on =
        let long = length_map module_outline plan.modules in
        let real = s.standing.tied.real v number (ap module_of on) in
        let at = get_in plan.modules number (omega (arith, long, real)) in
        let fit : IsCourseFit o (on_course number script last) = subst (IsCourseFit o) on (s.courses.courses v) in
        (at.0, at.1, fit.0 (module_outline at.0) (get_map module_outline plan.modules number at.0 at.1))

    -- who is at a module is one of the plan's workers
    inside : (v number : ℕ) (script : Script) (last : Option ℕ) → course_of now v ≡ on_course number script last → v < o.workers
    inside v number script last on = (s.standing.tied.running number v (s.standing.tied.busy v number (ap module_of on))).0

    -- who publishes what another is to fetch is that one
    pub one_publisher : (w v f number : ℕ) (script : Script) (last : Option ℕ) → is_due (course_of now w) (deed.Publish f) ≡ true → course_of now v ≡ on_course number script last → wanted script ≡ Some f → v ≡ w
    one_publisher w v f number script last due on wants = by (due_on (course_of now w) (deed.Publish f) due)
      where
        his : (m : PlanModule) × (slice_get plan.modules number ≡ Some m) × (files_fit m.fetch (map (λ (x : OwnFile). x.file) m.own) script ≡ true)
        his = found v number script last on

        listed : is_listed f his.0.fetch ≡ true
        listed = fit_wanted his.0.fetch (map (λ (x : OwnFile). x.file) his.0.own) script f his.2 wants

        by : (other : ℕ) × (mine : Script) × (answered : Option ℕ) × (course_of now w ≡ on_course other mine answered) → v ≡ w
        by x = which (due_file m.0.fetch (map (λ (x : OwnFile). x.file) m.0.own) x.1 f m.2 (subst (λ c. is_due c (deed.Publish f) ≡ true) x.3 due))
          where
            m : (m : PlanModule) × (slice_get plan.modules x.0 ≡ Some m) × (files_fit m.fetch (map (λ (x : OwnFile). x.file) m.own) x.1 ≡ true)
            m = found w x.0 x.1 x.2 x.3

            cover : (name : ℕ) × ((number : ℕ) (m : PlanModule) → slice_get plan.modules number ≡ Some m → is_listed f m.fetch ≡ true → is_listed name m.batch ≡ true)
            cover = sound.cover f

            which : ((wanted x.1 ≡ Some f) × (is_listed f m.0.fetch ≡ true)) ⊎ (is_listed f (map (λ (x : OwnFile). x.file) m.0.own) ≡ true) → v ≡ w
            which (inl fetch) =
                s.excluding cover.0 w v (inside w x.0 x.1 x.2 x.3) (inside v number script last on)
                (holds_now o now s.guarded w x.0 f cover.0 (module_outline m.0) x.1 x.2 (get_map module_outline plan.modules x.0 m.0 m.1) x.3 fetch.0 (cover.1 x.0 m.0 m.1 fetch.1))
                (ap is_some (holds_now o now s.guarded v number f cover.0 (module_outline his.0) script last (get_map module_outline plan.modules number his.0 his.1) on wants (cover.1 number his.0 his.1 listed)))
            which (inr own) = absurd (false≢true (sym (sound.not_fetched f x.0 number m.0 his.0 m.1 his.1 own) ∙ listed))

    -- behind a publish, what any worker is to fetch next isn't there
    absent_publish : (w f : ℕ) → w < o.workers → is_due (course_of now w) (deed.Publish f) ≡ true → (v : ℕ) → IsAbsentAt (set now.there f true) (get_or (set now.courses w (after_deed (set now.there f true) (held_by now w) (deed.Publish f) None (course_of now w))) v idle)
    absent_publish w f low due v = by (same_or_not v w)
      where
        course : Course
        course = after_deed (set now.there f true) (held_by now w) (deed.Publish f) None (course_of now w)

        kept : (v ≡ w → ⊥) → (c : Course) → course_of now v ≡ c → IsAbsentAt now.there c → IsAbsentAt (set now.there f true) c
        kept other idle on old = tt
        kept other (off_course number file gathered) on old = tt
        kept other (on_course number script last) on old = λ g wants. is g wants (same_or_not g f)
          where
            is : (g : ℕ) → wanted script ≡ Some g → (g ≡ f) ⊎ ((g ≡ f) → ⊥) → is_there (set now.there f true) g ≡ false
            is g wants (inl e) = absurd (other (one_publisher w v f number script last due on (wants ∙ ap (λ x. Some x) e)))
            is g wants (inr apart) = get_or-set_other now.there f g true false apart ∙ old g wants

        by : (v ≡ w) ⊎ ((v ≡ w) → ⊥) → IsAbsentAt (set now.there f true) (get_or (set now.courses w course) v idle)
        by (inl e) = subst (λ u. IsAbsentAt (set now.there f true) (get_or (set now.courses w course) u idle)) (sym e) (subst (IsAbsentAt (set now.there f true)) (sym (get_or-set_same now.courses w course idle (omega (arith, low, s.standing.fit.courses)))) (absent_deed (set now.there f true) (held_by now w) (deed.Publish f) None (course_of now w) due))
        by (inr other) = subst (IsAbsentAt (set now.there f true)) (sym (get_or-set_other now.courses w v course idle other)) (kept other (course_of now v) refl (s.absent v))

  -- nor behind any event
  absent_after : (now : Standing) (e : Event) → Stands now → IsEnabled o now e → AreAbsent (after o now e)
  unfolding after
  absent_after now (event.Start w m) s is = at_place (IsAbsentAt now.there) now.courses w (on_course m (settled now.there (is_empty (held_by now w)) (start_of o m)) None) idle (λ f e. settled_wants now.there (is_empty (held_by now w)) (start_of o m) f e) s.absent
  absent_after now (event.Skip m) s is = s.absent
  absent_after now (event.Take w n mode) s is =
      let held = get_or (set now.held w (held_by now w ++ n ∷ [])) w [] in
      at_place (IsAbsentAt now.there) now.courses w (after_deed now.there held (deed.Take mode n) None (course_of now w)) idle (absent_deed now.there held (deed.Take mode n) None (course_of now w) is.4) s.absent
  absent_after now (event.Free w n) s is =
      let held = get_or (set now.held w (but n (held_by now w))) w [] in
      at_place (IsAbsentAt now.there) now.courses w (after_free o now.there held (course_of now w)) idle (absent_free o now.there held (course_of now w)) s.absent
  absent_after now (event.Read w f) s is = at_place (IsAbsentAt now.there) now.courses w (after_deed now.there (held_by now w) (deed.Read f) None (course_of now w)) idle (absent_deed now.there (held_by now w) (deed.Read f) None (course_of now w) is.2) s.absent
  absent_after now (event.Publish w f) s is = absent_publish now s w f is.0 is.2
  absent_after now (event.Answer w g) s is = at_place (IsAbsentAt now.there) now.courses w (after_deed now.there (held_by now w) (deed.Answer g) (Some g) (course_of now w)) idle (absent_deed now.there (held_by now w) (deed.Answer g) (Some g) (course_of now w) is.2) s.absent
  absent_after now (event.End w e) s is = at_place (IsAbsentAt now.there) now.courses w idle idle tt s.absent

  -- all of it holds where nothing has happened
  pub stands_first : Stands (at_first o)
  stands_first = record { standing = standing_first o; guarded = guarded_first o; excluding = excluding_first o; courses = courses_first o; absent = λ w. subst (IsAbsentAt (at_first o).there) (sym (any_idle o.workers w)) tt }

  -- and stays behind each event
  pub stands_after : (now : Standing) (e : Event) → Stands now → IsEnabled o now e → Stands (after o now e)
  stands_after now e s is = record {
    standing = standing_after o now e s.standing is;
    guarded = guarded_after o now e s.standing s.guarded is;
    excluding = excluding_after o now e s.standing s.excluding is;
    courses = courses_after o now e s.courses;
    absent = absent_after now e s is;
  }

  -- so it holds behind every run
  pub stands : (events : List Event) → IsRun o [] events → Stands (standing_of o events)
  stands events run = by_events o Stands stands_after [] events stands_first run

  -- what is to be fetched next isn't there
  pub stays_absent : (past : List RunEntry) (w number f : ℕ) (script : Script) (last : Option ℕ) → IsRunOf plan past → course_of (standing_of_run plan past) w ≡ on_course number script last → wanted script ≡ Some f → is_there (standing_of_run plan past).there f ≡ false
  stays_absent past w number f script last run on wants = subst (IsAbsentAt (standing_of_run plan past).there) on ((stands (events_of past) run).absent w) f wants
