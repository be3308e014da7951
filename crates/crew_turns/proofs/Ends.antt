-- A module ends in a turn: what may come before the turn may come in it, and what fitted then fits.
use Rattle.std.proofs.Common.{◌≡◌, ℕ, Bool, true, false, nat_eq, nat_lt, List, [], ◌++◌, slice_get, Option, Some, IfSome, refl, sym, ap, subst, ◌∙◌}
use Rattle.std.proofs.lemmas.Bool.{eqb-true, false≢true}
use Rattle.mvn_shared.specs.Files.{Files}
use Rattle.build_core.specs.declared.mode.Mode.TheVariants.{Shared, Exclusive}
use Rattle.build_core.specs.declared.ending.Device.TheVariants as device
use Rattle.build_core.specs.declared.ending.Ending.{Ending}
use Rattle.build_core.specs.declared.ending.Ending.TheVariants as ending
use Rattle.build_core.specs.declared.event.Event.TheVariants as event
use Rattle.build_core.specs.declared.plan.Plan.{Plan}
use Rattle.build_core.specs.declared.plan.PlanModule.{PlanModule}
use Rattle.event_core.specs.declared.entry.Carried.TheVariants as carried
use Rattle.event_core.specs.declared.entry.RunEntry.{RunEntry}
use Rattle.scripts.specs.declared.outline.Outline.{Outline}
use Rattle.event_core.specs.Enabled.{Enabled, IsEnabled, ending_in_range, may_end_so, needs_artifact}
use Rattle.scripts.specs.Outlines.{outline_of}
use Rattle.event_core.specs.Runs.{IsRunOf, is_quiet_event, module_by, standing_of_run}
use Rattle.scripts.specs.Scripts.{Script, absent, answers, answers_left, fetches, frees, is_to_install, may_publish, publishes, reads, stage_of, step, takes, whole}
use Rattle.event_core.specs.SoundPlans.{IsSoundPlan}
use Rattle.event_core.specs.Standing.{Course, course_of, goals_of, held_by, idle, module_of, off_course, on_course}
use Rattle.event_core.specs.Worlds.{Fits, FitsEnd, HandTold, has_failed_at, is_told, is_told_by, is_too_large_at, stood}
use Rattle.scripts.proofs.Climbs.{both}
use Rattle.event_core.proofs.Ties.{some_same}
use Rattle.run_law.proofs.LaterMoments.{front}
use Rattle.run_law.specs.Others.{AreOthers, HasAll}
use Rattle.run_law.proofs.Staying.{course_stays, gathered, goals_stay, held_stays}
use Rattle.run_law.proofs.Ending.{ends}
use Rattle.run_law.proofs.Leaving.{left_all}
use Rattle.atomic_table.specs.Seated.{TableId}
use Rattle.board.specs.Builds.{Build, MayCome}
use Rattle.board.specs.Logs.{is_shelf_end}
use Rattle.crew_turns.specs.Ends.{ends_as}
use Rattle.crew_turns.specs.Seen.{IsOf, Told, course_by, names_by, seen_by, start_by}
use Rattle.crew_turns.specs.Taken.{IsOut}

-- ---- how it is settled

-- a worker that is marked doesn't end quietly
pub honest : (w : ℕ) (e : Ending) (marked : Bool) → marked ≡ true → is_quiet_event (event.End w (ends_as e marked)) ≡ false
honest w e false is = absurd (false≢true is)
honest w ending.Built true is = refl
honest w (ending.Missing file) true is = refl
honest w ending.ClasspathTooLarge true is = refl
honest w (ending.Goal i) true is = refl
honest w (ending.OutputTooLarge i) true is = refl
honest w ending.NoArtifact true is = refl
honest w (ending.Fault d) true is = refl
honest w ending.Memory true is = refl

-- who isn't marked doesn't blame the repository
pub blames : (w : ℕ) (e : Ending) (marked : Bool) → is_shelf_end (event.End w (ends_as e marked)) ≡ true → marked ≡ true
blames w e true is = refl
blames w ending.Built false is = absurd (false≢true is)
blames w (ending.Missing file) false is = absurd (false≢true is)
blames w ending.ClasspathTooLarge false is = absurd (false≢true is)
blames w (ending.Goal i) false is = absurd (false≢true is)
blames w (ending.OutputTooLarge i) false is = absurd (false≢true is)
blames w ending.NoArtifact false is = absurd (false≢true is)
blames w (ending.Fault device.Remote) false is = absurd (false≢true is)
blames w (ending.Fault device.Area) false is = absurd (false≢true is)
blames w (ending.Fault device.Shelf) false is = absurd (false≢true is)
blames w (ending.Fault device.Gate) false is = absurd (false≢true is)
blames w ending.Memory false is = absurd (false≢true is)

-- what holds of an ending, of one by the repository and of want of memory, holds of what it is settled as
by_settled : (P : Ending → Type 0) → P (ending.Fault device.Shelf) → P ending.Memory → (e : Ending) (marked : Bool) → P e → P (ends_as e marked)
by_settled P fault memory ending.Built true is = fault
by_settled P fault memory (ending.Missing file) true is = fault
by_settled P fault memory ending.ClasspathTooLarge true is = fault
by_settled P fault memory (ending.Goal i) true is = fault
by_settled P fault memory (ending.OutputTooLarge i) true is = fault
by_settled P fault memory ending.NoArtifact true is = fault
by_settled P fault memory (ending.Fault d) true is = is
by_settled P fault memory ending.Memory true is = is
by_settled P fault memory ending.Built false is = is
by_settled P fault memory (ending.Missing file) false is = is
by_settled P fault memory ending.ClasspathTooLarge false is = is
by_settled P fault memory (ending.Goal i) false is = is
by_settled P fault memory (ending.OutputTooLarge i) false is = is
by_settled P fault memory ending.NoArtifact false is = is
by_settled P fault memory (ending.Fault device.Remote) false is = is
by_settled P fault memory (ending.Fault device.Area) false is = is
by_settled P fault memory (ending.Fault device.Shelf) false is = memory
by_settled P fault memory (ending.Fault device.Gate) false is = is
by_settled P fault memory ending.Memory false is = is

-- a worker at a module may end it by a fault, and for want of memory
may_fail : (o : Outline) (c : Course) (e : Ending) → may_end_so o c e ≡ true → (may_end_so o c (ending.Fault device.Shelf) ≡ true) × (may_end_so o c ending.Memory ≡ true)
may_fail o idle e may = absurd (false≢true may)
may_fail o (on_course m script last) e may = (refl, refl)
may_fail o (off_course m file gathered) e may = (refl, refl)

settled_may : (o : Outline) (c : Course) (e : Ending) (marked : Bool) → may_end_so o c e ≡ true → may_end_so o c (ends_as e marked) ≡ true
settled_may o c e marked may = let fails = may_fail o c e may in by_settled (λ x. may_end_so o c x ≡ true) fails.0 fails.1 e marked may

-- ---- what fitted fits

-- where a worker stands that may end with all files there
abbrev pub IsLate : Course → Type 0
IsLate idle = ⊥
IsLate (on_course m script last) = nat_lt 3 (stage_of script) ≡ true
IsLate (off_course m file gathered) = gathered ≡ true

built_late : (o : Outline) (c : Course) → may_end_so o c ending.Built ≡ true → IsLate c
built_late o idle may = absurd (false≢true may)
built_late o (on_course m whole last) may = refl
built_late o (on_course m (absent files this that) last) may = absurd (false≢true may)
built_late o (on_course m (step stage s rest) last) may = absurd (false≢true may)
built_late o (off_course m file gathered) may = absurd (false≢true may)

to_install_late : (s : Script) → is_to_install s ≡ true → nat_lt 3 (stage_of s) ≡ true
to_install_late whole is = refl
to_install_late (absent files this that) is = absurd (false≢true is)
to_install_late (step stage (takes Shared n) rest) is = absurd (false≢true is)
to_install_late (step stage (takes Exclusive n) rest) is = ap (nat_lt 3) (eqb-true stage 6 is)
to_install_late (step stage frees rest) is = absurd (false≢true is)
to_install_late (step stage (reads f) rest) is = absurd (false≢true is)
to_install_late (step stage (fetches f) rest) is = absurd (false≢true is)
to_install_late (step stage (publishes f) rest) is = absurd (false≢true is)
to_install_late (step stage (may_publish f) rest) is = absurd (false≢true is)
to_install_late (step stage (answers g) rest) is = absurd (false≢true is)

lacking_late : (o : Outline) (c : Course) → may_end_so o c ending.NoArtifact ≡ true → IsLate c
lacking_late o idle may = absurd (false≢true may)
lacking_late o (on_course m script last) may = to_install_late script (both (is_to_install script) (needs_artifact o m) may).0
lacking_late o (off_course m file gathered) may = absurd (false≢true may)

large_late : (o : Outline) (c : Course) → may_end_so o c ending.ClasspathTooLarge ≡ true → IsLate c
large_late o idle may = absurd (false≢true may)
large_late o (on_course m script last) may = (both (nat_lt 3 (stage_of script)) (nat_eq (answers_left script) (goals_of o m)) may).0
large_late o (off_course m file gathered) may = may

module _ (plan : Plan) (past rest : List RunEntry) (w number : ℕ) (m : PlanModule) (sound : IsSoundPlan plan) (run : IsRunOf plan (past ++ rest)) (others : AreOthers w rest)
    (whose : module_by plan past w ≡ Some number) (at : slice_get plan.modules number ≡ Some m) where
  -- who stands there has all files
  all_there : (c : Course) → course_of (standing_of_run plan past) w ≡ c → module_of c ≡ Some number → IsLate c → HasAll plan past m
  all_there idle is own late = absurd late
  all_there (on_course k script last) is own late = gathered plan past w number m script last (front plan past rest run).0 (is ∙ ap (λ (i : ℕ). on_course i script last) (some_same k number own)) at late
  all_there (off_course k file all) is own late = left_all plan past w number m file (front plan past rest run).0 (is ∙ ap (λ (i : ℕ). off_course i file all) (some_same k number own) ∙ ap (off_course number file) late) at

  pub has_all : IsLate (course_of (standing_of_run plan past) w) → HasAll plan past m
  has_all late = all_there (course_of (standing_of_run plan past) w) refl whose late

  -- an ending that may come and fits still fits behind others' entries
  ends_later : (start : Option Files) (told : HandTold) (e : Ending) → may_end_so (outline_of plan) (course_of (standing_of_run plan past) w) e ≡ true
      → FitsEnd (stood plan start past number m) told e → FitsEnd (stood plan start (past ++ rest) number m) told e
  ends_later start told ending.Built may fits = ends plan past rest w number m sound run whose at (has_all (built_late (outline_of plan) (course_of (standing_of_run plan past) w) may)) others start told ending.Built fits
  ends_later start told (ending.Missing file) may fits = fits
  ends_later start told ending.ClasspathTooLarge may fits =
      ends plan past rest w number m sound run whose at (has_all (large_late (outline_of plan) (course_of (standing_of_run plan past) w) may)) others start told ending.ClasspathTooLarge fits
  ends_later start told (ending.Goal i) may fits = ap (has_failed_at i) (goals_stay plan past rest w number m run others whose) ∙ fits
  ends_later start told (ending.OutputTooLarge i) may fits = ap (is_too_large_at i) (goals_stay plan past rest w number m run others whose) ∙ fits
  ends_later start told ending.NoArtifact may fits = ends plan past rest w number m sound run whose at (has_all (lacking_late (outline_of plan) (course_of (standing_of_run plan past) w) may)) others start told ending.NoArtifact fits
  ends_later start told (ending.Fault device) may fits = tt
  ends_later start told ending.Memory may fits = tt

-- ---- in a turn

-- what is shown of a module that is there holds where one is asked for
pub at_module : {A : Type 0} (a : Option A) (x : A) (P : A → Type 0) → a ≡ Some x → P x → IfSome a P
at_module a x P is holds = subst (λ o. IfSome o P) (sym is) holds

bare_end : (told : Bool) (w : ℕ) (e : Ending) → is_told told (event.End w e) carried.Nothing ≡ true
bare_end true w e = refl
bare_end false w e = refl

module _ (plan : Plan) (lock : TableId) (w : ℕ) (before : Told) (of : IsOf plan lock w before) {S : Type 0} (b : Build S) (is : IsOut plan w before b) (e : Ending) (marked : Bool)
    (may : may_end_so (outline_of plan) (course_by plan w before) e ≡ true) where
  -- it may end so
  pub end_may : names_by plan w before ≡ [] → ending_in_range (outline_of plan) (course_by plan w before) e ≡ true → MayCome b (event.End w (ends_as e marked))
  unfolding Enabled
  end_may held range =
      let course : course_of (standing_of_run plan b.log) w ≡ course_by plan w before = ap (λ log. course_of (standing_of_run plan log) w) is.came.is ∙ course_stays plan (seen_by before) is.came.others w is.came.apart in
      let names : held_by (standing_of_run plan b.log) w ≡ names_by plan w before = ap (λ log. held_by (standing_of_run plan log) w) is.came.is ∙ held_stays plan (seen_by before) is.came.others w is.came.apart in
      subst (λ p. IsEnabled (outline_of p) (standing_of_run p b.log) (event.End w (ends_as e marked))) (sym is.plan_is) (
        is.low,
        subst (λ c. ending_in_range (outline_of plan) c (ends_as e marked) ≡ true) (sym course) (by_settled (λ x. ending_in_range (outline_of plan) (course_by plan w before) x ≡ true) refl refl e marked range),
        names ∙ held,
        subst (λ c. may_end_so (outline_of plan) c (ends_as e marked) ≡ true) (sym course) (settled_may (outline_of plan) (course_by plan w before) e marked may),
      )

  -- and that fits
  pub end_fits : (number : ℕ) (m : PlanModule) → module_by plan (seen_by before) w ≡ Some number → slice_get plan.modules number ≡ Some m → (told : HandTold) → FitsEnd (stood plan (start_by before) (seen_by before) number m) told e
      → Fits plan (start_by before) (λ v. told) b.log (record { event = event.End w (ends_as e marked); carried = carried.Nothing })
  end_fits number m whose at told fits =
      let seen = seen_by before in
      let others = is.came.others in
      let run : IsRunOf plan (seen ++ others) = subst (IsRunOf plan) is.came.is is.run in
      let stays : module_by plan b.log w ≡ Some number = ap (λ log. module_of (course_of (standing_of_run plan log) w)) is.came.is ∙ ap module_of (course_stays plan seen others w is.came.apart) ∙ whose in
      let later : FitsEnd (stood plan (start_by before) b.log number m) told e =
      subst (λ log. FitsEnd (stood plan (start_by before) log number m) told e) (sym is.came.is)
      (ends_later plan seen others w number m of.sound run is.came.apart whose at (start_by before) told e may fits) in (
        bare_end (is_told_by (start_by before) (λ v. told) (event.End w (ends_as e marked))) w (ends_as e marked),
        at_module (module_by plan b.log w) number (λ k. IfSome (slice_get plan.modules k) (λ u. FitsEnd (stood plan (start_by before) b.log k u) told (ends_as e marked))) stays
            (at_module (slice_get plan.modules number) m (λ u. FitsEnd (stood plan (start_by before) b.log number u) told (ends_as e marked)) at
            (by_settled (λ x. FitsEnd (stood plan (start_by before) b.log number m) told x) tt tt e marked later)),
      )
