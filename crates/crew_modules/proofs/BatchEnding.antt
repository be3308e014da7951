-- What fits as a module's end fits still behind the frees before it.
use Rattle.std.proofs.Common.{◌≡◌, ℕ, zero, suc, ◌+◌, ◌<◌, Bool, true, false, not, ◌&&◌, ◌||◌, nat_eq, nat_le, nat_lt, List, [], ◌∷◌, ◌++◌, length, get_or, slice_get, Option, Some, None, is_some, if◌then◌else◌, refl, arith, sym, ap, subst, ◌∙◌}
use Rattle.std.specs.List.{list_all}
use Rattle.std.specs.Option.{option_map_or}
use Rattle.std.proofs.lemmas.Bool.{eqb-true, false≢true}
use Rattle.std.proofs.lemmas.Bool.Decides.{nat_tests}
use Rattle.std.proofs.lemmas.List.{append-nil}
use Rattle.std.proofs.lemmas.List.Elements.{All-get_or}
use Rattle.mvn_shared.specs.Files.{Files}
use Rattle.build_core.specs.declared.mode.Mode.TheVariants.{Shared, Exclusive}
use Rattle.build_core.specs.OneThread.{entries_len, lacks_artifact, most_classpath, own_bytes}
use Rattle.build_core.specs.Slots.{GoalsEnd, kept_of}
use Rattle.build_core.specs.declared.ending.Ending.{Ending}
use Rattle.build_core.specs.declared.ending.Ending.TheVariants as ending
use Rattle.build_core.specs.declared.event.Event.TheVariants as event
use Rattle.build_core.specs.declared.plan.OwnFile.{OwnFile}
use Rattle.build_core.specs.declared.plan.Plan.{Plan}
use Rattle.build_core.specs.declared.plan.PlanModule.{PlanModule}
use Rattle.event_core.specs.declared.entry.Carried.TheVariants as carried
use Rattle.event_core.specs.declared.entry.RunEntry.{RunEntry}
use Rattle.scripts.specs.declared.outline.Outline.{Outline}
use Rattle.event_core.specs.Enabled.{Enabled, IsEnabled, IsRun, ending_in_range, may_end_so, needs_artifact}
use Rattle.scripts.specs.Outlines.{is_listed, outline_of}
use Rattle.event_core.specs.Runs.{IsRunOf, answers_in, events_of, goals_in, module_by, standing_of_run}
use Rattle.scripts.specs.Scripts.{Script, absent, answers, answers_left, fetches, frees, is_there, is_to_install, may_publish, publishes, reads, stage_of, step, takes, whole}
use Rattle.event_core.specs.SoundPlans.{IsSoundPlan}
use Rattle.event_core.specs.Standing.{Course, Standing, after, course_of, goals_of, held_by, idle, module_of, off_course, on_course}
use Rattle.event_core.specs.Worlds.{FitsEnd, HandTold, IsBeyond, has_failed_at, is_good, is_installed, is_too_large_at, stood, was_published}
use Rattle.scripts.proofs.Climbs.{both}
use Rattle.event_core.proofs.Runs.{run_more}
use Rattle.run_law.proofs.Basics.{and_is}
use Rattle.run_law.proofs.Complete.{IsStanding, events_more, standing}
use Rattle.run_law.proofs.LaterMoments.{front, next_is, put_stays}
use Rattle.run_law.proofs.Ready.{all_listed}
use Rattle.run_law.specs.Others.{HasAll}
use Rattle.run_law.proofs.Staying.{course_stays, entries_stay}
use Rattle.run_law.proofs.Ending.{within}
use Rattle.crew_turns.proofs.Ends.{IsLate, has_all}
use Rattle.crew_turns.proofs.Taken.{itself}
use Rattle.atomic_table.specs.Seated.{TableId}
use Rattle.crew_turns.specs.Seen.{Follows, IsOf, Steps, Told, course_by, names_by, seen_by, start_by, there_by}
use Rattle.crew_turns.specs.Tasks.{IsTask, ModuleTask, plan_outline, stood_by}
use Rattle.crew_turns.specs.Endings.{endings_of}
use Rattle.crew_turns.specs.Stops.{HasEnded, MayEnd, freed_course}
use Rattle.crew_modules.proofs.Freeing.{IsFreed, freed_first, freed_module, freed_more, listed_here, low_worker}
use Rattle.crew_modules.proofs.NoEnds.{ended_none, one_more, opened_more}
use Rattle.crew_modules.proofs.Stepping.{Freed, log_freed}
use Rattle.crew_modules.proofs.Taking.{follows_both, start_same}

-- ---- all frees at once

-- a name that is listed is held, and is one of the names
free_may : (o : Outline) (now : Standing) (w n : ℕ) → IsStanding o now → w < o.workers → is_listed n (held_by now w) ≡ true → IsEnabled o now (event.Free w n)
free_may o now w n s low listed =
    let rows = s.fit.rows in
    let all = All-get_or (λ t. list_all (λ h. nat_lt h o.names) t ≡ true) now.held w [] (omega (arith, low, rows)) s.fit.low in
    (low, below n o.names (all_listed (λ h. nat_lt h o.names) (held_by now w) all n listed), s.tied.held w n low listed)
  where
    below : (a b : ℕ) → nat_lt a b ≡ true → a < b
    below a b is = grind (arith, nat_tests, is)

module _ (plan : Plan) (w : ℕ) (names : List ℕ) (first : Course) (worker : w < plan.workers) where
  abbrev o : Outline
  o = outline_of plan

  -- a run in which the names are freed at once
  record IsFreedRun (there : List Bool) : Type 0 where
    log : List RunEntry
    run : IsRunOf plan log
    freed : IsFreed plan w names first (length names) log
    same : (standing_of_run plan log).there ≡ there

  free_run : (k at : ℕ) (log : List RunEntry) → k + at ≡ length names → IsRunOf plan log → IsFreed plan w names first at log → IsFreedRun (standing_of_run plan log).there
  unfolding Enabled after
  free_run zero at log all run is = let whole_is : at ≡ length names = omega (arith, all) in record { log = log; run = run; freed = subst (λ n. IsFreed plan w names first n log) whole_is is; same = refl }
  free_run (suc k) at log all run is =
      let n = get_or names at 0 in
      let e : RunEntry = record { event = event.Free w n; carried = carried.Nothing } in
      let s = standing o (events_of log) run in
      let low : at < length names = omega (arith, all) in
      let listed : is_listed n (held_by (standing_of_run plan log) w) ≡ true = ap (is_listed n) is.held ∙ listed_here names at low in
      let longer : IsRunOf plan (log ++ e ∷ []) = subst (IsRun o []) (sym (events_more log e)) (run_more o [] (events_of log) (event.Free w n) run (free_may o (standing_of_run plan log) w n s worker listed)) in
      let same : (standing_of_run plan (log ++ e ∷ [])).there ≡ (standing_of_run plan log).there = ap (λ (now : Standing). now.there) (next_is plan 0 log e) in
      let freed : Freed o (held_by (standing_of_run plan log) w) (course_of (standing_of_run plan log) w) w n (standing_of_run plan (log ++ e ∷ [])) =
      subst (λ l. Freed o (held_by (standing_of_run plan log) w) (course_of (standing_of_run plan log) w) w n (standing_of_run plan (l ++ e ∷ []))) (append-nil log)
      (log_freed plan log [] w n refl carried.Nothing (subst (λ l. IsRunOf plan (l ++ e ∷ [])) (sym (append-nil log)) longer)) in
      let last_run = free_run k (at + 1) (log ++ e ∷ []) (omega (arith, all)) longer (freed_more plan w names first at log (log ++ e ∷ []) low s worker is freed) in
      record { log = last_run.log; run = last_run.run; freed = last_run.freed; same = last_run.same ∙ same }

-- ---- who may end with all files there, once its names are freed, has them all before

module _ (plan : Plan) (past : List RunEntry) (w number : ℕ) (m : PlanModule) (sound : IsSoundPlan plan) (run : IsRunOf plan past) (whose : module_by plan past w ≡ Some number) (at : slice_get plan.modules number ≡ Some m)
    (names : List ℕ) (held : held_by (standing_of_run plan past) w ≡ names) where
  pub all_before : IsLate (freed_course (outline_of plan) (standing_of_run plan past).there names (course_of (standing_of_run plan past) w)) → HasAll plan past m
  all_before late =
      let now = standing_of_run plan past in
      let course = course_of now w in
      let worker = low_worker plan past w number run whose in
      let last_run = free_run plan w names course worker (length names) 0 past (omega arith) run (freed_first plan w names past held) in
      let is : course_of (standing_of_run plan last_run.log) w ≡ freed_course (outline_of plan) now.there names course = last_run.freed.all (omega arith) ∙ ap (λ there. freed_course (outline_of plan) there names course) last_run.same in
      let all : HasAll plan last_run.log m =
      has_all plan last_run.log [] w number m sound (subst (IsRunOf plan) (sym (append-nil last_run.log)) last_run.run) refl
      (ap module_of is ∙ freed_module (outline_of plan) now.there names course ∙ whose) at (subst IsLate (sym is) late) in
      subst (λ there. list_all (is_there there) m.fetch ≡ true) last_run.same all

-- ---- when a worker may end

built_late : (o : Outline) (c : Course) → may_end_so o c ending.Built ≡ true → IsLate c
built_late o idle may = absurd (false≢true may)
built_late o (on_course m whole last) may = refl
built_late o (on_course m (absent files this that) last) may = absurd (false≢true may)
built_late o (on_course m (step stage s rest) last) may = absurd (false≢true may)
built_late o (off_course m file gathered) may = absurd (false≢true may)

to_install_late : (s : Script) → is_to_install s ≡ true → nat_lt 3 (stage_of s) ≡ true
to_install_late whole is = refl
to_install_late (absent files this that) is = absurd (false≢true is)
to_install_late (step stage (takes Shared n) rest) is = absurd (false≢true is)
to_install_late (step stage (takes Exclusive n) rest) is = ap (nat_lt 3) (eqb-true stage 6 is)
to_install_late (step stage frees rest) is = absurd (false≢true is)
to_install_late (step stage (reads f) rest) is = absurd (false≢true is)
to_install_late (step stage (fetches f) rest) is = absurd (false≢true is)
to_install_late (step stage (publishes f) rest) is = absurd (false≢true is)
to_install_late (step stage (may_publish f) rest) is = absurd (false≢true is)
to_install_late (step stage (answers g) rest) is = absurd (false≢true is)

lacking_late : (o : Outline) (c : Course) → may_end_so o c ending.NoArtifact ≡ true → IsLate c
lacking_late o idle may = absurd (false≢true may)
lacking_late o (on_course m script last) may = to_install_late script (both (is_to_install script) (needs_artifact o m) may).0
lacking_late o (off_course m file gathered) may = absurd (false≢true may)

large_late : (o : Outline) (c : Course) → may_end_so o c ending.ClasspathTooLarge ≡ true → IsLate c
large_late o idle may = absurd (false≢true may)
large_late o (on_course m script last) may = (both (nat_lt 3 (stage_of script)) (nat_eq (answers_left script) (goals_of o m)) may).0
large_late o (off_course m file gathered) may = may

-- the numbers of an ending are in range by the module alone
pub same_range : (o : Outline) (a b : Course) (e : Ending) → module_of a ≡ module_of b → ending_in_range o b e ≡ true → ending_in_range o a e ≡ true
same_range o a b ending.Built same is = refl
same_range o a b (ending.Missing file) same is = is
same_range o a b ending.ClasspathTooLarge same is = refl
same_range o a b (ending.Goal i) same is = ap (λ found. option_map_or (λ m. nat_lt i (goals_of o m)) found true) same ∙ is
same_range o a b (ending.OutputTooLarge i) same is = ap (λ found. option_map_or (λ m. nat_lt i (goals_of o m)) found true) same ∙ is
same_range o a b ending.NoArtifact same is = refl
same_range o a b (ending.Fault device) same is = refl
same_range o a b ending.Memory same is = refl

-- ---- what fitted fits, where the goals stand as they did

-- what holds of all, one by one, holds of all where each keeps it
all_over : (p q : OwnFile → Bool) → ((o : OwnFile) → p o ≡ true → q o ≡ true) → (own : List OwnFile) → list_all p own ≡ true → list_all q own ≡ true
all_over p q more [] is = refl
all_over p q more (o ∷ own) is = let parts = both (p o) (list_all p own) is in and_is (q o) (list_all q own) (more o parts.0) (all_over p q more own parts.1)

-- one of two holds, and the second may come to hold
either : (a b c : Bool) → (a || b) ≡ true → (b ≡ true → c ≡ true) → (a || c) ≡ true
either true b c is more = refl
either false b c is more = more is

module _ (plan : Plan) (past rest : List RunEntry) (w number : ℕ) (m : PlanModule) (sound : IsSoundPlan plan) (run : IsRunOf plan (past ++ rest)) (whose : module_by plan past w ≡ Some number)
    (at : slice_get plan.modules number ≡ Some m) (goals : goals_in (answers_in plan (past ++ rest)) number m ≡ goals_in (answers_in plan past) number m) where
  by_goals : (P : GoalsEnd → Bool) (b : Bool) → P (goals_in (answers_in plan past) number m) ≡ b → P (goals_in (answers_in plan (past ++ rest)) number m) ≡ b
  by_goals P b is = ap P goals ∙ is

  beyond : HasAll plan past m → (start : Option Files) → IsBeyond (stood plan start past number m) → IsBeyond (stood plan start (past ++ rest) number m)
  beyond all None is = tt
  beyond all (Some files) is = ap (λ paths. nat_le (entries_len paths) most_classpath) (entries_stay plan files past rest w number m sound run whose at all) ∙ is

  installed : (start : Option Files) → is_installed (stood plan start past number m) ≡ true → is_installed (stood plan start (past ++ rest) number m) ≡ true
  installed start is =
      all_over (λ (o : OwnFile). not (is_some (own_bytes m (kept_of (goals_in (answers_in plan past) number m)) o.slot)) || was_published past o.file)
      (λ (o : OwnFile). not (is_some (own_bytes m (kept_of (goals_in (answers_in plan (past ++ rest)) number m)) o.slot)) || was_published (past ++ rest) o.file)
      (λ o here. ap (λ g. not (is_some (own_bytes m (kept_of g) o.slot)) || was_published (past ++ rest) o.file) goals
      ∙ either (not (is_some (own_bytes m (kept_of (goals_in (answers_in plan past) number m)) o.slot))) (was_published past o.file) (was_published (past ++ rest) o.file) here (λ put. put_stays past rest o.file put))
      m.own is

  module _ (names : List ℕ) (held : held_by (standing_of_run plan past) w ≡ names) (start : Option Files) (told : HandTold) where
    abbrev freed : Course
    freed = freed_course (outline_of plan) (standing_of_run plan past).there names (course_of (standing_of_run plan past) w)

    all : IsLate freed → HasAll plan past m
    all late = all_before plan past w number m sound (front plan past rest run).0 whose at names held late

    pub ends_later : (e : Ending) → may_end_so (outline_of plan) freed e ≡ true → FitsEnd (stood plan start past number m) told e → FitsEnd (stood plan start (past ++ rest) number m) told e
    ends_later ending.Built may is = (
      within plan past rest w number m sound run whose at (all (built_late (outline_of plan) freed may)) start is.0,
      by_goals is_good true is.1,
      either (not m.installs) (is_installed (stood plan start past number m)) (is_installed (stood plan start (past ++ rest) number m)) is.2 (λ put. installed start put),
      by_goals (λ g. m.installs && lacks_artifact m (kept_of g)) false is.3,
    )
    ends_later (ending.Missing file) may is = is
    ends_later ending.ClasspathTooLarge may is = beyond (all (large_late (outline_of plan) freed may)) start is
    ends_later (ending.Goal i) may is = by_goals (has_failed_at i) true is
    ends_later (ending.OutputTooLarge i) may is = by_goals (is_too_large_at i) true is
    ends_later ending.NoArtifact may is = (
      within plan past rest w number m sound run whose at (all (lacking_late (outline_of plan) freed may)) start is.0,
      by_goals is_good true is.1,
      by_goals (λ g. m.installs && lacks_artifact m (kept_of g)) true is.2,
    )
    ends_later (ending.Fault device) may is = tt
    ends_later ending.Memory may is = tt

-- ---- a module is ended behind the frees

module _ (t : ModuleTask) (lock : TableId) (names : List ℕ) (e : Ending) (before mid : Told) (held : names_by t.plan t.worker before ≡ names) (may : MayEnd t e before)
    (course : course_by t.plan t.worker mid ≡ freed_course (plan_outline t) (there_by t.plan mid) names (course_by t.plan t.worker before)) where
  same_module : module_of (course_by t.plan t.worker mid) ≡ module_of (course_by t.plan t.worker before)
  same_module = ap module_of course ∙ freed_module (plan_outline t) (there_by t.plan mid) names (course_by t.plan t.worker before)

  pub whose_freed : module_by t.plan (seen_by mid) t.worker ≡ Some t.number
  whose_freed = same_module ∙ may.whose

  may_freed : (there : List Bool) → may_end_so (plan_outline t) (freed_course (plan_outline t) there names (course_by t.plan t.worker before)) e ≡ true
  may_freed there = subst (λ ns. may_end_so (plan_outline t) (freed_course (plan_outline t) there ns (course_by t.plan t.worker before)) e ≡ true) held (may.ends there)

  pub may_here : may_end_so (plan_outline t) (course_by t.plan t.worker mid) e ≡ true
  may_here = ap (λ c. may_end_so (plan_outline t) c e) course ∙ may_freed (there_by t.plan mid)

  pub range_here : ending_in_range (plan_outline t) (course_by t.plan t.worker mid) e ≡ true
  range_here = same_range (plan_outline t) (course_by t.plan t.worker mid) (course_by t.plan t.worker before) e same_module may.range

  module _ (of : IsOf t.plan lock t.worker mid) (follows : Follows before mid) where
    run_mid : IsRunOf t.plan (seen_by before ++ follows.log.0)
    run_mid = subst (IsRunOf t.plan) follows.log.1 of.run

    -- none ended by the frees
    ended_mid : endings_of t.worker (seen_by mid) ≡ endings_of t.worker (seen_by before)
    ended_mid =
        ap (endings_of t.worker) follows.log.1
        ∙ ended_none t.plan t.worker t.number (seen_by before) follows.log.0 run_mid may.whose (subst (λ log. module_by t.plan log t.worker ≡ Some t.number) follows.log.1 whose_freed)

    pub has_ended : (result : Ending) (pass : Told) → Steps t.plan lock t.worker (event.End t.worker result) mid pass → HasEnded t lock result before pass
    has_ended result pass turn =
        let out = seen_by mid ++ turn.others in
        let entry : RunEntry = record { event = event.End t.worker result; carried = turn.what } in
        let run : IsRunOf t.plan (out ++ entry ∷ []) = subst (IsRunOf t.plan) turn.log turn.of.run in
        let behind = (front t.plan out (entry ∷ []) run).0 in
        let whose : module_by t.plan out t.worker ≡ Some t.number = ap module_of (course_stays t.plan (seen_by mid) turn.others t.worker turn.apart) ∙ whose_freed in
        record {
          of = turn.of;
          follows = follows_both before mid pass follows turn.follows;
          ended =
              ap (endings_of t.worker) turn.log
              ∙ one_more t.worker out entry result (ap (λ b. if b then Some result else None) (itself t.worker))
              ∙ ap (λ es. es ++ result ∷ []) (ended_none t.plan t.worker t.number (seen_by mid) turn.others behind whose_freed whose ∙ ended_mid);
          idle =
              ap (λ log. module_by t.plan log t.worker) turn.log
              ∙ opened_more t.plan t.worker t.number out entry run whose
              ∙ ap (λ b. if b then None else Some t.number) (itself t.worker);
        }

    pub fits_freed : IsTask t → (stood_by t mid).goals ≡ (stood_by t before).goals → (told : HandTold) → FitsEnd (stood_by t before) told e → FitsEnd (stood_by t mid) told e
    fits_freed task goals told is =
        subst (λ start. FitsEnd (stood t.plan start (seen_by mid) t.number t.unit) told e) (sym (start_same before mid follows))
        (subst (λ log. FitsEnd (stood t.plan (start_by before) log t.number t.unit) told e) (sym follows.log.1)
        (ends_later t.plan (seen_by before) follows.log.0 t.worker t.number t.unit of.sound run_mid may.whose task
        (ap (λ log. goals_in (answers_in t.plan log) t.number t.unit) (sym follows.log.1) ∙ goals) names held (start_by before) told e (may_freed (there_by t.plan before)) is))
