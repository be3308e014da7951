-- What entries of other workers leave as it was.
use Rattle.std.proofs.Common.{◌≡◌, ℕ, ◌<◌, ◌⊎◌, inl, inr, Bool, true, false, cond, not, ◌&&◌, nat_eq, nat_lt, List, [], ◌∷◌, ◌++◌, length, map, filter, find, set, slice_get, Option, Some, None, refl, arith, sym, ap, subst, ◌∙◌, if◌then◌else◌}
use Rattle.std.specs.List.{list_all}
use Rattle.std.specs.Option.{option_map_or}
use Rattle.std.specs.FinMap as finite
use Rattle.std.specs.Ordering.{eq_by_cmp, nat_cmp}
use Rattle.std.specs.Cmp.Lexicographic.{slice_cmp}
use Rattle.std.proofs.lemmas.Bool.{false≢true}
use Rattle.std.proofs.lemmas.Bool.Decides.{nat_tests}
use Rattle.std.proofs.lemmas.List.{append-nil, append_assoc, get_or-set_other, length-set}
use Rattle.mvn_shared.specs.Files.{Files, file_at}
use Rattle.goal_types.specs.declared.goal.GoalCall.{GoalCall}
use Rattle.goal_types.specs.declared.goal.OwnBytes.{OwnBytes}
use Rattle.build_core.specs.OneThread.{answer_at, is_needed, name_of, origin_bytes, output_of, path_entry, request}
use Rattle.build_core.specs.Slots.{run_goals}
use Rattle.build_core.specs.declared.event.Answered.{Answered}
use Rattle.build_core.specs.declared.event.Event.{Event}
use Rattle.build_core.specs.declared.event.Event.TheVariants as event
use Rattle.build_core.specs.declared.plan.Entry.{Entry}
use Rattle.build_core.specs.declared.plan.Origin.{Origin}
use Rattle.build_core.specs.declared.plan.Origin.TheVariants as origin
use Rattle.build_core.specs.declared.plan.OwnFile.{OwnFile}
use Rattle.build_core.specs.declared.plan.Plan.{Plan}
use Rattle.build_core.specs.declared.plan.PlanModule.{PlanModule}
use Rattle.scripts.specs.declared.deed.Deed.TheVariants as deed
use Rattle.event_core.specs.declared.entry.Carried.{Carried}
use Rattle.event_core.specs.declared.entry.Carried.TheVariants as carried
use Rattle.event_core.specs.declared.entry.RunEntry.{RunEntry}
use Rattle.scripts.specs.declared.outline.ModuleOutline.{ModuleOutline}
use Rattle.scripts.specs.declared.outline.Outline.{Outline}
use Rattle.event_core.specs.declared.module_steps.Progress.{Progress}
use Rattle.event_core.specs.declared.module_steps.Progress.TheVariants.{Running}
use Rattle.scripts.specs.Climbing.{but}
use Rattle.event_core.specs.Enabled.{Enabled, IsEnabled, IsRun, is_due}
use Rattle.scripts.specs.Outlines.{is_empty, is_listed, module_outline, outline_of}
use Rattle.event_core.specs.Runs.{IsRunOf, answers_in, contents, events_of, goals_in, kept_by, module_by, outputs_in, put_carried, standing_of_run}
use Rattle.scripts.specs.Scripts.{Script, is_there, settled, stage_of, wanted}
use Rattle.event_core.specs.SoundPlans.{IsSoundPlan, is_backed}
use Rattle.event_core.specs.HowFar.{is_done, is_over, progress_of, upstream_of}
use Rattle.event_core.specs.Standing.{Standing, after, after_deed, after_free, course_of, held_by, idle, module_of, on_course, standing_of, start_of}
use Rattle.scripts.proofs.Climbs.{both}
use Rattle.event_core.proofs.Fits.{fold_more}
use Rattle.run_law.specs.Given.{outputs_after}
use Rattle.run_law.proofs.Absent.{Stands, IsAbsentAt, found, stands}
use Rattle.run_law.proofs.Basics.{not_not}
use Rattle.run_law.proofs.Carried.{at_insert}
use Rattle.run_law.proofs.Complete.{IsStanding, by_events, standing, standing_after, standing_first}
use Rattle.run_law.proofs.Courses.{courses_after, courses_first, due_file}
use Rattle.run_law.proofs.Ended.{find_gone}
use Rattle.run_law.proofs.RunGathering.{all_here, gathering_after, gathering_first, late_none}
use Rattle.run_law.proofs.Invariants.{AreCoursesFit, AreGathering, IsFetchFile, IsGathering, files_fit, is_begun}
use Rattle.run_law.proofs.Kept.{answers_more, other_answers}
use Rattle.run_law.proofs.LaterMoments.{front, keeps_outputs, next_is, there_stays}
use Rattle.run_law.proofs.Ordered.{IsOrdered, done_over, ordered_after, ordered_first}
use Rattle.run_law.proofs.Owns.{not_same}
use Rattle.run_law.proofs.Ready.{all_listed}
use Rattle.run_law.proofs.Sounds.{fetch_low, sound_fit}
use Rattle.run_law.proofs.Stored.{due_on, get_map}
use Rattle.run_law.specs.Others.{AreOthers, HasAll, is_of}

-- equal numbers pass the test
same_is : (v w : ℕ) → w ≡ v → nat_eq v w ≡ true
same_is v w same = grind (arith, nat_tests)

-- numbers that don't pass it differ
apart : (v w : ℕ) → nat_eq v w ≡ false → w ≡ v → ⊥
apart v w other same = false≢true (sym other ∙ same_is v w same)

-- what isn't refused isn't true
refused : (b : Bool) → not b ≡ true → b ≡ false
refused true is = absurd (false≢true is)
refused false is = refl

-- the first of entries that are others' is, and so are those behind it
pub split : (w : ℕ) (e : RunEntry) (rest : List RunEntry) → AreOthers w (e ∷ rest) → (is_of w e.event ≡ false) × AreOthers w rest
split w e rest others =
    let parts = both (not (is_of w e.event)) (list_all (λ (x : RunEntry). not (is_of w x.event)) rest) others in
    (refused (is_of w e.event) parts.0, parts.1)

-- the worker that a module runs on
abbrev runner : Progress → ℕ
runner (Running w) = w
runner other = 0

-- ---- what a worker is at, and what it holds

-- another worker's event leaves what a worker is at
other_course : (o : Outline) (now : Standing) (w : ℕ) (e : Event) → is_of w e ≡ false → course_of (after o now e) w ≡ course_of now w
unfolding after
other_course o now w (event.Start v m) other = get_or-set_other now.courses v w (on_course m (settled now.there (is_empty (held_by now v)) (start_of o m)) None) idle (apart v w other)
other_course o now w (event.Skip m) other = refl
other_course o now w (event.Take v n mode) other = get_or-set_other now.courses v w (after_deed now.there (held_by (record now { held = set now.held v (held_by now v ++ n ∷ []) }) v) (deed.Take mode n) None (course_of now v)) idle (apart v w other)
other_course o now w (event.Free v n) other = get_or-set_other now.courses v w (after_free o now.there (held_by (record now { held = set now.held v (but n (held_by now v)) }) v) (course_of now v)) idle (apart v w other)
other_course o now w (event.Read v f) other = get_or-set_other now.courses v w (after_deed now.there (held_by now v) (deed.Read f) None (course_of now v)) idle (apart v w other)
other_course o now w (event.Publish v f) other = get_or-set_other now.courses v w (after_deed (set now.there f true) (held_by now v) (deed.Publish f) None (course_of now v)) idle (apart v w other)
other_course o now w (event.Answer v g) other = get_or-set_other now.courses v w (after_deed now.there (held_by now v) (deed.Answer g) (Some g) (course_of now v)) idle (apart v w other)
other_course o now w (event.End v x) other = get_or-set_other now.courses v w idle idle (apart v w other)

-- and what it holds
other_held : (o : Outline) (now : Standing) (w : ℕ) (e : Event) → is_of w e ≡ false → held_by (after o now e) w ≡ held_by now w
unfolding after
other_held o now w (event.Start v m) other = refl
other_held o now w (event.Skip m) other = refl
other_held o now w (event.Take v n mode) other = get_or-set_other now.held v w (held_by now v ++ n ∷ []) [] (apart v w other)
other_held o now w (event.Free v n) other = get_or-set_other now.held v w (but n (held_by now v)) [] (apart v w other)
other_held o now w (event.Read v f) other = refl
other_held o now w (event.Publish v f) other = refl
other_held o now w (event.Answer v g) other = refl
other_held o now w (event.End v x) other = refl

module _ (plan : Plan) where
  abbrev o : Outline
  o = outline_of plan

  -- what one more entry of another leaves, all of them leave
  by_others : {X : Type 0} (f : Standing → X) (w : ℕ) → ((now : Standing) (e : Event) → is_of w e ≡ false → f (after o now e) ≡ f now)
      → (past rest : List RunEntry) → AreOthers w rest → f (standing_of_run plan (past ++ rest)) ≡ f (standing_of_run plan past)
  by_others f w step past [] others = ap (λ es. f (standing_of_run plan es)) (append-nil past)
  by_others f w step past (e ∷ rest) others =
      let parts = split w e rest others in
      ap (λ es. f (standing_of_run plan es)) (sym (append_assoc past (e ∷ []) rest))
      ∙ by_others f w step (past ++ e ∷ []) rest parts.1
      ∙ ap f (next_is plan 0 past e) ∙ step (standing_of_run plan past) e.event parts.0

  -- entries of others leave what a worker is at
  pub course_stays : (past rest : List RunEntry) (w : ℕ) → AreOthers w rest → course_of (standing_of_run plan (past ++ rest)) w ≡ course_of (standing_of_run plan past) w
  course_stays past rest w others = by_others (λ now. course_of now w) w (λ now e other. other_course o now w e other) past rest others

  -- and what it holds
  pub held_stays : (past rest : List RunEntry) (w : ℕ) → AreOthers w rest → held_by (standing_of_run plan (past ++ rest)) w ≡ held_by (standing_of_run plan past) w
  held_stays past rest w others = by_others (λ now. held_by now w) w (λ now e other. other_held o now w e other) past rest others

  -- ---- answers

  -- another worker's entry keeps no answer of a worker's module
  kept_other : (past : List RunEntry) → IsStanding o (standing_of_run plan past) → (w number : ℕ) → module_by plan past w ≡ Some number
      → (kept : List Answered) (e : Event) (what : Carried) → is_of w e ≡ false → answer_at (kept ++ kept_by plan past e what) number ≡ answer_at kept number
  kept_other past s w number at kept (event.Answer v g) (carried.Answered answer) other = by (module_by plan past v) refl
    where
      by : (its : Option ℕ) → module_by plan past v ≡ its → answer_at (kept ++ option_map_or (λ m. (record { «module» = m; goal = g; answer = answer }) ∷ []) its []) number ≡ answer_at kept number
      by None e = ap (λ xs. answer_at xs number) (append-nil kept)
      by (Some k) e = other_answers kept (record { «module» = k; goal = g; answer = answer }) number
          (not_same k number (λ same. apart v w other (sym (ap runner (sym (s.tied.busy v k e) ∙ ap (λ x. progress_of (standing_of_run plan past).progress x) same ∙ s.tied.busy w number at)))))
  kept_other past s w number at kept (event.Answer v g) carried.Nothing other = ap (λ xs. answer_at xs number) (append-nil kept)
  kept_other past s w number at kept (event.Answer v g) (carried.Published bytes) other = ap (λ xs. answer_at xs number) (append-nil kept)
  kept_other past s w number at kept (event.Start v m) what other = ap (λ xs. answer_at xs number) (append-nil kept)
  kept_other past s w number at kept (event.Skip m) what other = ap (λ xs. answer_at xs number) (append-nil kept)
  kept_other past s w number at kept (event.Take v n mode) what other = ap (λ xs. answer_at xs number) (append-nil kept)
  kept_other past s w number at kept (event.Free v n) what other = ap (λ xs. answer_at xs number) (append-nil kept)
  kept_other past s w number at kept (event.Read v f) what other = ap (λ xs. answer_at xs number) (append-nil kept)
  kept_other past s w number at kept (event.Publish v f) what other = ap (λ xs. answer_at xs number) (append-nil kept)
  kept_other past s w number at kept (event.End v x) what other = ap (λ xs. answer_at xs number) (append-nil kept)

  -- the answers of a worker's module stay
  answers_stay : (past rest : List RunEntry) (w number : ℕ) → IsRunOf plan (past ++ rest) → AreOthers w rest → module_by plan past w ≡ Some number → answer_at (answers_in plan (past ++ rest)) number ≡ answer_at (answers_in plan past) number
  answers_stay past [] w number run others at = ap (λ es. answer_at (answers_in plan es) number) (append-nil past)
  answers_stay past (e ∷ rest) w number run others at =
      let parts = split w e rest others in
      let whole = append_assoc past (e ∷ []) rest in
      let here : module_by plan (past ++ e ∷ []) w ≡ Some number = ap module_of (ap (λ now. course_of now w) (next_is plan 0 past e) ∙ other_course o (standing_of_run plan past) w e.event parts.0) ∙ at in
      let s = standing o (events_of past) (front plan past (e ∷ rest) run).0 in
      ap (λ es. answer_at (answers_in plan es) number) (sym whole)
      ∙ answers_stay (past ++ e ∷ []) rest w number (subst (IsRunOf plan) (sym whole) run) parts.1 here
      ∙ ap (λ xs. answer_at xs number) (answers_more plan past e)
      ∙ kept_other past s w number at (answers_in plan past) e.event e.carried parts.0

  -- so do its goals
  pub goals_stay : (past rest : List RunEntry) (w number : ℕ) (m : PlanModule) → IsRunOf plan (past ++ rest) → AreOthers w rest → module_by plan past w ≡ Some number → goals_in (answers_in plan (past ++ rest)) number m ≡ goals_in (answers_in plan past) number m
  goals_stay past rest w number m run others at = ap (λ answers. run_goals m.budget answers 0 m.goals []) (answers_stay past rest w number run others at)

  -- a file that is there stays there
  pub file_stays : (past rest : List RunEntry) (f : ℕ) → IsRunOf plan (past ++ rest) → is_there (standing_of_run plan past).there f ≡ true → is_there (standing_of_run plan (past ++ rest)).there f ≡ true
  file_stays past rest f run there = there_stays plan past rest f (front plan past rest run).1 there

  -- ---- upstreams

  -- what a worker builds has upstreams that are built
  record IsSteady (now : Standing) : Type 0 where
    standing : IsStanding o now
    ordered : IsOrdered o now

  steady : (events : List Event) → IsRun o [] events → IsSteady (standing_of o events)
  steady events run = by_events o IsSteady (λ now e s is. record { standing = standing_after o now e s.standing is; ordered = ordered_after o now e s.standing s.ordered is }) [] events (record { standing = standing_first o; ordered = ordered_first o }) run

  -- an upstream of what a worker builds is over
  upstream_over : (now : Standing) → IsSteady now → (w number u : ℕ) (m : PlanModule) → module_of (course_of now w) ≡ Some number → slice_get plan.modules number ≡ Some m → is_listed u m.upstream ≡ true → is_over (progress_of now.progress u) ≡ true
  upstream_over now s w number u m at is listed =
      let ups : upstream_of o number ≡ m.upstream = ap (λ found. option_map_or (λ (x : ModuleOutline). x.upstream) found []) (get_map module_outline plan.modules number m is) in
      let begun : is_begun (progress_of now.progress number) ≡ true = ap is_begun (s.standing.tied.busy w number at) in
      let none = subst (λ xs. find (λ u. not (is_done (progress_of now.progress u))) xs ≡ None) ups (s.ordered.begun number begun) in
      done_over (progress_of now.progress u) (not_not (is_done (progress_of now.progress u)) (find_gone (λ u. not (is_done (progress_of now.progress u))) m.upstream none u listed))

  -- so what it kept stays
  pub upstream_stays : (past rest : List RunEntry) (w number u : ℕ) (m : PlanModule) → IsRunOf plan (past ++ rest) → module_by plan past w ≡ Some number → slice_get plan.modules number ≡ Some m → is_listed u m.upstream ≡ true → outputs_after plan (past ++ rest) u ≡ outputs_after plan past u
  upstream_stays past rest w number u m run at is listed =
      let parts = front plan past rest run in
      keeps_outputs plan u past rest parts.0 parts.1 (upstream_over (standing_of_run plan past) (steady (events_of past) parts.0) w number u m at is listed)

  -- ---- gathering

  record IsFull (now : Standing) : Type 0 where
    courses : AreCoursesFit o now
    gathering : AreGathering o now
    sized : length now.there ≡ length o.present

  -- marks keep their number
  sized_after : (now : Standing) (e : Event) → length (after o now e).there ≡ length now.there
  unfolding after
  sized_after now (event.Start v m) = refl
  sized_after now (event.Skip m) = refl
  sized_after now (event.Take v n mode) = refl
  sized_after now (event.Free v n) = refl
  sized_after now (event.Read v f) = refl
  sized_after now (event.Publish v f) = length-set now.there f true
  sized_after now (event.Answer v g) = refl
  sized_after now (event.End v x) = refl

  full : (events : List Event) → IsRun o [] events → IsFull (standing_of o events)
  full events run = by_events o IsFull
      (λ now e s is. record { courses = courses_after o now e s.courses; gathering = gathering_after o now e s.courses s.gathering is s.sized; sized = sized_after now e ∙ s.sized })
      [] events (record { courses = courses_first o; gathering = gathering_first o; sized = refl }) run

  -- from the reading on all that a module fetches is there
  pub gathered : (past : List RunEntry) (w number : ℕ) (m : PlanModule) (script : Script) (last : Option ℕ) → IsRunOf plan past
      → course_of (standing_of_run plan past) w ≡ on_course number script last → slice_get plan.modules number ≡ Some m → nat_lt 3 (stage_of script) ≡ true → HasAll plan past m
  gathered past w number m script last run on at late =
      let now = standing_of_run plan past in
      let is : IsGathering o now.there (on_course number script last) = subst (IsGathering o now.there) on ((full (events_of past) run).gathering w) in
      let mine = is (module_outline m) (get_map module_outline plan.modules number m at) in
      all_here now.there m.fetch (Rattle.run_law.proofs.Invariants.pending script) mine.1 (late_none m.fetch script mine.0 late)

  -- ---- files

  module _ (sound : IsSoundPlan plan) (start : Files) (f : ℕ) (fetch : IsFetchFile plan f) where
    -- a file that is there isn't published, if it is one that is fetched
    never : (now : Standing) → Stands plan sound now → is_there now.there f ≡ true → (v g : ℕ) → is_due (course_of now v) (deed.Publish g) ≡ true → f ≡ g → ⊥
    never now s there v g due same = by (due_on (course_of now v) (deed.Publish g) due)
      where
        by : (k : ℕ) × (script : Script) × (last : Option ℕ) × (course_of now v ≡ on_course k script last) → ⊥
        by x = which (due_file m.0.fetch (map (λ (x : OwnFile). x.file) m.0.own) x.1 g m.2 (subst (λ c. is_due c (deed.Publish g) ≡ true) x.3 due))
          where
            m : (m : PlanModule) × (slice_get plan.modules x.0 ≡ Some m) × (files_fit m.fetch (map (λ (x : OwnFile). x.file) m.own) x.1 ≡ true)
            m = found plan sound now s v x.0 x.1 x.2 x.3

            absent : IsAbsentAt now.there (on_course x.0 x.1 x.2)
            absent = subst (IsAbsentAt now.there) x.3 (s.absent v)

            which : ((wanted x.1 ≡ Some g) × (is_listed g m.0.fetch ≡ true)) ⊎ (is_listed g (map (λ (x : OwnFile). x.file) m.0.own) ≡ true) → ⊥
            which (inl wants) = false≢true (sym (absent g wants.0) ∙ subst (λ k. is_there now.there k ≡ true) same there)
            which (inr own) = false≢true (sym (sound.not_fetched g x.0 fetch.0 m.0 fetch.1 m.1 fetch.2 own) ∙ subst (λ k. is_listed k fetch.1.fetch ≡ true) same fetch.3)

    -- so its bytes stay behind each entry
    put_step : (now : Standing) → Stands plan sound now → is_there now.there f ≡ true → (files : Files) (e : Event) (what : Carried) → IsEnabled o now e → file_at (put_carried plan files e what) (name_of plan f) ≡ file_at files (name_of plan f)
    put_step now s there files (event.Publish v g) (carried.Published bytes) is = by (eq_by_cmp (slice_cmp nat_cmp) (name_of plan f) (name_of plan g)) refl
      where
        low : g < length plan.files
        low = let a = is.1 in let b = sound.present in omega (arith, a, b)

        by : (b : Bool) → eq_by_cmp (slice_cmp nat_cmp) (name_of plan f) (name_of plan g) ≡ b → file_at (finite.insert files (name_of plan g) bytes) (name_of plan f) ≡ file_at files (name_of plan f)
        by true e = absurd (never now s there v g is.2 ((sound_fit plan sound).differ f g (fetch_low plan sound f fetch) low e))
        by false e = at_insert files (name_of plan g) bytes (name_of plan f) ∙ ap (λ b. cond b (Some bytes) (file_at files (name_of plan f))) e
    put_step now s there files (event.Publish v g) carried.Nothing is = refl
    put_step now s there files (event.Publish v g) (carried.Answered answer) is = refl
    put_step now s there files (event.Start v m) what is = refl
    put_step now s there files (event.Skip m) what is = refl
    put_step now s there files (event.Take v n mode) what is = refl
    put_step now s there files (event.Free v n) what is = refl
    put_step now s there files (event.Read v g) what is = refl
    put_step now s there files (event.Answer v g) what is = refl
    put_step now s there files (event.End v x) what is = refl

    -- and behind all of them
    pub bytes_stay : (past rest : List RunEntry) → IsRunOf plan (past ++ rest) → is_there (standing_of_run plan past).there f ≡ true → file_at (contents plan start (past ++ rest)) (name_of plan f) ≡ file_at (contents plan start past) (name_of plan f)
    unfolding Enabled
    bytes_stay past [] run there = ap (λ es. file_at (contents plan start es) (name_of plan f)) (append-nil past)
    bytes_stay past (e ∷ rest) run there =
        let whole = append_assoc past (e ∷ []) rest in
        let parts = front plan past (e ∷ rest) run in
        let longer : IsRunOf plan ((past ++ e ∷ []) ++ rest) = subst (IsRunOf plan) (sym whole) run in
        let still = file_stays past (e ∷ []) f (front plan (past ++ e ∷ []) rest longer).0 there in
        ap (λ es. file_at (contents plan start es) (name_of plan f)) (sym whole)
        ∙ bytes_stay (past ++ e ∷ []) rest longer still
        ∙ ap (λ files. file_at files (name_of plan f)) (fold_more (λ files (x : RunEntry). put_carried plan files x.event x.carried) past start e)
        ∙ put_step (standing_of_run plan past) (stands plan sound (events_of past) parts.0) there (contents plan start past) e.event e.carried parts.1.0

  -- ---- classpaths

  module _ (m : PlanModule) (files files' : Files) (outputs outputs' : List (List OwnBytes))
      (same_file : (f : ℕ) → is_listed f m.fetch ≡ true → file_at files' (name_of plan f) ≡ file_at files (name_of plan f))
      (same_own : (u : ℕ) → is_listed u m.upstream ≡ true → Rattle.std.specs.List.slice_index_or outputs' u [] ≡ Rattle.std.specs.List.slice_index_or outputs u []) where
    -- an entry has the same bytes
    origin_same : (from : Origin) → is_backed m from ≡ true → origin_bytes plan files' outputs' from ≡ origin_bytes plan files outputs from
    origin_same (origin.File f) is = same_file f is
    origin_same (origin.Module u s) is = ap (λ own. output_of own s) (same_own u is)
    origin_same origin.Nothing is = refl

    -- so have all
    pub paths_same : (entries : List Entry) → list_all (λ (e : Entry). is_backed m e.origin) entries ≡ true → map (path_entry plan files' outputs') entries ≡ map (path_entry plan files outputs) entries
    paths_same [] is = refl
    paths_same (e ∷ entries) is =
        let parts = both (is_backed m e.origin) (list_all (λ (x : Entry). is_backed m x.origin) entries) is in
        ap (λ b. (record { name = e.name; bytes = b }) ∷ map (path_entry plan files' outputs') entries) (origin_same e.origin parts.0)
        ∙ ap (λ paths. path_entry plan files outputs e ∷ paths) (paths_same entries parts.1)

-- what holds of all holds of those that are kept
filter_all : {X : Type 0} (p q : X → Bool) (xs : List X) → list_all p xs ≡ true → list_all p (filter q xs) ≡ true
filter_all p q [] is = refl
filter_all p q (x ∷ xs) is = let parts = both (p x) (list_all p xs) is in by (q x) parts.0 (filter_all p q xs parts.1)
  where
    by : (b : Bool) → p x ≡ true → list_all p (filter q xs) ≡ true → list_all p (if b then x ∷ filter q xs else filter q xs) ≡ true
    by true here later = ap (λ b. b && list_all p (filter q xs)) here ∙ later
    by false here later = later

module _ (plan : Plan) (start : Files) (past rest : List RunEntry) (w number : ℕ) (m : PlanModule) (sound : IsSoundPlan plan) (run : IsRunOf plan (past ++ rest))
    (whose : module_by plan past w ≡ Some number) (at : slice_get plan.modules number ≡ Some m) (all : HasAll plan past m) where
  -- each fetched file has the same bytes
  same_file : (f : ℕ) → is_listed f m.fetch ≡ true → file_at (contents plan start (past ++ rest)) (name_of plan f) ≡ file_at (contents plan start past) (name_of plan f)
  same_file f listed = bytes_stay plan sound start f (number, m, at, listed) past rest run (all_listed (is_there (standing_of_run plan past).there) m.fetch all f listed)

  -- each upstream kept the same
  same_own : (u : ℕ) → is_listed u m.upstream ≡ true → outputs_after plan (past ++ rest) u ≡ outputs_after plan past u
  same_own u listed = upstream_stays plan past rest w number u m run whose at listed

  -- each entry is backed
  backed : list_all (λ (e : Entry). is_backed m e.origin) m.entries ≡ true
  backed = (sound.modules number m at).entries

  -- so the entries of the classpath stay
  pub entries_stay : map (path_entry plan (contents plan start (past ++ rest)) (outputs_in plan (past ++ rest))) m.entries ≡ map (path_entry plan (contents plan start past) (outputs_in plan past)) m.entries
  entries_stay = paths_same plan m (contents plan start past) (contents plan start (past ++ rest)) (outputs_in plan past) (outputs_in plan (past ++ rest)) same_file same_own m.entries backed

  -- and each request
  pub request_stays : (call : GoalCall) (own : List OwnBytes) → request plan (contents plan start (past ++ rest)) (outputs_in plan (past ++ rest)) m call own ≡ request plan (contents plan start past) (outputs_in plan past) m call own
  request_stays call own =
      ap (λ paths. record { «module» = m.gav; call = call; sources = m.sources; own = own; classpath = paths })
      (paths_same plan m (contents plan start past) (contents plan start (past ++ rest)) (outputs_in plan past) (outputs_in plan (past ++ rest)) same_file same_own (filter (is_needed call.need) m.entries)
      (filter_all (λ (e : Entry). is_backed m e.origin) (is_needed call.need) m.entries backed))
