-- What holds at the moments of a run, and from one to a later.
use Rattle.std.proofs.Common.{Bool, List, None, Option, Some, ℕ, [], ap, false, find, if◌then◌else◌, inl, inr, is_some, length, map, refl, slice_get, subst, sym, true, unwrap_or, ◌++◌, ◌<◌, ◌||◌, ◌∙◌, ◌∷◌, ◌≡◌, ◌⊎◌}
use Rattle.std.specs.Option.{option_map_or}
use Rattle.std.specs.Ordering.{eq_by_cmp, nat_cmp}
use Rattle.std.specs.Cmp.Lexicographic.{slice_cmp}
use Rattle.std.proofs.lemmas.Bool.{false≢true}
use Rattle.std.proofs.lemmas.List.{append-nil, append_assoc}
use Rattle.mvn_shared.specs.Files.{Files, file_at}
use Rattle.build_core.specs.declared.event.Answered.{Answered}
use Rattle.event_core.specs.declared.entry.Carried.{Carried}
use Rattle.event_core.specs.declared.entry.Carried.TheVariants as carried
use Rattle.scripts.specs.declared.deed.Deed.TheVariants as deed
use Rattle.build_core.specs.declared.event.Event.{Event}
use Rattle.build_core.specs.declared.event.Event.TheVariants as event
use Rattle.build_core.specs.declared.mode.Mode.TheVariants.{Exclusive}
use Rattle.scripts.specs.declared.outline.Outline.{Outline}
use Rattle.build_core.specs.declared.plan.OwnFile.{OwnFile}
use Rattle.build_core.specs.declared.plan.Plan.{Plan}
use Rattle.build_core.specs.declared.plan.PlanModule.{PlanModule}
use Rattle.event_core.specs.declared.entry.RunEntry.{RunEntry}
use Rattle.event_core.specs.Enabled.{Enabled, IsEnabled, IsRun, is_due}
use Rattle.run_law.specs.Given.{Extends, Given, IsBetween, IsCover, IsFitting, is_answer, outputs_after}
use Rattle.run_law.proofs.Invariants.{IsFetchFile, IsOwnFile, files_fit}
use Rattle.build_core.specs.Locks.{hold}
use Rattle.build_core.specs.OneThread.{answer_at, name_of}
use Rattle.scripts.specs.Outlines.{is_listed, module_outline, outline_of}
use Rattle.event_core.specs.Runs.{IsComplete, IsRunOf, answers_from, answers_in, contents, events_of, kept_by, module_by, standing_of_run}
use Rattle.scripts.specs.Scripts.{Script, is_there, wanted}
use Rattle.event_core.specs.SoundPlans.{IsSoundPlan}
use Rattle.event_core.specs.HowFar.{is_over, progress_of}
use Rattle.event_core.specs.Standing.{Standing, after, course_of, module_of, on_course, standing_of}
use Rattle.event_core.specs.Worlds.{AllFit, HandTold, publishes, was_published}
use Rattle.run_law.proofs.Absent.{Stands, found, stands}
use Rattle.run_law.proofs.Alone.{holds_now}
use Rattle.run_law.proofs.Betweens.{fetch_has, fetch_none, name_other, own, own_put, there_or}
use Rattle.run_law.proofs.Carried.{same_name}
use Rattle.run_law.proofs.Complete.{IsStanding, by_events, events_more, no_further, standing}
use Rattle.run_law.proofs.Contents.{module_or_not, name_or_not, sound_owns}
use Rattle.run_law.proofs.Courses.{due_file, there_grows}
use Rattle.run_law.proofs.Extending.{extends_itself}
use Rattle.run_law.proofs.Fetches.{set_there}
use Rattle.event_core.proofs.Fits.{one_more}
use Rattle.run_law.proofs.Kept.{other_answers, outputs_are, outs_same}
use Rattle.run_law.proofs.Left.{installed_all}
use Rattle.run_law.proofs.Ordered.{over_stays}
use Rattle.run_law.proofs.Owns.{not_same}
use Rattle.run_law.proofs.Sounds.{sound_fit}
use Rattle.run_law.proofs.Stored.{due_on, get_map}
use Rattle.run_law.proofs.Telling.{all_told, fits_all, told}
use Rattle.goal_types.specs.declared.goal.GoalAnswer.{GoalAnswer}
use Rattle.run_law.proofs.JudgedRuns.{IsFitPlan}
use Rattle.run_law.proofs.ClosedFiles.{AreOwnsFit}

-- ---- a run in two parts

-- a run in two parts is a run and a run from there
pub run_front : (o : Outline) (past xs ys : List Event) → IsRun o past (xs ++ ys) → IsRun o past xs × IsRun o (past ++ xs) ys
run_front o past [] ys run = (tt, subst (λ es. IsRun o es ys) (sym (append-nil past)) run)
run_front o past (x ∷ xs) ys run =
    let rest = run_front o (past ++ x ∷ []) xs ys run.1 in
    ((run.0, rest.0), subst (λ es. IsRun o es ys) (append_assoc past (x ∷ []) xs) rest.1)

-- what fits as a whole fits up to each moment
pub fits_front : (plan : Plan) (start : Option Files) (hands : ℕ → HandTold) (past xs ys : List RunEntry) → AllFit plan start hands past (xs ++ ys) → AllFit plan start hands past xs
fits_front plan start hands past [] ys fits = tt
fits_front plan start hands past (x ∷ xs) ys fits = (fits.0, fits_front plan start hands (past ++ x ∷ []) xs ys fits.1)

-- the events of two parts
pub events_append : (xs ys : List RunEntry) → events_of (xs ++ ys) ≡ events_of xs ++ events_of ys
events_append [] ys = refl
events_append (x ∷ xs) ys = ap (λ es. x.event ∷ es) (events_append xs ys)

-- a run is one up to each of its moments, and from it on
pub front : (plan : Plan) (past rest : List RunEntry) → IsRunOf plan (past ++ rest) → IsRunOf plan past × IsRun (outline_of plan) (events_of past) (events_of rest)
front plan past rest run = run_front (outline_of plan) [] (events_of past) (events_of rest) (subst (IsRun (outline_of plan) []) (events_append past rest) run)

-- a fitting run is one up to each of its moments
pub fitting_front : (g : Given) (past rest : List RunEntry) → IsFitting g (past ++ rest) → IsFitting g past
fitting_front g past rest fitting = record {
  sound = fitting.sound;
  present = fitting.present;
  tell = fitting.tell;
  follows = (front g.plan past rest fitting.follows).0;
  fits = fits_front g.plan (Some g.start) g.hands [] past rest fitting.fits;
}

-- ---- the end

-- behind a complete run no event may come
pub run_ends : (plan : Plan) (run : List RunEntry) (e : Event) → IsRunOf plan run → IsComplete plan run → Enabled (outline_of plan) (events_of run) e → ⊥
unfolding Enabled
run_ends plan run e is complete more = no_further (outline_of plan) (standing_of_run plan run) (standing (outline_of plan) (events_of run) is) complete e more

-- ---- what an ended module kept

-- the answers of two parts
answers_split : (plan : Plan) (past xs ys : List RunEntry) → answers_from plan past (xs ++ ys) ≡ answers_from plan past xs ++ answers_from plan (past ++ xs) ys
answers_split plan past [] ys = ap (λ es. answers_from plan es ys) (sym (append-nil past))
answers_split plan past (x ∷ xs) ys =
    ap (λ t. kept_by plan past x.event x.carried ++ t) (answers_split plan (past ++ x ∷ []) xs ys)
    ∙ ap (λ es. kept_by plan past x.event x.carried ++ (answers_from plan (past ++ x ∷ []) xs ++ answers_from plan es ys)) (append_assoc past (x ∷ []) xs)
    ∙ sym (append_assoc (kept_by plan past x.event x.carried) (answers_from plan (past ++ x ∷ []) xs) (answers_from plan (past ++ x ∷ xs) ys))

module _ (plan : Plan) (number : ℕ) where
  abbrev o : Outline
  o = outline_of plan

  -- an event of another module's worker keeps nothing of this one
  kept_other : (past : List RunEntry) → IsStanding o (standing_of_run plan past) → is_over (progress_of (standing_of_run plan past).progress number) ≡ true → (kept : List Answered) (e : Event) (what : Carried) → answer_at (kept ++ kept_by plan past e what) number ≡ answer_at kept number
  kept_other past s over kept (event.Answer w g) (carried.Answered answer) = by (module_by plan past w) refl
    where
      by : (found : Option ℕ) → module_by plan past w ≡ found → answer_at (kept ++ option_map_or (λ m. (record { «module» = m; goal = g; answer = answer }) ∷ []) found []) number ≡ answer_at kept number
      by None e = ap (λ xs. answer_at xs number) (append-nil kept)
      by (Some k) e = other_answers kept (record { «module» = k; goal = g; answer = answer }) number
          (not_same k number (λ same. false≢true (sym (ap is_over (s.tied.busy w k e)) ∙ subst (λ x. is_over (progress_of (standing_of_run plan past).progress x) ≡ true) (sym same) over)))
  kept_other past s over kept (event.Answer w g) carried.Nothing = ap (λ xs. answer_at xs number) (append-nil kept)
  kept_other past s over kept (event.Answer w g) (carried.Published bytes) = ap (λ xs. answer_at xs number) (append-nil kept)
  kept_other past s over kept (event.Start w m) what = ap (λ xs. answer_at xs number) (append-nil kept)
  kept_other past s over kept (event.Skip m) what = ap (λ xs. answer_at xs number) (append-nil kept)
  kept_other past s over kept (event.Take w n mode) what = ap (λ xs. answer_at xs number) (append-nil kept)
  kept_other past s over kept (event.Free w n) what = ap (λ xs. answer_at xs number) (append-nil kept)
  kept_other past s over kept (event.Read w f) what = ap (λ xs. answer_at xs number) (append-nil kept)
  kept_other past s over kept (event.Publish w f) what = ap (λ xs. answer_at xs number) (append-nil kept)
  kept_other past s over kept (event.End w x) what = ap (λ xs. answer_at xs number) (append-nil kept)

  -- where the build stands behind one entry more
  pub next_is : (past : List RunEntry) (e : RunEntry) → standing_of_run plan (past ++ e ∷ []) ≡ after o (standing_of_run plan past) e.event
  next_is past e = ap (standing_of o) (events_more past e) ∙ one_more o (events_of past) e.event

  -- what is over stays as it is, and keeps its outputs
  pub keeps : (past rest : List RunEntry) → IsRunOf plan past → IsRun o (events_of past) (events_of rest) → is_over (progress_of (standing_of_run plan past).progress number) ≡ true
      → (progress_of (standing_of_run plan (past ++ rest)).progress number ≡ progress_of (standing_of_run plan past).progress number) × (answer_at (answers_in plan (past ++ rest)) number ≡ answer_at (answers_in plan past) number)
  unfolding Enabled
  keeps past [] run more over = (ap (λ es. progress_of (standing_of_run plan es).progress number) (append-nil past), ap (λ es. answer_at (answers_in plan es) number) (append-nil past))
  keeps past (e ∷ rest) run more over =
      let s = standing o (events_of past) run in
      let stays : progress_of (standing_of_run plan (past ++ e ∷ [])).progress number ≡ progress_of (standing_of_run plan past).progress number = ap (λ (now : Standing). progress_of now.progress number) (next_is past e) ∙ over_stays o (standing_of_run plan past) e.event s more.0 number over in
      let same : answer_at (answers_in plan (past ++ e ∷ [])) number ≡ answer_at (answers_in plan past) number = ap (λ xs. answer_at xs number) (answers_split plan [] past (e ∷ []) ∙ ap (λ xs. answers_in plan past ++ xs) (append-nil (kept_by plan past e.event e.carried))) ∙ kept_other past s over (answers_in plan past) e.event e.carried in
      let follows : IsRunOf plan (past ++ e ∷ []) = longer past e run more.0 in
      let rest' = keeps (past ++ e ∷ []) rest follows (subst (λ es. IsRun o es (events_of rest)) (sym (events_more past e)) more.1) (ap is_over stays ∙ over) in (
        ap (λ es. progress_of (standing_of_run plan es).progress number) (sym (append_assoc past (e ∷ []) rest)) ∙ rest'.0 ∙ stays,
        ap (λ es. answer_at (answers_in plan es) number) (sym (append_assoc past (e ∷ []) rest)) ∙ rest'.1 ∙ same,
      )
    where
      grow : (before es : List Event) (x : Event) → IsRun o before es → Enabled o (before ++ es) x → IsRun o before (es ++ x ∷ [])
      grow before [] x run is = (subst (λ t. Enabled o t x) (append-nil before) is, tt)
      grow before (y ∷ es) x run is = (run.0, grow (before ++ y ∷ []) es x run.1 (subst (λ t. Enabled o t x) (sym (append_assoc before (y ∷ []) es)) is))

      longer : (past : List RunEntry) (e : RunEntry) → IsRunOf plan past → Enabled o (events_of past) e.event → IsRunOf plan (past ++ e ∷ [])
      longer past e run is = subst (IsRun o []) (sym (events_more past e)) (grow [] (events_of past) e.event run is)

  -- so it keeps the same outputs
  pub keeps_outputs : (past rest : List RunEntry) → IsRunOf plan past → IsRun o (events_of past) (events_of rest) → is_over (progress_of (standing_of_run plan past).progress number) ≡ true → outputs_after plan (past ++ rest) number ≡ outputs_after plan past number
  keeps_outputs past rest run more over =
      outputs_are plan (past ++ rest) number ∙ outs_same plan (answers_in plan past) (answers_in plan (past ++ rest)) number (keeps past rest run more over).1 ∙ sym (outputs_are plan past number)

-- ---- locks

module _ (plan : Plan) (sound : IsSoundPlan plan) (past : List RunEntry) (run : IsRunOf plan past) where
  abbrev now : Standing
  now = standing_of_run plan past

  -- what holds at the moment
  s : Stands plan sound now
  s = stands plan sound (events_of past) run

  -- a hold alone excludes every other
  pub held_alone : (n w v : ℕ) → w < plan.workers → v < plan.workers → hold now.locks n w ≡ Some Exclusive → is_some (hold now.locks n v) ≡ true → v ≡ w
  held_alone n w v low small is holds = s.excluding n w v low small is holds

  -- what is fetched is published by a worker that holds each name of its module's batch alone
  pub fetched_alone : (w f n number : ℕ) (m : PlanModule) → Enabled (outline_of plan) (events_of past) (event.Publish w f) → module_by plan past w ≡ Some number → slice_get plan.modules number ≡ Some m → is_listed f m.fetch ≡ true → is_listed n m.batch ≡ true → hold now.locks n w ≡ Some Exclusive
  unfolding Enabled
  fetched_alone w f n number m is whose at fetch l = by (due_on (course_of now w) (deed.Publish f) is.2)
    where
      by : (k : ℕ) × (script : Script) × (last : Option ℕ) × (course_of now w ≡ on_course k script last) → hold now.locks n w ≡ Some Exclusive
      by x = which (due_file there.0.fetch (map (λ (x : OwnFile). x.file) there.0.own) x.1 f there.2 (subst (λ c. is_due c (deed.Publish f) ≡ true) x.3 is.2))
        where
          there : (m : PlanModule) × (slice_get plan.modules x.0 ≡ Some m) × (files_fit m.fetch (map (λ (x : OwnFile). x.file) m.own) x.1 ≡ true)
          there = found plan sound now s w x.0 x.1 x.2 x.3

          same : x.0 ≡ number
          same = ap (λ o. unwrap_or o 0) (sym (ap module_of x.3) ∙ whose)

          which : ((wanted x.1 ≡ Some f) × (is_listed f there.0.fetch ≡ true)) ⊎ (is_listed f (map (λ (x : OwnFile). x.file) there.0.own) ≡ true) → hold now.locks n w ≡ Some Exclusive
          which (inl wants) = holds_now (outline_of plan) now s.guarded w number f n (module_outline m) x.1 x.2 (get_map module_outline plan.modules number m at) (x.3 ∙ ap (λ k. on_course k x.1 x.2) same) wants.0 l
          which (inr own) = absurd (false≢true (sym (sound.not_fetched f x.0 number there.0 m there.1 at own) ∙ fetch))

  -- what isn't there comes there by the publish of the one that holds a covering name alone
  pub absent_but : (v n f : ℕ) (e : Event) → IsFetchFile plan f → IsCover plan n f → v < plan.workers → hold now.locks n v ≡ Some Exclusive → is_there now.there f ≡ false
      → Enabled (outline_of plan) (events_of past) e → is_there (after (outline_of plan) now e).there f ≡ true → e ≡ event.Publish v f
  unfolding Enabled after
  absent_but v n f (event.Start w m) fetch cover low holds absent is there = absurd (false≢true (sym absent ∙ there))
  absent_but v n f (event.Skip m) fetch cover low holds absent is there = absurd (false≢true (sym absent ∙ there))
  absent_but v n f (event.Take w k mode) fetch cover low holds absent is there = absurd (false≢true (sym absent ∙ there))
  absent_but v n f (event.Free w k) fetch cover low holds absent is there = absurd (false≢true (sym absent ∙ there))
  absent_but v n f (event.Read w g) fetch cover low holds absent is there = absurd (false≢true (sym absent ∙ there))
  absent_but v n f (event.Answer w g) fetch cover low holds absent is there = absurd (false≢true (sym absent ∙ there))
  absent_but v n f (event.End w x) fetch cover low holds absent is there = absurd (false≢true (sym absent ∙ there))
  absent_but v n f (event.Publish w g) fetch cover low holds absent is there = by (set_there now.there g f there)
    where
      by : (is_there now.there f ≡ true) ⊎ (f ≡ g) → event.Publish w g ≡ event.Publish v f
      by (inl old) = absurd (false≢true (sym absent ∙ old))
      by (inr same) =
          let mine : IsEnabled (outline_of plan) now (event.Publish w f) = subst (λ x. IsEnabled (outline_of plan) now (event.Publish w x)) (sym same) is in
          let who : w ≡ v = whose mine (due_on (course_of now w) (deed.Publish f) mine.2) in
          ap (λ x. event.Publish x g) who ∙ ap (event.Publish v) (sym same)
        where
          whose : IsEnabled (outline_of plan) now (event.Publish w f) → (k : ℕ) × (script : Script) × (last : Option ℕ) × (course_of now w ≡ on_course k script last) → w ≡ v
          whose mine x = s.excluding n v w low mine.0 holds (ap is_some (fetched_alone w f n x.0 there'.0 mine (ap module_of x.3) there'.1 listed (cover x.0 there'.0 there'.1 listed)))
            where
              there' : (m : PlanModule) × (slice_get plan.modules x.0 ≡ Some m) × (files_fit m.fetch (map (λ (x : OwnFile). x.file) m.own) x.1 ≡ true)
              there' = found plan sound now s w x.0 x.1 x.2 x.3

              listed : is_listed f there'.0.fetch ≡ true
              listed = which (due_file there'.0.fetch (map (λ (x : OwnFile). x.file) there'.0.own) x.1 f there'.2 (subst (λ c. is_due c (deed.Publish f) ≡ true) x.3 mine.2))
                where
                  which : ((wanted x.1 ≡ Some f) × (is_listed f there'.0.fetch ≡ true)) ⊎ (is_listed f (map (λ (x : OwnFile). x.file) there'.0.own) ≡ true) → is_listed f there'.0.fetch ≡ true
                  which (inl wants) = wants.1
                  which (inr own) = absurd (false≢true (sym (sound.not_fetched f x.0 fetch.0 there'.0 fetch.1 there'.1 fetch.2 own) ∙ fetch.3))

-- ---- files

-- a file that is there is there behind each event
there_after : (o : Outline) (now : Standing) (f : ℕ) (e : Event) → is_there now.there f ≡ true → IsEnabled o now e → is_there (after o now e).there f ≡ true
unfolding after
there_after o now f (event.Start w m) there is = there
there_after o now f (event.Skip m) there is = there
there_after o now f (event.Take w k mode) there is = there
there_after o now f (event.Free w k) there is = there
there_after o now f (event.Read w g) there is = there
there_after o now f (event.Publish w g) there is = there_grows now.there g f there
there_after o now f (event.Answer w g) there is = there
there_after o now f (event.End w x) there is = there

-- so it is there at each later moment
pub there_stays : (plan : Plan) (past rest : List RunEntry) (f : ℕ) → IsRun (outline_of plan) (events_of past) (events_of rest) → is_there (standing_of_run plan past).there f ≡ true → is_there (standing_of_run plan (past ++ rest)).there f ≡ true
there_stays plan past rest f run there =
    subst (λ es. is_there (standing_of (outline_of plan) es).there f ≡ true) (sym (events_append past rest))
    (by_events (outline_of plan) (λ (now : Standing). is_there now.there f ≡ true) (λ now e there is. there_after (outline_of plan) now f e there is) (events_of past) (events_of rest) there run)

-- what was published was published at each later moment
pub put_stays : (past rest : List RunEntry) (f : ℕ) → was_published past f ≡ true → was_published (past ++ rest) f ≡ true
put_stays [] rest f is = absurd (false≢true is)
put_stays (e ∷ past) rest f is = by (publishes f e.event) is (put_stays past rest f)
  where
    by : (b : Bool) → (b || was_published past f) ≡ true → (was_published past f ≡ true → was_published (past ++ rest) f ≡ true) → (b || was_published (past ++ rest) f) ≡ true
    by true is again = refl
    by false is again = again is

-- what is found in a list is found in a longer one
find_more : (p : Answered → Bool) (xs ys : List Answered) (a : Answered) → find p xs ≡ Some a → find p (xs ++ ys) ≡ Some a
find_more p [] ys a is = absurd (false≢true (ap is_some is))
find_more p (x ∷ xs) ys a is = by (p x) is (find_more p xs ys a)
  where
    by : (b : Bool) → (if b then Some x else find p xs) ≡ Some a → (find p xs ≡ Some a → find p (xs ++ ys) ≡ Some a) → (if b then Some x else find p (xs ++ ys)) ≡ Some a
    by true is again = is
    by false is again = again is

-- at each moment of a fitting run each name has what it had at the start, or what it has at the end
module _ (g : Given) (past rest : List RunEntry) (fitting : IsFitting g (past ++ rest)) where
  abbrev all : List RunEntry
  all = past ++ rest

  -- the run up to the moment fits
  before : IsFitting g past
  before = fitting_front g past rest fitting

  abbrev said : ℕ → ℕ → GoalAnswer
  said = answer_at (answers_in g.plan all)

  -- the answers of the whole run are those of the moment
  extends : Extends (answers_in g.plan past) said
  extends number goal a e = extends_itself (answers_in g.plan all) number goal a
      (ap (find (is_answer number goal)) (answers_split g.plan [] past rest) ∙ find_more (is_answer number goal) (answers_in g.plan past) (answers_from g.plan past rest) a e)

  abbrev had : List ℕ → Option (List ℕ)
  had q = file_at (contents g.plan g.start past) q

  abbrev has : List ℕ → Option (List ℕ)
  has q = file_at (contents g.plan g.start all) q

  -- the plan is as the law asks
  fit : IsFitPlan g.plan
  fit = sound_fit g.plan fitting.sound

  -- and so are its own files
  owns : AreOwnsFit g.plan
  owns = sound_owns g.plan fitting.sound

  -- a fetched file at the moment is as at the start or at the end
  fetch_moment : (f : ℕ) → IsFetchFile g.plan f → (b : Bool) → is_some (had (name_of g.plan f)) ≡ b → (had (name_of g.plan f) ≡ file_at g.start (name_of g.plan f)) ⊎ (had (name_of g.plan f) ≡ has (name_of g.plan f))
  fetch_moment f fetch true e =
      let one = there_or g.plan g.start g.remote fit before.present owns (told g) (all_told g before.tell) past before.follows (fits_all g past before) said extends f fetch in
      let two = there_or g.plan g.start g.remote fit fitting.present owns (told g) (all_told g fitting.tell) all fitting.follows (fits_all g all fitting) said (extends_itself (answers_in g.plan all)) f fetch in
      let later = two.0 (there_stays g.plan past rest f (front g.plan past rest fitting.follows).1 (one.1 e)) in
      inr (fetch_has g.plan g.start g.remote fit before.present owns (told g) (all_told g before.tell) past before.follows (fits_all g past before) said extends f fetch e
      ∙ sym (fetch_has g.plan g.start g.remote fit fitting.present owns (told g) (all_told g fitting.tell) all fitting.follows (fits_all g all fitting) said (extends_itself (answers_in g.plan all)) f fetch later))
  fetch_moment f fetch false e =
      inl (fetch_none g.plan g.start g.remote fit before.present owns (told g) (all_told g before.tell) past before.follows (fits_all g past before) said extends f fetch e)

  -- so is an own file
  own_moment : (f : ℕ) → IsOwnFile g.plan f → (b : Bool) → was_published past f ≡ b → (had (name_of g.plan f) ≡ file_at g.start (name_of g.plan f)) ⊎ (had (name_of g.plan f) ≡ has (name_of g.plan f))
  own_moment f x true e =
      inr (own_put g.plan g.start g.remote fit before.present owns (told g) (all_told g before.tell) past before.follows (fits_all g past before) said extends x.0 f x.1 x.2 x.3 e
      ∙ sym (own_put g.plan g.start g.remote fit fitting.present owns (told g) (all_told g fitting.tell) all fitting.follows (fits_all g all fitting) said (extends_itself (answers_in g.plan all)) x.0 f x.1 x.2 x.3 (put_stays past rest f e)))
  own_moment f x false e = inl ((own g.plan g.start g.remote fit before.present owns (told g) (all_told g before.tell) past before.follows (fits_all g past before) said extends).fresh f x e)

  -- so is each name
  pub moment_between : IsBetween g.start (contents g.plan g.start all) (contents g.plan g.start past)
  moment_between q = by (name_or_not q g.plan.files)
    where
      file : (f : ℕ) → f < length g.plan.files → (IsFetchFile g.plan f) ⊎ (IsFetchFile g.plan f → ⊥) → (IsOwnFile g.plan f) ⊎ (IsOwnFile g.plan f → ⊥) → (had (name_of g.plan f) ≡ file_at g.start (name_of g.plan f)) ⊎ (had (name_of g.plan f) ≡ has (name_of g.plan f))
      file f low (inl fetch) any = fetch_moment f fetch (is_some (had (name_of g.plan f))) refl
      file f low (inr unfetched) (inl x) = own_moment f x (was_published past f) refl
      file f low (inr unfetched) (inr unowned) = inl ((installed_all g.plan g.start g.remote fit before.present owns (told g) (all_told g before.tell) past before.follows (fits_all g past before)).2 f low unfetched unowned)

      by : ((f : ℕ) × (f < length g.plan.files) × (eq_by_cmp (slice_cmp nat_cmp) q (name_of g.plan f) ≡ true)) ⊎ ((f : ℕ) → f < length g.plan.files → eq_by_cmp (slice_cmp nat_cmp) q (name_of g.plan f) ≡ false) → (had q ≡ file_at g.start q) ⊎ (had q ≡ has q)
      by (inl x) = subst (λ n. (had n ≡ file_at g.start n) ⊎ (had n ≡ has n)) (sym (same_name q (name_of g.plan x.0) x.2)) (file x.0 x.1 (module_or_not (λ m. is_listed x.0 m.fetch) g.plan.modules) (module_or_not (λ m. is_listed x.0 (map (λ (x : OwnFile). x.file) m.own)) g.plan.modules))
      by (inr apart) = inl (name_other g.plan g.start g.remote fit before.present owns (told g) (all_told g before.tell) past before.follows (fits_all g past before) said extends q apart)
