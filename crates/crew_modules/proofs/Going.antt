-- A worker that puts its module's own files, from turn to turn.
use Rattle.std.proofs.Common.{◌≡◌, ℕ, zero, suc, ◌+◌, ◌<◌, true, false, nat_eq, nat_lt, List, [], ◌∷◌, ◌++◌, length, drop, set, slice_get, Option, Some, None, IfSome, is_some, option_map, option_and_then, refl, arith, sym, ap, subst, ◌∙◌}
use Rattle.std.proofs.lemmas.List.{append-nil, append_assoc}
use Rattle.mvn_outside.specs.Shelf.{files_now}
use Rattle.build_core.specs.declared.mode.Mode.TheVariants.{Exclusive}
use Rattle.build_core.specs.OneThread.{lacks_artifact}
use Rattle.build_core.specs.Slots.{kept_of}
use Rattle.build_core.specs.declared.event.Event.{Event}
use Rattle.build_core.specs.declared.event.Event.TheVariants as event
use Rattle.build_core.specs.declared.plan.OwnFile.{OwnFile}
use Rattle.scripts.specs.declared.deed.Deed.TheVariants as deed
use Rattle.event_core.specs.declared.entry.RunEntry.{RunEntry}
use Rattle.scripts.specs.declared.outline.ModuleOutline.{ModuleOutline}
use Rattle.scripts.specs.declared.script_place.ScriptPlace.TheVariants as place
use Rattle.event_core.specs.Causes.{stage_at}
use Rattle.event_core.specs.Enabled.{Enabled, IsRun, is_due}
use Rattle.scripts.specs.Outlines.{outline_of}
use Rattle.event_core.specs.Runs.{IsRunOf, answers_in, events_of, goals_in, standing_of_run}
use Rattle.scripts.specs.ScriptPlaces.{rest_of}
use Rattle.scripts.specs.Scripts.{Script, done, frees, may_publish, own_script, stage_of, step, steps, takes, whole}
use Rattle.event_core.specs.SoundPlans.{IsSoundPlanModule}
use Rattle.event_core.specs.Standing.{after, course_of, held_by, module_of, on_course}
use Rattle.event_core.specs.Worlds.{FitsTake, IsInstallable, stood, was_published}
use Rattle.scripts.proofs.ScriptPlaces.{install_held}
use Rattle.run_law.proofs.Complete.{IsStanding, standing}
use Rattle.run_law.proofs.LaterMoments.{front, next_is, put_stays}
use Rattle.run_law.proofs.Stored.{length_map}
use Rattle.run_law.specs.Others.{AreOthers}
use Rattle.run_law.proofs.Staying.{course_stays, goals_stay, held_stays}
use Rattle.run_law.proofs.Ending.{installable}
use Rattle.atomic_table.specs.Seated.{TableId}
use Rattle.board.specs.declared.kept.Opened.{Opened}
use Rattle.crew_turns.specs.Seen.{Follows, IsOf, Sees, Steps, Told, course_by, names_by, seen_by, start_by}
use Rattle.crew_turns.specs.Tasks.{IsTask, ModuleTask, stood_by, unit_outline}
use Rattle.crew_turns.proofs.Ends.{IsLate, has_all}
use Rattle.crew_turns.specs.Stages.{HasAnswered, IsInstalling, own_file}
use Rattle.crew_modules.specs.Putting.{GoesOn}
use Rattle.crew_modules.proofs.Afters.{behind_publish, behind_take, put_answers, put_installable, take_answers, take_installable, was_put}
use Rattle.crew_modules.proofs.Owns.{file_at_place, listed_at, place_low}
use Rattle.crew_modules.proofs.InstallPlaces.{answered, file_due, installed, name_due}

-- ---- stages

steps_six : (xs : List ℕ) → stage_of (steps 6 may_publish xs (step 6 frees whole)) ≡ 6
steps_six [] = refl
steps_six (x ∷ xs) = refl

own_six : (i : ℕ) (own : List ℕ) → stage_of (Rattle.scripts.specs.ScriptPlaces.own_from i own) ≡ 6
own_six zero [] = refl
own_six zero (x ∷ own) = refl
own_six (suc i) own = steps_six (drop (suc i) own)

installing_six : (m : ModuleOutline) (i : ℕ) → stage_of (rest_of m (place.Installing i)) ≡ 6
unfolding rest_of
installing_six m i = own_six i m.own

-- ---- a pass that follows

pub start_same : (before pass : Told) → Follows before pass → start_by pass ≡ start_by before
start_same before pass follows = ap (λ (fixed : Option Opened). option_and_then (λ (o : Opened). option_map files_now o.told) fixed) follows.fixed

pub follows_more : (a b c : Told) → Follows a b → Follows b c → Follows a c
follows_more a b c one two = record {
  lock = two.lock ∙ one.lock;
  quiet = two.quiet;
  number = two.number ∙ one.number;
  reach = two.reach ∙ one.reach;
  weight = two.weight ∙ one.weight;
  workers = two.workers ∙ one.workers;
  fixed = two.fixed ∙ one.fixed;
  log = (one.log.0 ++ two.log.0, two.log.1 ∙ ap (λ l. l ++ two.log.0) one.log.1 ∙ append_assoc (seen_by a) one.log.0 two.log.0);
}

pub goes_more : (t : ModuleTask) (lock : TableId) (a b c : Told) → GoesOn t lock a b → GoesOn t lock b c → GoesOn t lock a c
goes_more t lock a b c one two = record { of = two.of; follows = follows_more a b c one.follows two.follows; goals = two.goals ∙ one.goals }

-- nothing happened
pub goes_itself : (t : ModuleTask) (lock : TableId) (pass : Told) → IsOf t.plan lock t.worker pass → GoesOn t lock pass pass
goes_itself t lock pass of = record {
  of = of;
  follows = record { lock = refl; quiet = of.quiet; number = refl; reach = refl; weight = refl; workers = refl; fixed = refl; log = ([], sym (append-nil (seen_by pass))) };
  goals = refl;
}

-- what was published is
pub published_later : (before pass : Told) (f : ℕ) → Follows before pass → was_published (seen_by before) f ≡ true → was_published (seen_by pass) f ≡ true
published_later before pass f follows is = subst (λ log. was_published log f ≡ true) (sym follows.log.1) (put_stays (seen_by before) follows.log.0 f is)

module _ (t : ModuleTask) (lock : TableId) (before : Told) (of : IsOf t.plan lock t.worker before) (is : IsTask t) where
  abbrev seen : List RunEntry
  seen = seen_by before

  abbrev unit_sound : Type 0
  unit_sound = IsSoundPlanModule t.unit

  pub sound_unit : unit_sound
  sound_unit = of.sound.modules t.number t.unit is

  -- ---- behind others' entries

  module _ (others : List RunEntry) (apart : AreOthers t.worker others) (run : IsRunOf t.plan (seen ++ others)) (script : Script) (last : Option ℕ) (on : course_by t.plan t.worker before ≡ on_course t.number script last) where
    goals_mid : goals_in (answers_in t.plan (seen ++ others)) t.number t.unit ≡ goals_in (answers_in t.plan seen) t.number t.unit
    goals_mid = goals_stay t.plan seen others t.worker t.number t.unit run apart (ap module_of on)

    installable_mid : stage_of script ≡ 6 → IsInstallable (stood_by t before) → IsInstallable (stood t.plan (start_by before) (seen ++ others) t.number t.unit)
    installable_mid six may =
        installable t.plan seen others t.worker t.number t.unit of.sound run (ap module_of on) is
        (has_all t.plan seen others t.worker t.number t.unit of.sound run apart (ap module_of on) is (subst IsLate (sym on) (ap (nat_lt 3) six))) apart (start_by before) may

  -- ---- a turn without an event

  module _ (pass : Told) (sees : Sees t.plan lock t.worker before pass) where
    sees_run : IsRunOf t.plan (seen ++ sees.others)
    sees_run = subst (IsRunOf t.plan) sees.log sees.of.run

    pub sees_goes : (script : Script) (last : Option ℕ) → course_by t.plan t.worker before ≡ on_course t.number script last → GoesOn t lock before pass
    sees_goes script last on = record {
      of = sees.of;
      follows = sees.follows;
      goals = ap (λ log. goals_in (answers_in t.plan log) t.number t.unit) sees.log ∙ goals_mid sees.others sees.apart sees_run script last on;
    }

    -- leaves the worker where it was
    pub sees_installing : (count : ℕ) → IsInstalling t count before → IsInstalling t count pass
    sees_installing count at = record {
      here = at.here;
      low = at.low;
      begun = at.begun;
      at = record {
        course = ap (λ log. course_of (standing_of_run t.plan log) t.worker) sees.log ∙ course_stays t.plan seen sees.others t.worker sees.apart ∙ at.at.course;
        held = ap (λ log. held_by (standing_of_run t.plan log) t.worker) sees.log ∙ held_stays t.plan seen sees.others t.worker sees.apart ∙ at.at.held;
      };
      may =
          subst (λ s. IsInstallable (stood t.plan s (seen_by pass) t.number t.unit)) (sym (start_same before pass sees.follows))
          (subst (λ log. IsInstallable (stood t.plan (start_by before) log t.number t.unit)) (sym sees.log)
          (installable_mid sees.others sees.apart sees_run (rest_of (unit_outline t) (place.Installing at.here)) None at.at.course (installing_six (unit_outline t) at.here) at.may));
    }

  -- ---- a turn with one

  module _ (e : Event) (pass : Told) (turn : Steps t.plan lock t.worker e before pass) where
    abbrev entry : RunEntry
    entry = record { event = e; carried = turn.what }

    abbrev mid : List RunEntry
    mid = seen ++ turn.others

    long : seen_by pass ≡ mid ++ entry ∷ []
    long = turn.log

    parts : IsRunOf t.plan mid × IsRun (outline_of t.plan) (events_of mid) (e ∷ [])
    parts = front t.plan mid (entry ∷ []) (subst (IsRunOf t.plan) long turn.of.run)

    later : standing_of_run t.plan (seen_by pass) ≡ after (outline_of t.plan) (standing_of_run t.plan mid) e
    later = ap (standing_of_run t.plan) long ∙ next_is t.plan t.number mid entry

    course_mid : course_of (standing_of_run t.plan mid) t.worker ≡ course_by t.plan t.worker before
    course_mid = course_stays t.plan seen turn.others t.worker turn.apart

    held_mid : held_by (standing_of_run t.plan mid) t.worker ≡ names_by t.plan t.worker before
    held_mid = held_stays t.plan seen turn.others t.worker turn.apart

    stands : IsStanding (outline_of t.plan) (standing_of_run t.plan mid)
    stands = standing (outline_of t.plan) (events_of mid) parts.0

    -- what holds of the module behind the entry holds by the pass
    by_pass : IsInstallable (stood t.plan (start_by before) (mid ++ entry ∷ []) t.number t.unit) → IsInstallable (stood_by t pass)
    by_pass may =
        subst (λ s. IsInstallable (stood t.plan s (seen_by pass) t.number t.unit)) (sym (start_same before pass turn.follows))
        (subst (λ log. IsInstallable (stood t.plan (start_by before) log t.number t.unit)) (sym long) may)

    goes : answers_in t.plan (mid ++ entry ∷ []) ≡ answers_in t.plan mid → (script : Script) (last : Option ℕ) → course_by t.plan t.worker before ≡ on_course t.number script last → GoesOn t lock before pass
    goes answers script last on = record {
      of = turn.of;
      follows = turn.follows;
      goals =
          ap (λ log. goals_in (answers_in t.plan log) t.number t.unit) long ∙ ap (λ kept. goals_in kept t.number t.unit) answers
          ∙ goals_mid turn.others turn.apart parts.0 script last on;
    }

  -- ---- the own name

  module _ (last : Option ℕ) (at : HasAnswered t (length t.unit.goals) last before) where
    pub to_install : course_by t.plan t.worker before ≡ on_course t.number (rest_of (unit_outline t) place.Securing) last
    to_install = at.at.course ∙ ap (λ s. on_course t.number s last) (answered (unit_outline t) [] true)

    module _ (installs : t.unit.installs ≡ true) where
      pub securing : course_by t.plan t.worker before ≡ on_course t.number (step 6 (takes Exclusive t.unit.own_name) (own_script (unit_outline t).own)) last
      securing = to_install ∙ ap (λ s. on_course t.number s last) (installed (unit_outline t) installs)

      pub take_due : is_due (course_by t.plan t.worker before) (deed.Take Exclusive t.unit.own_name) ≡ true
      take_due = ap (λ c. is_due c (deed.Take Exclusive t.unit.own_name)) to_install ∙ ap is_some (name_due (unit_outline t) installs)

      module _ (lacks : lacks_artifact t.unit (kept_of (stood_by t before).goals) ≡ false) where
        pub take_fits : FitsTake (nat_eq (stage_at (course_by t.plan t.worker before)) 6) (stood_by t before)
        take_fits = subst (λ c. FitsTake (nat_eq (stage_at c) 6) (stood_by t before)) (sym securing) (at.within, at.good, lacks)

        module _ (pass : Told) (turn : Steps t.plan lock t.worker (event.Take t.worker t.unit.own_name Exclusive) before pass) where
          pub take_goes : GoesOn t lock before pass
          take_goes =
              goes (event.Take t.worker t.unit.own_name Exclusive) pass turn (take_answers t.plan (seen ++ turn.others) t.number t.unit t.worker t.unit.own_name Exclusive turn.what)
              (rest_of (unit_outline t) place.Securing) last to_install

          -- taken, none of its own files is behind the worker
          pub take_installing : IsInstalling t 0 pass
          unfolding Enabled
          take_installing =
              let e : Event = event.Take t.worker t.unit.own_name Exclusive in
              let o = outline_of t.plan in
              let now = standing_of_run t.plan (seen ++ turn.others) in
              let low : t.worker < o.workers = (parts e pass turn).1.0.0 in
              let fit = (stands e pass turn).fit in
              let courses = fit.courses in
              let rows = fit.rows in
              let b = behind_take o now t.worker t.number (rest_of (unit_outline t) place.Securing) (rest_of (unit_outline t) (place.Installing 0)) last [] (omega (arith, low, courses))
              (course_mid e pass turn ∙ to_install) (held_mid e pass turn ∙ at.at.held) t.unit.own_name Exclusive (omega (arith, low, rows)) (name_due (unit_outline t) installs) in
              record {
                here = 0;
                low = omega arith;
                begun = λ more. more;
                at = record {
                  course = ap (λ s. course_of s t.worker) (later e pass turn) ∙ b.0 ∙ ap (λ s. on_course t.number s None) (install_held (unit_outline t) now.there false 0 refl);
                  held = ap (λ s. held_by s t.worker) (later e pass turn) ∙ b.1;
                };
                may =
                    by_pass e pass turn
                    (take_installable t.plan (seen ++ turn.others) t.number t.unit (start_by before) t.worker t.unit.own_name Exclusive turn.what
                    (installable_mid turn.others turn.apart (parts e pass turn).0 (step 6 (takes Exclusive t.unit.own_name) (own_script (unit_outline t).own)) last securing refl (at.within, at.good, lacks)));
              }

  -- ---- an own file

  module _ (count : ℕ) (at : IsInstalling t count before) (own : OwnFile) (stands_at : slice_get t.unit.own count ≡ Some own) where
    put_done : done (rest_of (unit_outline t) (place.Installing at.here)) (deed.Publish own.file) ≡ Some (rest_of (unit_outline t) (place.Installing (count + 1)))
    put_done =
        let low = place_low t.unit.own count own stands_at in
        let long = length_map (λ (o : OwnFile). o.file) t.unit.own in
        subst (λ k. done (rest_of (unit_outline t) (place.Installing at.here)) (deed.Publish k) ≡ Some (rest_of (unit_outline t) (place.Installing (count + 1)))) (file_at_place t.unit.own count own stands_at)
        (file_due (unit_outline t) at.here count sound_unit.own_files at.low at.begun (omega (arith, low, long)))

    pub put_due : is_due (course_by t.plan t.worker before) (deed.Publish own.file) ≡ true
    put_due = ap (λ c. is_due c (deed.Publish own.file)) at.at.course ∙ ap is_some put_done

    module _ (pass : Told) (turn : Steps t.plan lock t.worker (event.Publish t.worker own.file) before pass) where
      pub put_goes : GoesOn t lock before pass
      put_goes =
          goes (event.Publish t.worker own.file) pass turn (put_answers t.plan (seen ++ turn.others) t.number t.unit t.worker own.file turn.what)
          (rest_of (unit_outline t) (place.Installing at.here)) None at.at.course

      -- put, it is behind the worker
      pub put_installing : IsInstalling t (count + 1) pass
      unfolding Enabled
      put_installing =
          let e : Event = event.Publish t.worker own.file in
          let o = outline_of t.plan in
          let now = standing_of_run t.plan (seen ++ turn.others) in
          let low : t.worker < o.workers = (parts e pass turn).1.0.0 in
          let fit = (stands e pass turn).fit in
          let courses = fit.courses in
          let b = behind_publish o now t.worker t.number (rest_of (unit_outline t) (place.Installing at.here)) (rest_of (unit_outline t) (place.Installing (count + 1))) None (t.unit.own_name ∷ []) (omega (arith, low, courses))
          (course_mid e pass turn ∙ at.at.course) (held_mid e pass turn ∙ at.at.held) own.file put_done in
          record {
            here = count + 1;
            low = omega arith;
            begun = λ more. more;
            at = record {
              course = ap (λ s. course_of s t.worker) (later e pass turn) ∙ b.0 ∙ ap (λ s. on_course t.number s None) (install_held (unit_outline t) (set now.there own.file true) false (count + 1) refl);
              held = ap (λ s. held_by s t.worker) (later e pass turn) ∙ b.1;
            };
            may =
                by_pass e pass turn
                (put_installable t.plan (seen ++ turn.others) t.number t.unit (start_by before) t.worker own.file turn.what of.sound is (listed_at t.unit.own count own stands_at)
                (installable_mid turn.others turn.apart (parts e pass turn).0 (rest_of (unit_outline t) (place.Installing at.here)) None at.at.course (installing_six (unit_outline t) at.here) at.may));
          }

      -- and published
      pub put_published : was_published (seen_by pass) own.file ≡ true
      put_published =
          subst (λ log. was_published log own.file ≡ true) (sym (long (event.Publish t.worker own.file) pass turn))
          (was_put (seen ++ turn.others) t.worker own.file turn.what)

      pub put_is : IfSome (own_file t count) (λ file. was_published (seen_by pass) file ≡ true)
      put_is = subst (λ found. IfSome (option_map (λ (o : OwnFile). o.file) found) (λ file. was_published (seen_by pass) file ≡ true)) (sym stands_at) put_published
