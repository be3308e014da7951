-- Where a worker is behind an event of its own, and that its module may be installed still.
use Rattle.std.proofs.Common.{◌≡◌, ℕ, ◌<◌, arith, Bool, true, false, ◌||◌, nat_eq, nat_le, List, [], ◌∷◌, ◌++◌, length, map, set, slice_get, Option, Some, None, ap, ◌∙◌}
use Rattle.std.specs.List.{slice_index_or}
use Rattle.std.specs.Option.{option_map_or}
use Rattle.std.proofs.lemmas.Bool.Decides.{nat_tests}
use Rattle.std.proofs.lemmas.List.{append-nil, get_or-set_same}
use Rattle.mvn_shared.specs.Files.{Files}
use Rattle.build_core.specs.declared.mode.Mode.{Mode}
use Rattle.build_core.specs.OneThread.{entries_len, lacks_artifact, most_classpath, path_entry}
use Rattle.build_core.specs.Slots.{kept_of}
use Rattle.build_core.specs.declared.event.Event.TheVariants as event
use Rattle.build_core.specs.declared.plan.Plan.{Plan}
use Rattle.build_core.specs.declared.plan.PlanModule.{PlanModule}
use Rattle.scripts.specs.declared.deed.Deed.{Deed}
use Rattle.scripts.specs.declared.deed.Deed.TheVariants as deed
use Rattle.event_core.specs.declared.entry.Carried.{Carried}
use Rattle.event_core.specs.declared.entry.RunEntry.{RunEntry}
use Rattle.scripts.specs.declared.outline.Outline.{Outline}
use Rattle.event_core.specs.Runs.{answers_in, contents, goals_in, outputs_from, outputs_in, put_carried}
use Rattle.scripts.specs.Scripts.{Script, done, settled}
use Rattle.event_core.specs.SoundPlans.{IsSoundPlan, is_own}
use Rattle.event_core.specs.Standing.{Standing, after, after_deed, course_of, held_by, idle, on_course}
use Rattle.scripts.specs.Outlines.{is_empty}
use Rattle.event_core.specs.Worlds.{IsInstallable, IsWithin, is_good, publishes, stood, was_published}
use Rattle.event_core.proofs.Fits.{fold_more}
use Rattle.run_law.proofs.Basics.{or_right}
use Rattle.run_law.proofs.Kept.{answers_more}
use Rattle.run_law.proofs.Ending.{own_file}

-- ---- courses

module _ (o : Outline) (now : Standing) (w number : ℕ) (script rest : Script) (last : Option ℕ) (names : List ℕ) (low : w < length now.courses)
    (course : course_of now w ≡ on_course number script last) (held : held_by now w ≡ names) where
  -- what a deed that is due leaves of a course
  deed_leaves : (there : List Bool) (d : Deed) (now_held : List ℕ) → done script d ≡ Some rest → after_deed there now_held d None (course_of now w) ≡ on_course number (settled there (is_empty now_held) rest) None
  deed_leaves there d now_held due =
      ap (after_deed there now_held d None) course
      ∙ ap (λ r. option_map_or (λ (s : Script). on_course number (settled there (is_empty now_held) s) None) r (on_course number script last)) due

  pub behind_publish : (f : ℕ) → done script (deed.Publish f) ≡ Some rest
      → (course_of (after o now (event.Publish w f)) w ≡ on_course number (settled (set now.there f true) (is_empty names) rest) None) × (held_by (after o now (event.Publish w f)) w ≡ names)
  unfolding after
  behind_publish f due = (
    get_or-set_same now.courses w (after_deed (set now.there f true) (held_by now w) (deed.Publish f) None (course_of now w)) idle low
        ∙ deed_leaves (set now.there f true) (deed.Publish f) (held_by now w) due
        ∙ ap (λ ns. on_course number (settled (set now.there f true) (is_empty ns) rest) None) held,
    held,
  )

  pub behind_take : (n : ℕ) (mode : Mode) → w < length now.held → done script (deed.Take mode n) ≡ Some rest
      → (course_of (after o now (event.Take w n mode)) w ≡ on_course number (settled now.there (is_empty (names ++ n ∷ [])) rest) None) × (held_by (after o now (event.Take w n mode)) w ≡ names ++ n ∷ [])
  unfolding after
  behind_take n mode rows due =
      let more : slice_index_or (set now.held w (held_by now w ++ n ∷ [])) w [] ≡ names ++ n ∷ [] = get_or-set_same now.held w (held_by now w ++ n ∷ []) [] rows ∙ ap (λ (ns : List ℕ). ns ++ n ∷ []) held in (
        get_or-set_same now.courses w (after_deed now.there (slice_index_or (set now.held w (held_by now w ++ n ∷ [])) w []) (deed.Take mode n) None (course_of now w)) idle low
            ∙ deed_leaves now.there (deed.Take mode n) (slice_index_or (set now.held w (held_by now w ++ n ∷ [])) w []) due
            ∙ ap (λ ns. on_course number (settled now.there (is_empty ns) rest) None) more,
        more,
      )

-- ---- what stands against installing

module _ (plan : Plan) (start : Option Files) (past later : List RunEntry) (number : ℕ) (m : PlanModule) (answers : answers_in plan later ≡ answers_in plan past) where
  goals_same : goals_in (answers_in plan later) number m ≡ goals_in (answers_in plan past) number m
  goals_same = ap (λ kept. goals_in kept number m) answers

  -- nothing, where the answers are the same, and the entries over each start
  pub installable_too : ((files : Files) → map (path_entry plan (contents plan files later) (outputs_in plan past)) m.entries ≡ map (path_entry plan (contents plan files past) (outputs_in plan past)) m.entries)
      → IsInstallable (stood plan start past number m) → IsInstallable (stood plan start later number m)
  installable_too entries is = (within start is.0, ap is_good goals_same ∙ is.1, ap (λ g. lacks_artifact m (kept_of g)) goals_same ∙ is.2)
    where
      within : (from : Option Files) → IsWithin (stood plan from past number m) → IsWithin (stood plan from later number m)
      within None is = tt
      within (Some files) is =
          ap (λ kept. nat_le (entries_len (map (path_entry plan (contents plan files later) (outputs_from kept 0 plan.modules)) m.entries)) most_classpath) answers
          ∙ ap (λ paths. nat_le (entries_len paths) most_classpath) (entries files) ∙ is

module _ (plan : Plan) (past : List RunEntry) (number : ℕ) (m : PlanModule) where
  -- a taken name keeps no answer and puts no file, whatever it carries
  pub take_answers : (w n : ℕ) (mode : Mode) (what : Carried) → answers_in plan (past ++ (record { event = event.Take w n mode; carried = what }) ∷ []) ≡ answers_in plan past
  take_answers w n mode what = answers_more plan past (record { event = event.Take w n mode; carried = what }) ∙ append-nil (answers_in plan past)

  take_contents : (w n : ℕ) (mode : Mode) (what : Carried) (files : Files) → contents plan files (past ++ (record { event = event.Take w n mode; carried = what }) ∷ []) ≡ contents plan files past
  take_contents w n mode what files = fold_more (λ all (x : RunEntry). put_carried plan all x.event x.carried) past files (record { event = event.Take w n mode; carried = what })

  pub take_installable : (start : Option Files) (w n : ℕ) (mode : Mode) (what : Carried)
      → IsInstallable (stood plan start past number m) → IsInstallable (stood plan start (past ++ (record { event = event.Take w n mode; carried = what }) ∷ []) number m)
  take_installable start w n mode what =
      installable_too plan start past (past ++ (record { event = event.Take w n mode; carried = what }) ∷ []) number m (take_answers w n mode what)
      (λ files. ap (λ all. map (path_entry plan all (outputs_in plan past)) m.entries) (take_contents w n mode what files))

  -- nor does a publish keep an answer
  pub put_answers : (w f : ℕ) (what : Carried) → answers_in plan (past ++ (record { event = event.Publish w f; carried = what }) ∷ []) ≡ answers_in plan past
  put_answers w f what = answers_more plan past (record { event = event.Publish w f; carried = what }) ∙ append-nil (answers_in plan past)

  -- and one of an own file changes no entry
  pub put_installable : (start : Option Files) (w f : ℕ) (what : Carried) → IsSoundPlan plan → slice_get plan.modules number ≡ Some m → is_own f m ≡ true
      → IsInstallable (stood plan start past number m) → IsInstallable (stood plan start (past ++ (record { event = event.Publish w f; carried = what }) ∷ []) number m)
  put_installable start w f what sound at own =
      let e : RunEntry = record { event = event.Publish w f; carried = what } in
      installable_too plan start past (past ++ e ∷ []) number m (put_answers w f what)
      (λ files. ap (λ all. map (path_entry plan all (outputs_in plan past)) m.entries) (fold_more (λ all (x : RunEntry). put_carried plan all x.event x.carried) past files e)
      ∙ own_file plan (contents plan files past) (outputs_in plan past) w number f m sound at own what)

-- what was put is published
pub was_put : (past : List RunEntry) (w f : ℕ) (what : Carried) → was_published (past ++ (record { event = event.Publish w f; carried = what }) ∷ []) f ≡ true
was_put [] w f what = let same : nat_eq f f ≡ true = grind (arith, nat_tests) in ap (λ b. b || false) same
was_put (e ∷ past) w f what = or_right (publishes f e.event) (was_published (past ++ (record { event = event.Publish w f; carried = what }) ∷ []) f) (was_put past w f what)
