-- A batch is freed whose files are read: then the module's goals come, and its classpath is what it was.
use Rattle.std.proofs.Common.{◌≡◌, ℕ, Bool, true, false, List, [], ◌∷◌, ◌++◌, drop, length, map, take, Option, Some, None, IfSome, option_and_then, refl, arith, sym, ap, subst, ◌∙◌, if◌then◌else◌}
use Rattle.std.specs.List.{list_all}
use Rattle.std.proofs.Math.Seq.{take-length}
use Rattle.std.specs.Option.{option_map}
use Rattle.mvn_outside.specs.Shelf.{files_now}
use Rattle.board.specs.declared.kept.Opened.{Opened}
use Rattle.mvn_shared.specs.Files.{Files}
use Rattle.goal_types.specs.declared.goal.PathEntry.{PathEntry}
use Rattle.build_core.specs.Locks.{below}
use Rattle.build_core.specs.declared.mode.Mode.TheVariants.{Exclusive}
use Rattle.build_core.specs.OneThread.{path_entry}
use Rattle.event_core.specs.declared.entry.RunEntry.{RunEntry}
use Rattle.scripts.specs.declared.outline.ModuleOutline.{ModuleOutline}
use Rattle.scripts.specs.declared.outline.Outline.{Outline}
use Rattle.scripts.specs.declared.script_place.ScriptPlace.TheVariants as place
use Rattle.scripts.specs.Outlines.{files_read, is_empty}
use Rattle.event_core.specs.Runs.{IsRunOf, contents, module_by, outputs_in, standing_of_run}
use Rattle.scripts.specs.ScriptPlaces.{rest_of}
use Rattle.scripts.specs.Scripts.{answer_script, answers, answers_left, frees, install_script, is_there, reads, release_script, settled, step, steps, takes, own_script, whole}
use Rattle.event_core.specs.Standing.{after_free, module_of, on_course}
use Rattle.event_core.specs.Worlds.{IsWithin, is_good, stood}
use Rattle.scripts.proofs.Climbs.{both}
use Rattle.run_law.proofs.Basics.{and_is}
use Rattle.run_law.proofs.Staying.{entries_stay, file_stays}
use Rattle.run_law.specs.Others.{HasAll}
use Rattle.atomic_table.specs.Seated.{TableId}
use Rattle.run_law.proofs.Answering.{begun}
use Rattle.run_law.proofs.Ending.{within}
use Rattle.run_law.proofs.Orders.{read_left}
use Rattle.run_law.proofs.Settling.{late}
use Rattle.crew_turns.specs.Parts.{IsPart}
use Rattle.crew_turns.specs.Paths.{IsPath}
use Rattle.crew_turns.specs.Stages.{HasAnswered, IsReading}
use Rattle.crew_turns.specs.Stops.{freed_course}
use Rattle.crew_turns.specs.Seen.{Follows, IsOf, Told, course_by, names_by, seen_by, start_by, there_by}
use Rattle.crew_turns.specs.Tasks.{IsTask, ModuleTask, plan_outline, stood_by, unit_outline}

-- what holds of all, one by one, holds of all where each keeps it
all_still : (p q : ℕ → Bool) → ((f : ℕ) → p f ≡ true → q f ≡ true) → (fs : List ℕ) → list_all p fs ≡ true → list_all q fs ≡ true
all_still p q more [] is = refl
all_still p q more (f ∷ fs) is = let parts = both (p f) (list_all p fs) is in and_is (q f) (list_all q fs) (more f parts.0) (all_still p q more fs parts.1)

-- nothing is left of a list behind all of it
none_left : {X : Type 0} (xs : List X) → drop (length xs) xs ≡ []
none_left [] = refl
none_left (x ∷ xs) = none_left xs

-- ---- the script

module _ (m : ModuleOutline) where
  -- behind all reads the batch is to be freed
  all_read : rest_of m (place.Reading (length m.reads)) ≡ step 4 frees (answer_script m)
  unfolding rest_of
  all_read = ap (λ xs. steps 4 reads xs (release_script m)) (none_left m.reads)

  from_first : rest_of m (place.Answering 0) ≡ answer_script m
  unfolding rest_of
  from_first = refl

  -- freed, the goals are next, whatever is there
  freed_script : (o : Outline) (number : ℕ) (there : List Bool) (batch : List ℕ)
      → freed_course o there batch (on_course number (settled [] (is_empty batch) (rest_of m (place.Reading (length m.reads)))) None) ≡ on_course number (settled [] true (rest_of m (place.Answering 0))) None
  freed_script o number there [] = ap (λ s. on_course number (settled [] true s) None) all_read ∙ ap (λ s. on_course number (settled [] true s) None) (sym from_first)
  freed_script o number there (n ∷ batch) =
      ap (λ s. after_free o there [] (on_course number (settled [] false s) None)) all_read
      ∙ ap (λ s. on_course number (settled there true s) None) (sym from_first)
      ∙ ap (λ s. on_course number s None) (late m there true (place.Answering 0) (omega arith))

  -- settled, all goals are to be answered
  settled_same : (xs : List ℕ) → settled [] true (steps 5 answers xs (install_script m)) ≡ steps 5 answers xs (install_script m)
  settled_same (x ∷ xs) = refl
  settled_same [] = by m.installs
    where
      by : (b : Bool) → settled [] true (if b then step 6 (takes Exclusive m.own_name) (own_script m.own) else whole) ≡ (if b then step 6 (takes Exclusive m.own_name) (own_script m.own) else whole)
      by true = refl
      by false = refl

  all_to_come : answers_left (settled [] true (rest_of m (place.Answering 0))) ≡ m.goals
  all_to_come = ap (λ s. answers_left (settled [] true s)) from_first ∙ ap answers_left (settled_same (below m.goals)) ∙ read_left m []

-- ---- the module

module _ (t : ModuleTask) (lock : TableId) (before pass : Told) (task : IsTask t) (of : IsOf t.plan lock t.worker before) (again : IsOf t.plan lock t.worker pass) (follows : Follows before pass)
    (count : ℕ) (at : IsReading t count before) where
  abbrev rest : List RunEntry
  rest = follows.log.0

  longer : IsRunOf t.plan (seen_by before ++ rest)
  longer = subst (IsRunOf t.plan) follows.log.1 again.run

  whose : module_by t.plan (seen_by before) t.worker ≡ Some t.number
  whose = ap module_of at.at.course

  same_start : start_by pass ≡ start_by before
  same_start = ap (λ fixed. option_and_then (λ (o : Opened). option_map files_now o.told) fixed) follows.fixed

  -- all files are there still
  pub still_all : HasAll t.plan (seen_by pass) t.unit
  still_all =
      subst (λ log. HasAll t.plan log t.unit) (sym follows.log.1)
      (all_still (is_there (standing_of_run t.plan (seen_by before)).there) (is_there (standing_of_run t.plan (seen_by before ++ rest)).there) (λ f there. file_stays t.plan (seen_by before) rest f longer there) t.unit.fetch at.all)

  -- the classpath is within its limit still
  still_within : IsWithin (stood_by t before) → IsWithin (stood_by t pass)
  still_within is =
      subst (λ log. IsWithin (stood t.plan (start_by pass) log t.number t.unit)) (sym follows.log.1)
      (subst (λ start. IsWithin (stood t.plan start (seen_by before ++ rest) t.number t.unit)) (sym same_start)
      (within t.plan (seen_by before) rest t.worker t.number t.unit of.sound longer whose task at.all (start_by before) is))

  -- and its entries have the same bytes
  part_stays : (start : Option Files) (paths : List PathEntry)
      → IfSome (option_map (λ files. contents t.plan files (seen_by before)) start) (λ files. IsPart t.plan files (outputs_in t.plan (seen_by before)) t.unit.entries (length t.unit.entries) paths)
      → IfSome (option_map (λ files. contents t.plan files (seen_by before ++ rest)) start) (λ files. IsPart t.plan files (outputs_in t.plan (seen_by before ++ rest)) t.unit.entries (length t.unit.entries) paths)
  part_stays None paths is = tt
  part_stays (Some files) paths is =
      is ∙ ap (map (path_entry t.plan (contents t.plan files (seen_by before)) (outputs_in t.plan (seen_by before)))) (take-length t.unit.entries)
      ∙ sym (entries_stay t.plan files (seen_by before) rest t.worker t.number t.unit of.sound longer whose task at.all)
      ∙ sym (ap (map (path_entry t.plan (contents t.plan files (seen_by before ++ rest)) (outputs_in t.plan (seen_by before ++ rest)))) (take-length t.unit.entries))

  pub path_stays : (paths : List PathEntry) → IsPath t paths before → IsPath t paths pass
  path_stays paths is =
      subst (λ log. IfSome (stood t.plan (start_by pass) log t.number t.unit).files (λ files. IsPart t.plan files (outputs_in t.plan log) t.unit.entries (length t.unit.entries) paths)) (sym follows.log.1)
      (subst (λ start. IfSome (option_map (λ files. contents t.plan files (seen_by before ++ rest)) start) (λ files. IsPart t.plan files (outputs_in t.plan (seen_by before ++ rest)) t.unit.entries (length t.unit.entries) paths)) (sym same_start)
      (part_stays (start_by before) paths is))

  -- freed, the worker has no goal answered yet
  pub freed : count ≡ length (files_read t.unit) → IsWithin (stood_by t before) → names_by t.plan t.worker pass ≡ []
      → course_by t.plan t.worker pass ≡ freed_course (plan_outline t) (there_by t.plan pass) t.unit.batch (course_by t.plan t.worker before) → HasAnswered t 0 None pass
  freed all is none course = record {
    at = record { course = here; held = none };
    all = still_all;
    within = still_within is;
    good = ap is_good (begun t.plan (seen_by pass) t.worker t.number t.unit (settled [] true (rest_of (unit_outline t) (place.Answering 0))) (record { run = again.run; unit = task; last = None; course = here }) (all_to_come (unit_outline t)));
  }
    where
      here : course_by t.plan t.worker pass ≡ on_course t.number (settled [] true (rest_of (unit_outline t) (place.Answering 0))) None
      here =
          course
          ∙ ap (freed_course (plan_outline t) (there_by t.plan pass) t.unit.batch) (at.at.course ∙ ap (λ n. on_course t.number (settled [] (is_empty t.unit.batch) (rest_of (unit_outline t) (place.Reading n))) None) all)
          ∙ freed_script (unit_outline t) (plan_outline t) t.number (there_by t.plan pass) t.unit.batch
