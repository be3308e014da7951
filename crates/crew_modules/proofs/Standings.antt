-- Where a worker stands while it reads, behind a turn.
use Rattle.std.proofs.Common.{◌≡◌, ℕ, ◌+◌, ◌<◌, Bool, true, nat_eq, List, [], ◌∷◌, ◌++◌, length, get_or, slice_get, Some, None, is_some, refl, arith, sym, ap, subst, ◌∙◌}
use Rattle.std.specs.List.{list_all}
use Rattle.std.specs.Option.{option_map_or}
use Rattle.std.proofs.lemmas.Bool.Decides.{nat_tests}
use Rattle.std.proofs.lemmas.List.{get_or-set_same}
use Rattle.std.proofs.lemmas.Option.{get_or_from_slice_get, slice_get_within}
use Rattle.build_core.specs.declared.ending.Ending.{Ending}
use Rattle.build_core.specs.declared.event.Event.TheVariants as event
use Rattle.build_core.specs.declared.plan.Plan.{Plan}
use Rattle.build_core.specs.declared.plan.PlanModule.{PlanModule}
use Rattle.scripts.specs.declared.deed.Deed.TheVariants as deed
use Rattle.event_core.specs.declared.entry.RunEntry.{RunEntry}
use Rattle.scripts.specs.declared.outline.ModuleOutline.{ModuleOutline}
use Rattle.scripts.specs.declared.script_place.ScriptPlace.TheVariants as place
use Rattle.event_core.specs.Enabled.{Enabled, is_due, may_end_so}
use Rattle.scripts.specs.Outlines.{files_read, is_empty, module_outline, outline_of}
use Rattle.event_core.specs.Runs.{IsRunOf, events_of, module_by, standing_of_run}
use Rattle.scripts.specs.ScriptPlaces.{rest_of}
use Rattle.scripts.specs.Scripts.{done, is_there, settled}
use Rattle.event_core.specs.Standing.{after, after_deed, course_of, held_by, idle, module_of, on_course}
use Rattle.event_core.specs.Worlds.{FitsEnd, HandTold}
use Rattle.scripts.proofs.Climbs.{both}
use Rattle.scripts.proofs.Dues.{read_yes}
use Rattle.scripts.proofs.ScriptPlaces as places
use Rattle.run_law.proofs.Basics.{and_is}
use Rattle.run_law.proofs.Complete.{standing}
use Rattle.run_law.proofs.LaterMoments.{front, next_is}
use Rattle.run_law.proofs.Stored.{get_map}
use Rattle.run_law.specs.Others.{HasAll}
use Rattle.run_law.proofs.Staying.{course_stays, file_stays, held_stays}
use Rattle.run_law.proofs.Settling.{late}
use Rattle.atomic_table.specs.Seated.{TableId}
use Rattle.crew_turns.specs.Seen.{Follows, IsOf, Sees, Steps, Told, course_by, names_by, seen_by}
use Rattle.crew_turns.specs.Tasks.{IsTask, ModuleTask, plan_outline, stood_by, unit_outline}
use Rattle.crew_turns.specs.Endings.{is_gather_end}
use Rattle.crew_turns.specs.Stages.{IsReading}
use Rattle.crew_turns.specs.Stops.{freed_course}
use Rattle.crew_modules.specs.Had.{StopsReading}
use Rattle.crew_modules.proofs.ReadingLeaving.{in_range, may_leave}

-- what holds of all, one by one, holds of all where each keeps it
all_over : (p q : ℕ → Bool) → ((x : ℕ) → p x ≡ true → q x ≡ true) → (xs : List ℕ) → list_all p xs ≡ true → list_all q xs ≡ true
all_over p q more [] is = refl
all_over p q more (x ∷ xs) is = let parts = both (p x) (list_all p xs) is in and_is (q x) (list_all q xs) (more x parts.0) (all_over p q more xs parts.1)

-- all files that were there are there
pub all_stay : (plan : Plan) (past rest : List RunEntry) (m : PlanModule) → IsRunOf plan (past ++ rest) → HasAll plan past m → HasAll plan (past ++ rest) m
all_stay plan past rest m run all = all_over (is_there (standing_of_run plan past).there) (is_there (standing_of_run plan (past ++ rest)).there) (λ f there. file_stays plan past rest f run there) m.fetch all

-- ---- a file is read

module _ (m : ModuleOutline) (number at file : ℕ) (is : slice_get m.reads at ≡ Some file) where
  low : at < length m.reads
  low = slice_get_within m.reads at file is

  this : nat_eq file (get_or m.reads at 0) ≡ true
  this = let same : get_or m.reads at 0 ≡ file = get_or_from_slice_get m.reads at file 0 is in grind (arith, nat_tests, same)

  done_is : (there : List Bool) (empty : Bool) → done (settled there empty (rest_of m (place.Reading at))) (deed.Read file) ≡ Some (rest_of m (place.Reading (at + 1)))
  done_is there empty = ap (λ s. done s (deed.Read file)) (places.read_more m there empty at low) ∙ sym (read_yes m at file low this)

  -- the next file to be read is due
  pub due_is : (there : List Bool) (empty : Bool) → is_due (on_course number (settled there empty (rest_of m (place.Reading at))) None) (deed.Read file) ≡ true
  due_is there empty = ap is_some (done_is there empty)

  -- and behind it is the one behind it
  read_on : (there : List Bool) (names : List ℕ) → after_deed there names (deed.Read file) None (on_course number (settled [] (is_empty names) (rest_of m (place.Reading at))) None) ≡ on_course number (settled [] (is_empty names) (rest_of m (place.Reading (at + 1)))) None
  read_on there names =
      ap (λ o. option_map_or (λ rest. on_course number (settled there (is_empty names) rest) None) o (on_course number (settled [] (is_empty names) (rest_of m (place.Reading at))) None)) (done_is [] (is_empty names))
      ∙ ap (λ s. on_course number s None) (late m there (is_empty names) (place.Reading (at + 1)) (omega arith))

-- what the worker of an event is at behind it
read_course : (plan : Plan) (past : List RunEntry) (w file : ℕ) (e : RunEntry) → e.event ≡ event.Read w file → IsRunOf plan (past ++ e ∷ [])
    → course_of (standing_of_run plan (past ++ e ∷ [])) w ≡ after_deed (standing_of_run plan past).there (held_by (standing_of_run plan past) w) (deed.Read file) None (course_of (standing_of_run plan past) w)
unfolding after Enabled
read_course plan past w file e is run =
    let o = outline_of plan in
    let now = standing_of_run plan past in
    let parts = front plan past (e ∷ []) run in
    let low = (subst (λ x. Enabled o (events_of past) x) is parts.1.0).0 in
    let courses = (standing o (events_of past) parts.0).fit.courses in
    ap (λ s. course_of s w) (next_is plan 0 past e ∙ ap (after o now) is)
    ∙ get_or-set_same now.courses w (after_deed now.there (held_by now w) (deed.Read file) None (course_of now w)) idle (omega (arith, low, courses))

read_held : (plan : Plan) (past : List RunEntry) (w file : ℕ) (e : RunEntry) → e.event ≡ event.Read w file → held_by (standing_of_run plan (past ++ e ∷ [])) w ≡ held_by (standing_of_run plan past) w
unfolding after
read_held plan past w file e is = ap (λ s. held_by s w) (next_is plan 0 past e ∙ ap (after (outline_of plan) (standing_of_run plan past)) is)

-- ---- behind a turn

module _ (t : ModuleTask) (lock : TableId) (before pass : Told) where
  -- all files of its fetch list are there still
  pub has_all : IsOf t.plan lock t.worker pass → Follows before pass → HasAll t.plan (seen_by before) t.unit → HasAll t.plan (seen_by pass) t.unit
  has_all of follows all =
      subst (λ log. HasAll t.plan log t.unit) (sym follows.log.1)
      (all_stay t.plan (seen_by before) follows.log.0 t.unit (subst (IsRunOf t.plan) follows.log.1 of.run) all)

  module _ (count : ℕ) (reading : IsReading t count before) where
    -- a turn without an event of the worker leaves where it stands
    pub sees_reading : Sees t.plan lock t.worker before pass → IsReading t count pass
    sees_reading sees = record {
      at = record {
        course = ap (λ log. course_of (standing_of_run t.plan log) t.worker) sees.log ∙ course_stays t.plan (seen_by before) sees.others t.worker sees.apart ∙ reading.at.course;
        held = ap (λ log. held_by (standing_of_run t.plan log) t.worker) sees.log ∙ held_stays t.plan (seen_by before) sees.others t.worker sees.apart ∙ reading.at.held;
      };
      all = has_all sees.of sees.follows reading.all;
    }

    module _ (file : ℕ) (next : slice_get (files_read t.unit) count ≡ Some file) where
      -- the next file is due
      pub due_now : is_due (course_by t.plan t.worker before) (deed.Read file) ≡ true
      due_now = ap (λ c. is_due c (deed.Read file)) reading.at.course ∙ due_is (unit_outline t) t.number count file next [] (is_empty t.unit.batch)

      -- and a turn in which it was read leads on
      pub steps_reading : Steps t.plan lock t.worker (event.Read t.worker file) before pass → IsReading t (count + 1) pass
      steps_reading steps =
          let past = seen_by before ++ steps.others in
          let e : RunEntry = record { event = event.Read t.worker file; carried = steps.what } in
          let run : IsRunOf t.plan (past ++ e ∷ []) = subst (IsRunOf t.plan) steps.log steps.of.run in
          let course : course_of (standing_of_run t.plan past) t.worker ≡ on_course t.number (settled [] (is_empty t.unit.batch) (rest_of (unit_outline t) (place.Reading count))) None = course_stays t.plan (seen_by before) steps.others t.worker steps.apart ∙ reading.at.course in
          let held : held_by (standing_of_run t.plan past) t.worker ≡ t.unit.batch = held_stays t.plan (seen_by before) steps.others t.worker steps.apart ∙ reading.at.held in
          let there = (standing_of_run t.plan past).there in
          record {
            at = record {
              course =
                  ap (λ log. course_of (standing_of_run t.plan log) t.worker) steps.log ∙ read_course t.plan past t.worker file e refl run
                  ∙ ap (λ names. after_deed there names (deed.Read file) None (course_of (standing_of_run t.plan past) t.worker)) held
                  ∙ ap (after_deed there t.unit.batch (deed.Read file) None) course
                  ∙ read_on (unit_outline t) t.number count file next there t.unit.batch;
              held = ap (λ log. held_by (standing_of_run t.plan log) t.worker) steps.log ∙ read_held t.plan past t.worker file e refl ∙ held;
            };
            all = has_all steps.of steps.follows reading.all;
          }

-- ---- where it stops

module _ (t : ModuleTask) (is : IsTask t) (count : ℕ) (pass : Told) (reading : IsReading t count pass) where
  pub whose : module_by t.plan (seen_by pass) t.worker ≡ Some t.number
  whose = ap module_of reading.at.course

  may_end : (e : Ending) → is_gather_end e ≡ true → (there : List Bool) → may_end_so (plan_outline t) (freed_course (plan_outline t) there (names_by t.plan t.worker pass) (course_by t.plan t.worker pass)) e ≡ true
  may_end e ends there =
      ap (λ c. may_end_so (plan_outline t) (freed_course (plan_outline t) there (names_by t.plan t.worker pass) c) e) reading.at.course
      ∙ ap (λ names. may_end_so (plan_outline t) (freed_course (plan_outline t) there names (on_course t.number (settled [] (is_empty t.unit.batch) (rest_of (unit_outline t) (place.Reading count))) None)) e) reading.at.held
      ∙ may_leave (plan_outline t) t.number (unit_outline t) (get_map module_outline t.plan.modules t.number t.unit is) there t.unit.batch count e ends

  -- the worker may stop so
  pub stops : (e : Ending) → is_gather_end e ≡ true → ((told : HandTold) → FitsEnd (stood_by t pass) told e) → StopsReading t e pass
  stops e ends fits = record {
    held = reading.at.held;
    may = λ told. record {
      may = record { whose = whose; ends = may_end e ends; range = in_range (plan_outline t) (course_by t.plan t.worker pass) e ends };
      fits = fits told;
    };
    end = ends;
  }
