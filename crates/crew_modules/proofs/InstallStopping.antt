-- How a module may end that is to be installed, and what that leaves.
use Rattle.std.proofs.Common.{◌≡◌, ℕ, ◌<◌, Bool, true, false, not, ◌&&◌, ◌||◌, List, [], ◌∷◌, ◌++◌, length, Option, Some, None, is_some, refl, ap, subst, ◌∙◌}
use Rattle.std.specs.Option.{option_map_or}
use Rattle.std.proofs.lemmas.Bool.{false≢true}
use Rattle.build_core.specs.declared.mode.Mode.TheVariants.{Exclusive}
use Rattle.build_core.specs.OneThread.{lacks_artifact}
use Rattle.build_core.specs.Slots.{kept_of}
use Rattle.build_core.specs.declared.ending.Device.TheVariants as device
use Rattle.build_core.specs.declared.ending.Ending.{Ending}
use Rattle.build_core.specs.declared.ending.Ending.TheVariants as ending
use Rattle.scripts.specs.declared.deed.Deed.TheVariants as deed
use Rattle.scripts.specs.declared.outline.ModuleOutline.{ModuleOutline}
use Rattle.scripts.specs.declared.outline.Outline.{Outline}
use Rattle.scripts.specs.declared.script_place.ScriptPlace.TheVariants as place
use Rattle.event_core.specs.Enabled.{ending_in_range, may_end_so, needs_artifact}
use Rattle.scripts.specs.Outlines.{module_outline}
use Rattle.event_core.specs.Runs.{IsRunOf, module_by}
use Rattle.scripts.specs.ScriptPlaces.{rest_of}
use Rattle.scripts.specs.Scripts.{Script, done, is_gathered, own_script, settled, step, takes, wanted, whole}
use Rattle.event_core.specs.Standing.{Course, after_free, goals_of, module_of, off_course, on_course}
use Rattle.event_core.specs.Worlds.{FitsEnd, HandTold, is_installed}
use Rattle.scripts.proofs.Climbs.{both}
use Rattle.run_law.proofs.Basics.{or_right}
use Rattle.run_law.proofs.Stored.{get_map}
use Rattle.atomic_table.specs.Seated.{TableId}
use Rattle.crew_turns.specs.Ends.{ends_as}
use Rattle.crew_turns.specs.Seen.{Follows, IsOf, Told, course_by, names_by, seen_by}
use Rattle.crew_turns.specs.Tasks.{IsTask, ModuleTask, plan_outline, stood_by, unit_outline}
use Rattle.crew_turns.specs.Endings.{endings_of, is_fault_of, is_install_end, is_quiet_end}
use Rattle.crew_turns.specs.Stages.{HasAnswered, IsInstalling}
use Rattle.crew_turns.specs.Stops.{HasEnded, MayStop, freed_course}
use Rattle.crew_modules.proofs.NoEnds.{ended_none}
use Rattle.crew_modules.specs.Putting.{is_put_end}
use Rattle.crew_modules.proofs.Going.{follows_more, securing, to_install}
use Rattle.crew_modules.proofs.InstallPlaces.{free_due, not_installed}

-- ---- endings

-- what is settled of an ending of a module to be installed is one
pub install_end_settled : (e : Ending) (marked : Bool) → is_install_end e ≡ true → is_install_end (ends_as e marked) ≡ true
install_end_settled ending.Built true is = refl
install_end_settled ending.Built false is = refl
install_end_settled ending.NoArtifact true is = refl
install_end_settled ending.NoArtifact false is = refl
install_end_settled (ending.Fault device.Area) true is = refl
install_end_settled (ending.Fault device.Area) false is = refl
install_end_settled (ending.Fault device.Shelf) true is = refl
install_end_settled (ending.Fault device.Shelf) false is = refl
install_end_settled ending.Memory true is = refl
install_end_settled ending.Memory false is = refl
install_end_settled (ending.Missing file) marked is = absurd (false≢true is)
install_end_settled ending.ClasspathTooLarge marked is = absurd (false≢true is)
install_end_settled (ending.Goal i) marked is = absurd (false≢true is)
install_end_settled (ending.OutputTooLarge i) marked is = absurd (false≢true is)
install_end_settled (ending.Fault device.Remote) marked is = absurd (false≢true is)
install_end_settled (ending.Fault device.Gate) marked is = absurd (false≢true is)

pub put_install_end : (e : Ending) → is_put_end e ≡ true → is_install_end e ≡ true
put_install_end (ending.Fault device.Area) is = refl
put_install_end (ending.Fault device.Shelf) is = refl
put_install_end ending.Memory is = refl
put_install_end ending.Built is = refl
put_install_end ending.NoArtifact is = refl
put_install_end (ending.Missing file) is = absurd (false≢true is)
put_install_end ending.ClasspathTooLarge is = absurd (false≢true is)
put_install_end (ending.Goal i) is = absurd (false≢true is)
put_install_end (ending.OutputTooLarge i) is = absurd (false≢true is)
put_install_end (ending.Fault device.Remote) is = absurd (false≢true is)
put_install_end (ending.Fault device.Gate) is = absurd (false≢true is)

-- settling blames the area no more and no less
pub area_settled : (e : Ending) (marked : Bool) → is_fault_of device.Area (ends_as e marked) ≡ is_fault_of device.Area e
area_settled ending.Built true = refl
area_settled ending.Built false = refl
area_settled (ending.Missing file) true = refl
area_settled (ending.Missing file) false = refl
area_settled ending.ClasspathTooLarge true = refl
area_settled ending.ClasspathTooLarge false = refl
area_settled (ending.Goal i) true = refl
area_settled (ending.Goal i) false = refl
area_settled (ending.OutputTooLarge i) true = refl
area_settled (ending.OutputTooLarge i) false = refl
area_settled ending.NoArtifact true = refl
area_settled ending.NoArtifact false = refl
area_settled (ending.Fault d) true = refl
area_settled (ending.Fault device.Remote) false = refl
area_settled (ending.Fault device.Area) false = refl
area_settled (ending.Fault device.Shelf) false = refl
area_settled (ending.Fault device.Gate) false = refl
area_settled ending.Memory true = refl
area_settled ending.Memory false = refl

-- and what is quiet then was quiet
pub quiet_settled : (e : Ending) (marked : Bool) → is_quiet_end (ends_as e marked) ≡ true → is_quiet_end e ≡ true
quiet_settled ending.Built marked is = refl
quiet_settled (ending.Missing file) marked is = refl
quiet_settled ending.ClasspathTooLarge marked is = refl
quiet_settled (ending.Goal i) marked is = refl
quiet_settled (ending.OutputTooLarge i) marked is = refl
quiet_settled ending.NoArtifact marked is = refl
quiet_settled (ending.Fault d) true is = is
quiet_settled (ending.Fault device.Remote) false is = is
quiet_settled (ending.Fault device.Area) false is = is
quiet_settled (ending.Fault device.Shelf) false is = absurd (false≢true is)
quiet_settled (ending.Fault device.Gate) false is = is
quiet_settled ending.Memory true is = is
quiet_settled ending.Memory false is = is

-- ---- when it may end so

-- a fault or want of memory may end a module that is at work, on its script or off it
failed_may : (o : Outline) (there : List Bool) (number : ℕ) (script : Script) (e : Ending) → is_put_end e ≡ true → (found : Option Script)
    → may_end_so o (option_map_or (λ rest. on_course number (settled there true rest) None) found (off_course number (wanted script) (is_gathered (goals_of o number) script))) e ≡ true
failed_may o there number script (ending.Fault device.Area) is None = refl
failed_may o there number script (ending.Fault device.Area) is (Some rest) = refl
failed_may o there number script (ending.Fault device.Shelf) is None = refl
failed_may o there number script (ending.Fault device.Shelf) is (Some rest) = refl
failed_may o there number script ending.Memory is None = refl
failed_may o there number script ending.Memory is (Some rest) = refl
failed_may o there number script ending.Built is found = absurd (false≢true is)
failed_may o there number script ending.NoArtifact is found = absurd (false≢true is)
failed_may o there number script (ending.Missing file) is found = absurd (false≢true is)
failed_may o there number script ending.ClasspathTooLarge is found = absurd (false≢true is)
failed_may o there number script (ending.Goal i) is found = absurd (false≢true is)
failed_may o there number script (ending.OutputTooLarge i) is found = absurd (false≢true is)
failed_may o there number script (ending.Fault device.Remote) is found = absurd (false≢true is)
failed_may o there number script (ending.Fault device.Gate) is found = absurd (false≢true is)

failed_range : (o : Outline) (c : Course) (e : Ending) → is_put_end e ≡ true → ending_in_range o c e ≡ true
failed_range o c (ending.Fault device.Area) is = refl
failed_range o c (ending.Fault device.Shelf) is = refl
failed_range o c ending.Memory is = refl
failed_range o c ending.Built is = refl
failed_range o c ending.NoArtifact is = refl
failed_range o c (ending.Missing file) is = absurd (false≢true is)
failed_range o c ending.ClasspathTooLarge is = refl
failed_range o c (ending.Goal i) is = absurd (false≢true is)
failed_range o c (ending.OutputTooLarge i) is = absurd (false≢true is)
failed_range o c (ending.Fault device.Remote) is = refl
failed_range o c (ending.Fault device.Gate) is = refl

failed_fits : (t : ModuleTask) (pass : Told) (told : HandTold) (e : Ending) → is_put_end e ≡ true → FitsEnd (stood_by t pass) told e
failed_fits t pass told (ending.Fault device.Area) is = tt
failed_fits t pass told (ending.Fault device.Shelf) is = tt
failed_fits t pass told ending.Memory is = tt
failed_fits t pass told ending.Built is = absurd (false≢true is)
failed_fits t pass told ending.NoArtifact is = absurd (false≢true is)
failed_fits t pass told (ending.Missing file) is = absurd (false≢true is)
failed_fits t pass told ending.ClasspathTooLarge is = absurd (false≢true is)
failed_fits t pass told (ending.Goal i) is = absurd (false≢true is)
failed_fits t pass told (ending.OutputTooLarge i) is = absurd (false≢true is)
failed_fits t pass told (ending.Fault device.Remote) is = absurd (false≢true is)
failed_fits t pass told (ending.Fault device.Gate) is = absurd (false≢true is)

-- what doesn't lack isn't lacking
not_lacking : (installs lacks : Bool) → lacks ≡ false → (installs && lacks) ≡ false
not_lacking true lacks is = is
not_lacking false lacks is = refl

module _ (t : ModuleTask) (pass : Told) where
  -- ---- with its own name held

  module _ (count : ℕ) (at : IsInstalling t count pass) where
    pub installing_whose : module_by t.plan (seen_by pass) t.worker ≡ Some t.number
    installing_whose = ap module_of at.at.course

    -- freed, the worker is where the free led
    freed : (there : List Bool) → freed_course (plan_outline t) there (names_by t.plan t.worker pass) (course_by t.plan t.worker pass) ≡ after_free (plan_outline t) there [] (on_course t.number (rest_of (unit_outline t) (place.Installing at.here)) None)
    freed there =
        ap (λ names. freed_course (plan_outline t) there names (course_by t.plan t.worker pass)) at.at.held
        ∙ ap (after_free (plan_outline t) there []) at.at.course

    -- where it stopped it may end by that
    pub failed_stops : (told : HandTold) (e : Ending) → is_put_end e ≡ true → MayStop t told e pass
    failed_stops told e is = record {
      may = record {
        whose = installing_whose;
        ends = λ there. ap (λ c. may_end_so (plan_outline t) c e) (freed there) ∙ failed_may (plan_outline t) there t.number (rest_of (unit_outline t) (place.Installing at.here)) e is (done (rest_of (unit_outline t) (place.Installing at.here)) deed.Free);
        range = failed_range (plan_outline t) (course_by t.plan t.worker pass) e is;
      };
      fits = failed_fits t pass told e is;
    }

    -- where all is put it may end well
    pub built_stops : (told : HandTold) → 0 < count → is_installed (stood_by t pass) ≡ true → MayStop t told ending.Built pass
    built_stops told above put = record {
      may = record {
        whose = installing_whose;
        ends = λ there. ap (λ c. may_end_so (plan_outline t) c ending.Built) (freed there)
            ∙ ap (λ found. may_end_so (plan_outline t) (option_map_or (λ rest. on_course t.number (settled there true rest) None) found (off_course t.number (wanted (rest_of (unit_outline t) (place.Installing at.here))) (is_gathered (goals_of (plan_outline t) t.number) (rest_of (unit_outline t) (place.Installing at.here))))) ending.Built)
            (free_due (unit_outline t) at.here (at.begun above));
        range = refl;
      };
      fits = (at.may.0, at.may.1, or_right (not t.unit.installs) (is_installed (stood_by t pass)) put, not_lacking t.unit.installs (lacks_artifact t.unit (kept_of (stood_by t pass).goals)) at.may.2);
    }
    -- ---- with no name held

module _ (t : ModuleTask) (lock : TableId) (pass : Told) (of : IsOf t.plan lock t.worker pass) (is : IsTask t) (last : Option ℕ) (at : HasAnswered t (length t.unit.goals) last pass) where
  pub answered_whose : module_by t.plan (seen_by pass) t.worker ≡ Some t.number
  answered_whose = ap module_of (to_install t lock pass of is last at)

  unfreed : (there : List Bool) (c : Course) → course_by t.plan t.worker pass ≡ c → freed_course (plan_outline t) there (names_by t.plan t.worker pass) (course_by t.plan t.worker pass) ≡ c
  unfreed there c course = ap (λ names. freed_course (plan_outline t) there names (course_by t.plan t.worker pass)) at.at.held ∙ course

  -- a module that isn't to be installed is built
  pub plain_stops : (told : HandTold) → t.unit.installs ≡ false → MayStop t told ending.Built pass
  plain_stops told not_so = record {
    may = record {
      whose = answered_whose;
      ends = λ there. ap (λ c. may_end_so (plan_outline t) c ending.Built)
          (unfreed there (on_course t.number whole last) (to_install t lock pass of is last at ∙ ap (λ s. on_course t.number s last) (not_installed (unit_outline t) not_so)));
      range = refl;
    };
    fits = (
      at.within,
      at.good,
      ap (λ b. not b || is_installed (stood_by t pass)) not_so,
      ap (λ b. b && lacks_artifact t.unit (kept_of (stood_by t pass).goals)) not_so,
    );
  }

  -- one that is, and lacks its artifact, ends for that
  pub lacking_stops : (told : HandTold) → t.unit.installs ≡ true → lacks_artifact t.unit (kept_of (stood_by t pass).goals) ≡ true → MayStop t told ending.NoArtifact pass
  lacking_stops told installs lacks = record {
    may = record {
      whose = answered_whose;
      ends = λ there. ap (λ c. may_end_so (plan_outline t) c ending.NoArtifact)
          (unfreed there (on_course t.number (step 6 (takes Exclusive t.unit.own_name) (own_script (unit_outline t).own)) last) (securing t lock pass of is last at installs))
          ∙ ap (λ found. option_map_or (λ (x : ModuleOutline). x.needs_artifact) found false) (get_map module_outline t.plan.modules t.number t.unit is)
          ∙ (both t.unit.needs_artifact (not (is_some (Rattle.build_core.specs.Slots.slot_bytes (kept_of (stood_by t pass).goals) Rattle.goal_types.specs.declared.goal.Slot.TheVariants.Main))) lacks).0;
      range = refl;
    };
    fits = (at.within, at.good, ap (λ b. b && lacks_artifact t.unit (kept_of (stood_by t pass).goals)) installs ∙ lacks);
  }

-- ---- an ending behind a whole stage

pub ended_behind : (t : ModuleTask) (lock : TableId) (e : Ending) (before mid pass : Told) → IsRunOf t.plan (seen_by mid) → module_by t.plan (seen_by before) t.worker ≡ Some t.number → Follows before mid
    → module_by t.plan (seen_by mid) t.worker ≡ Some t.number → HasEnded t lock e mid pass → HasEnded t lock e before pass
ended_behind t lock e before mid pass run then_at follows now_at ended = record {
  of = ended.of;
  follows = follows_more before mid pass follows ended.follows;
  ended =
      ended.ended
      ∙ ap (λ es. es ++ e ∷ []) (ap (endings_of t.worker) follows.log.1
      ∙ ended_none t.plan t.worker t.number (seen_by before) follows.log.0 (subst (IsRunOf t.plan) follows.log.1 run) then_at (subst (λ log. module_by t.plan log t.worker ≡ Some t.number) follows.log.1 now_at));
  idle = ended.idle;
}
