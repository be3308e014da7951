-- The program's own words for what the profiles of one POM are judged by, and for what a call that
-- asks files gives.
use Rattle.std.specs.Prelude.{◌≡◌, ℕ, Bool, true, false, List, Option, Some, None, ◌++◌, ◌||◌, ◌&&◌, not, is_some, option_map, option_to_list, Result, IfOk}
use Rattle.std.specs.List.{list_any}
use Rattle.std.specs.Option.{option_map_or}
use Rattle.mvn_shared.specs.Cause.{HasCause}
use Rattle.mvn_base.specs.declared.machine.Machine.{Machine}
use Rattle.mvn_base.specs.declared.machine.Pair.{Pair}
use Rattle.mvn_base.specs.declared.refusal.PomId.{PomId}
use Rattle.mvn_base.specs.declared.refusal.PomId.TheVariants as ids
use Rattle.mvn_outside.specs.Faults.{device_failed}
use Rattle.mvn_outside.specs.declared.fault.DeviceFault.{DeviceFault}
use Rattle.model_types.specs.declared.profile.Activation.{Activation}
use Rattle.model_types.specs.declared.profile.Profile.{Profile}
use Rattle.mvn_base.specs.declared.machine.Choice.{Choice}
use Rattle.profiles.specs.Activation.{active, all_hold, asks_file, file_holds, folder_of, for_project, given, is_active, is_chosen, is_default, is_jdk, needs_file, needs_files, os_criteria, places_from, property_criterion, turned}
use Rattle.profiles.specs.FileTexts.{basedir_of, filled, path_of}
use Rattle.profiles.specs.Known.{known_value}
use Rattle.profiles.specs.declared.judge.Judge.{Judge}
use Rattle.profiles.specs.declared.judge.Place.{Place}

-- from the first to the last by steps, each of which tells the same
pub data TellsOn {F : Type 0} (same : F → F → Type 0) : F → F → Type 0 where
  here : (files : F) → TellsOn same files files
  onward : (first next last : F) → same first next → TellsOn same next last → TellsOn same first last

-- in each world that fits the files the answer is this world's value, and the world fits them still; they
-- tell what they told; a failure of theirs, and nothing else, raises the count of faults
pub record Asks {F T : Type 0} (fits : F → (List ℕ → Bool) → Type 0) (faults : F → ℕ)
    (alike : F → F → Type 0) (old now : F)
    (result : Result T DeviceFault) (value : (List ℕ → Bool) → T) : Type 0 where
  pub tells : (world : List ℕ → Bool) → fits old world → IfOk result (λ x. x ≡ value world)
  pub fit : (world : List ℕ → Bool) → fits old world → fits now world
  pub same : TellsOn alike old now
  pub cause : HasCause (faults old) (faults now) (device_failed result)

-- the answer is the value in every world, where no file is asked for
pub record Alone {T : Type 0} (asks : Bool) (result : Result T DeviceFault)
    (value : (List ℕ → Bool) → T) : Type 0 where
  pub is : asks ≡ false → (world : List ℕ → Bool) → IfOk result (λ x. x ≡ value world)

abbrev pub place_of : Machine → PomId → Option Place
place_of machine (ids.Gav gav) = None
place_of machine (ids.Path pom) =
    Some (record { folder = folder_of pom; basedir = basedir_of machine.root (folder_of pom) })

abbrev pub asked_path : Judge → Place → List ℕ → Option (List ℕ)
asked_path j place text =
    path_of j.machine.now.root place.folder (filled place.basedir (known_value j.known) text)

abbrev pub named_by : Judge → List ℕ → Option (Option (List ℕ))
named_by j text = option_map (λ p. asked_path j p text) j.place

-- each criterion, where what is asked of files is known
abbrev pub criteria_by : Judge → Activation → (exists missing : List Bool) → List Bool
criteria_by j a exists missing =
    property_criterion (known_value j.known) a.property ++ exists ++ missing
    ++ given (turned (is_jdk j.machine.now.jdk)) a.jdk ++ os_criteria j.machine.now a.os

abbrev pub holds_by : Judge → (List ℕ → Bool) → Activation → Bool
holds_by j world a = all_hold (criteria_by j a
    (given (λ t. file_holds false world (named_by j t)) a.exists)
    (given (λ t. file_holds true world (named_by j t)) a.missing))

abbrev pub on_by : Judge → List (List ℕ)
on_by j = for_project j.pom.now j.choice.now.on

abbrev pub off_by : Judge → List (List ℕ)
off_by j = for_project j.pom.now j.choice.now.off

abbrev pub is_chosen_by : Judge → (List ℕ → Bool) → Profile → Bool
is_chosen_by j world p = is_chosen (on_by j) (off_by j) (holds_by j world) p

abbrev pub is_default_by : Judge → Profile → Bool
is_default_by j p = is_default (off_by j) p

-- a profile that is chosen, or active by default where none is
abbrev pub is_placed : Judge → Bool → Bool × Profile → Bool
is_placed j any e = e.0 || (not any && is_default_by j e.1)

-- the places of the active profiles among some
abbrev pub active_in : Judge → (List ℕ → Bool) → List Profile → List ℕ
active_in j world profiles =
    places_from (is_active (on_by j) (off_by j) (holds_by j world) profiles) 0 profiles

-- whether a file is asked for an activation, for a profile, for any of some
abbrev pub asks_of : Judge → Activation → Bool
asks_of j a = is_some j.place && asks_file a

abbrev pub asks_for : Judge → Profile → Bool
asks_for j p = is_some j.place && needs_file (on_by j) (off_by j) p

abbrev pub asks_for_any : Judge → List Profile → Bool
asks_for_any j profiles = is_some j.place && list_any (needs_file (on_by j) (off_by j)) profiles

-- a judge of a POM: what it says of the POM's profiles is what the definition says
pub record Judges (j : Judge) (machine : Machine) (defines : List Pair) (choice : Choice)
    (pom : PomId) (profiles : List Profile) : Type 0 where
  pub places : (world : List ℕ → Bool)
      → active_in j world profiles ≡ active machine defines choice world pom profiles
  pub none : needs_files choice pom profiles ≡ false → asks_for_any j profiles ≡ false
