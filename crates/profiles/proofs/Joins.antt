-- The places by what was chosen of each profile, and what the program keeps against the definition.
use Rattle.std.proofs.Common.{◌≡◌, ℕ, suc, Bool, true, false, not, ◌&&◌, ◌||◌, List, [], ◌∷◌, map, zip, Option, option_map, option_to_list, is_some, Result, IfOk, refl, sym, ap, subst, ◌∙◌, if◌then◌else◌}
use Rattle.std.specs.List.{list_any}
use Rattle.mvn_base.specs.declared.machine.Choice.{Choice}
use Rattle.mvn_base.specs.declared.machine.Machine.{Machine}
use Rattle.mvn_base.specs.declared.machine.Pair.{Pair}
use Rattle.mvn_base.specs.declared.refusal.PomId.{PomId}
use Rattle.mvn_base.specs.declared.refusal.PomId.TheVariants as ids
use Rattle.model_types.specs.declared.profile.Activation.{Activation}
use Rattle.model_types.specs.declared.profile.Profile.{Profile}
use Rattle.mvn_outside.specs.declared.fault.DeviceFault.{DeviceFault}
use Rattle.profiles.specs.declared.judge.Judge.{Judge}
use Rattle.profiles.specs.declared.judge.Place.{Place}
use Rattle.profiles.specs.FileTexts.{filled, path_of}
use Rattle.profiles.specs.Known.{known_value}
use Rattle.profiles.specs.Lookups.{property_of}
use Rattle.profiles.specs.Activation.{active, active_by, all_hold, criteria, file_holds, for_project, given, holds_in, is_active, named_path, needs_file, needs_files, places_from}
use Rattle.profiles.specs.Judging.{Alone, Judges, active_in, asks_for_any, criteria_by, holds_by, is_chosen_by, is_default_by, is_placed, named_by, place_of}

-- the places by what was chosen of each
places_same : (j : Judge) (chosen : Profile → Bool) (any : Bool) (place : ℕ) (profiles : List Profile)
    → places_from (is_placed j any) place (zip (map chosen profiles) profiles) ≡ places_from (λ p. chosen p || (not any && is_default_by j p)) place profiles
places_same j chosen any place [] = refl
places_same j chosen any place (p ∷ profiles) =
    ap (λ l. if is_placed j any (chosen p, p) then place ∷ l else l) (places_same j chosen any (suc place) profiles)

any_chosen : (chosen : Profile → Bool) (profiles : List Profile) → list_any (λ b. b) (map chosen profiles) ≡ list_any chosen profiles
any_chosen chosen [] = refl
any_chosen chosen (p ∷ profiles) = ap (λ b. chosen p || b) (any_chosen chosen profiles)

pub places_active : (j : Judge) (world : List ℕ → Bool) (profiles : List Profile) (chosen : List Bool) → chosen ≡ map (is_chosen_by j world) profiles
    → places_from (is_placed j (list_any (λ b. b) chosen)) 0 (zip chosen profiles) ≡ active_in j world profiles
places_active j world profiles chosen is =
    ap (λ l. places_from (is_placed j (list_any (λ b. b) l)) 0 (zip l profiles)) is
    ∙ ap (λ any. places_from (is_placed j any) 0 (zip (map (is_chosen_by j world) profiles) profiles)) (any_chosen (is_chosen_by j world) profiles)
    ∙ places_same j (is_chosen_by j world) (list_any (is_chosen_by j world) profiles) 0 profiles

-- what is asked of an activation, by what was answered of its files
pub judged : (j : Judge) (a : Activation) (world : List ℕ → Bool) (exists missing : Option Bool) (list kept : List Bool) (holds : Bool)
    → exists ≡ option_map (λ t. file_holds false world (named_by j t)) a.exists → missing ≡ option_map (λ t. file_holds true world (named_by j t)) a.missing
    → list ≡ criteria_by j a (option_to_list exists) (option_to_list missing) → kept ≡ list → holds ≡ all_hold kept → holds ≡ holds_by j world a
judged j a world exists missing list kept holds there gone listed same all =
    all ∙ ap all_hold (same ∙ listed ∙ ap (λ e. criteria_by j a (option_to_list e) (option_to_list missing)) there)
    ∙ ap (λ m. all_hold (criteria_by j a (given (λ t. file_holds false world (named_by j t)) a.exists) (option_to_list m))) gone

-- what a text names, and what holds, by the place of the POM
abbrev pub named_at : Machine → (List ℕ → Option (List ℕ)) → Option Place → List ℕ → Option (Option (List ℕ))
named_at machine value place text = option_map (λ (p : Place). path_of machine.root p.folder (filled p.basedir value text)) place

named_same : (machine : Machine) (value : List ℕ → Option (List ℕ)) (pom : PomId) (text : List ℕ) → named_at machine value (place_of machine pom) text ≡ named_path machine value pom text
named_same machine value (ids.Gav gav) text = refl
named_same machine value (ids.Path path) text = refl

abbrev pub holds_at : Machine → (List ℕ → Option (List ℕ)) → Option Place → (List ℕ → Bool) → Activation → Bool
holds_at machine value place world a = all_hold (criteria machine value world (named_at machine value place) a)

holds_same : (machine : Machine) (kept value : List ℕ → Option (List ℕ)) (world : List ℕ → Bool) (pom : PomId) → ((name : List ℕ) → kept name ≡ value name)
    → ◌≡◌ {A = Activation → Bool} (holds_at machine kept (place_of machine pom) world) (holds_in machine value world pom)
holds_same machine kept value world pom same =
    ap (λ v. holds_at machine v (place_of machine pom) world) (λ i name. same name i)
    ∙ (λ i a. all_hold (criteria machine value world (λ text. named_same machine value pom text i) a))

pub active_same : (machine : Machine) (defines : List Pair) (choice : Choice) (world : List ℕ → Bool) (pom : PomId) (profiles : List Profile) (kept : List ℕ → Option (List ℕ)) (place : Option Place)
    → ((name : List ℕ) → kept name ≡ property_of defines machine.system machine.env name) → place ≡ place_of machine pom
    → places_from (is_active (for_project pom choice.on) (for_project pom choice.off) (holds_at machine kept place world) profiles) 0 profiles ≡ active machine defines choice world pom profiles
unfolding active
active_same machine defines choice world pom profiles kept place same stands =
    ap (λ p. places_from (is_active (for_project pom choice.on) (for_project pom choice.off) (holds_at machine kept p world) profiles) 0 profiles) stands
    ∙ ap (λ h. places_from (is_active (for_project pom choice.on) (for_project pom choice.off) h profiles) 0 profiles) (holds_same machine kept (property_of defines machine.system machine.env) world pom same)

needs_same : (machine : Machine) (choice : Choice) (pom : PomId) (place : Option Place) (profiles : List Profile) → place ≡ place_of machine pom
    → (is_some place && list_any (needs_file (for_project pom choice.on) (for_project pom choice.off)) profiles) ≡ needs_files choice pom profiles
needs_same machine choice (ids.Gav gav) place profiles stands = ap (λ p. is_some p && list_any (needs_file [] []) profiles) stands
needs_same machine choice (ids.Path path) place profiles stands = ap (λ p. is_some p && list_any (needs_file choice.on choice.off) profiles) stands

-- a judge whose properties and place are the definition's says what the definition says
pub judges : (j : Judge) (defines : List Pair) (pom : PomId) (profiles : List Profile) → j.pom.now ≡ pom
    → ((name : List ℕ) → known_value j.known name ≡ property_of defines j.machine.now.system j.machine.now.env name) → j.place ≡ place_of j.machine.now j.pom.now
    → Judges j j.machine.now defines j.choice.now pom profiles
judges j defines pom profiles is same stands = record {
  places = λ world.
      active_same j.machine.now defines j.choice.now world j.pom.now profiles (known_value j.known) j.place same stands
      ∙ ap (λ p. active j.machine.now defines j.choice.now world p profiles) is;
  none = λ none. needs_same j.machine.now j.choice.now j.pom.now j.place profiles stands ∙ ap (λ p. needs_files j.choice.now p profiles) is ∙ none;
}

-- an answer is what another equals
pub same_answer : (r : Result (List ℕ) DeviceFault) {a b : List ℕ} → IfOk r (λ x. x ≡ a) → a ≡ b → IfOk r (λ x. x ≡ b)
same_answer r is same = subst (λ y. IfOk r (λ x. x ≡ y)) same is

-- so where no file is asked for
pub alone_same : {j : Judge} {machine : Machine} {defines : List Pair} {choice : Choice} {pom : PomId} {profiles : List Profile} (r : Result (List ℕ) DeviceFault)
    → Judges j machine defines choice pom profiles → Alone (asks_for_any j profiles) r (λ world. active_in j world profiles)
    → needs_files choice pom profiles ≡ false → (world : List ℕ → Bool) → IfOk r (λ x. x ≡ active machine defines choice world pom profiles)
alone_same r judge alone none world = same_answer r (alone.is (judge.none none) world) (judge.places world)

-- no profile is active where there is none
pub none_active : (machine : Machine) (defines : List Pair) (choice : Choice) (there : List ℕ → Bool) (pom : PomId) (profiles : List Profile) → profiles ≡ [] → [] ≡ active machine defines choice there pom profiles
unfolding active
none_active machine defines choice there pom profiles none =
    sym (ap (λ l. active_by machine (property_of defines machine.system machine.env) choice there pom l) none)
