-- Which profiles of a POM are active. Introduction to Build Profiles, "How can a profile be triggered?";
-- what no page says is an own rule.
use Rattle.std.specs.Prelude.{ℕ, suc, Bool, true, false, not, ◌&&◌, ◌||◌, nat_eq, length, List, [], ◌∷◌, ◌++◌, codes, option_to_list, Option, Some, None, option_map, Result, Ok, Err, is_some, if◌then◌else◌}
use Rattle.std.specs.List.{list_any, list_all}
use Rattle.std.specs.Option.{option_map_or}
use Rattle.std.specs.Str.{bytes_eq, str_eq_ignore_ascii_case}
use Rattle.mvn_base.specs.declared.machine.Machine.{Machine}
use Rattle.mvn_base.specs.declared.machine.Pair.{Pair}
use Rattle.mvn_base.specs.declared.refusal.PomId.{PomId}
use Rattle.mvn_base.specs.declared.refusal.PomId.TheVariants as ids
use Rattle.model_types.specs.declared.profile.Activation.{Activation}
use Rattle.model_types.specs.declared.profile.Os.{Os}
use Rattle.model_types.specs.declared.profile.Profile.{Profile}
use Rattle.model_types.specs.declared.profile.Property.{Property}
use Rattle.mvn_base.specs.declared.machine.Choice.{Choice}
use Rattle.versions.specs.Requirements.{admits, requirement}
use Rattle.versions.specs.declared.requirement.Requirement.{Requirement}
use Rattle.mvn_base.specs.Paths.{joined}
use Rattle.profiles.specs.FileTexts.{basedir_of, filled, path_of}
use Rattle.profiles.specs.Lookups.{Lookup, behind, property_of}

-- whether a text begins with `!`, which turns a test round, and what is tested
abbrev pub turn : List ℕ → Bool × List ℕ
turn text = by (behind (codes "!") text)
  where
    by : Option (List ℕ) → Bool × List ℕ
    by None = (false, text)
    by (Some rest) = (true, rest)

abbrev pub turned : (List ℕ → Bool) → List ℕ → Bool
turned test text = if (turn text).0 then not (test (turn text).1) else test (turn text).1

abbrev pub is_value : Option (List ℕ) → List ℕ → Bool
is_value None wanted = false
is_value (Some value) wanted = bytes_eq value wanted

-- `name` is defined, and has the value where one is given; `!name` isn't defined
abbrev pub property_holds : Lookup → Property → Bool
property_holds value p =
    if (turn p.name).0 then not (is_some (value (turn p.name).1))
    else has_value (value (turn p.name).1) p.value
  where
    has_value : Option (List ℕ) → Option (List ℕ) → Bool
    has_value own None = is_some own
    has_value own (Some wanted) = turned (is_value own) wanted

abbrev pub is_range : List ℕ → Bool
is_range text = is_some (behind (codes "[") text) || is_some (behind (codes "(") text)

abbrev pub admitted_by : Result Requirement ℕ → List ℕ → Bool
admitted_by (Ok r) version = admits r version
admitted_by (Err place) version = false

-- a range admits the version, or a text begins it
abbrev pub is_jdk : List ℕ → List ℕ → Bool
is_jdk jdk text =
    if is_range text then admitted_by (requirement text) jdk else is_some (behind text jdk)

abbrev pub is_system : List ℕ → List ℕ → Bool
is_system own text = str_eq_ignore_ascii_case own text

abbrev pub given : (List ℕ → Bool) → Option (List ℕ) → List Bool
given test text = option_to_list (option_map test text)

abbrev pub os_criteria : Machine → Option Os → List Bool
os_criteria machine None = []
os_criteria machine (Some os) =
    given (turned (is_system machine.os_name)) os.name
    ++ given (turned (is_system machine.os_family)) os.family
    ++ given (turned (is_system machine.os_arch)) os.arch
    ++ given (turned (is_system machine.os_version)) os.version

-- whether a file stands at a path; a text that names no file names an absent one
abbrev pub stands : (List ℕ → Bool) → Option (List ℕ) → Bool
stands there None = false
stands there (Some path) = there path

-- a file that is there, or that is missing; in a POM read by coordinates neither holds
abbrev pub file_holds : Bool → (List ℕ → Bool) → Option (Option (List ℕ)) → Bool
file_holds missing there None = false
file_holds missing there (Some path) =
    if missing then not (stands there path) else stands there path

abbrev pub property_criterion : Lookup → Option Property → List Bool
property_criterion value p = option_to_list (option_map (property_holds value) p)

-- each criterion of an activation, and whether it holds
abbrev pub criteria : Machine → Lookup → (List ℕ → Bool) → (List ℕ → Option (Option (List ℕ)))
    → Activation → List Bool
criteria machine value there named a =
    property_criterion value a.property
    ++ given (λ text. file_holds false there (named text)) a.exists
    ++ given (λ text. file_holds true there (named text)) a.missing
    ++ given (turned (is_jdk machine.jdk)) a.jdk
    ++ os_criteria machine a.os

-- at least one, and all of them
abbrev pub all_hold : List Bool → Bool
all_hold cs = not (nat_eq (length cs) 0) && list_all (λ b. b) cs

abbrev pub is_listed : List (List ℕ) → List ℕ → Bool
is_listed ids id = list_any (λ x. bytes_eq x id) ids

abbrev pub is_of_project : PomId → Bool
is_of_project (ids.Gav gav) = false
is_of_project (ids.Path path) = true

-- the ids that are switched on or off: none for a POM read by coordinates
abbrev pub for_project : PomId → List (List ℕ) → List (List ℕ)
for_project (ids.Gav gav) names = []
for_project (ids.Path path) names = names

-- active by its id or by its criteria, and not switched off
abbrev pub is_chosen : (on off : List (List ℕ)) → (Activation → Bool) → Profile → Bool
is_chosen on off holds p =
    not (is_listed off p.id) && (is_listed on p.id || option_map_or holds p.activation false)

-- active by default, where no profile is chosen
abbrev pub is_default : (off : List (List ℕ)) → Profile → Bool
is_default off p =
    option_map_or (λ (a : Activation). a.by_default) p.activation false && not (is_listed off p.id)

abbrev pub is_active : (on off : List (List ℕ)) → (Activation → Bool) → List Profile → Profile → Bool
is_active on off holds profiles p =
    is_chosen on off holds p
    || (not (list_any (is_chosen on off holds) profiles) && is_default off p)

-- the places of what passes, the first item standing at this one
abbrev pub places_from : {A : Type 0} → (A → Bool) → ℕ → List A → List ℕ
places_from test place [] = []
places_from test place (x ∷ xs) =
    if test x then place ∷ places_from test (suc place) xs else places_from test (suc place) xs

-- the folder of a POM, from the project's root on
abbrev pub folder_of : List ℕ → List ℕ
folder_of path = joined path (codes "..")

-- the path that a criterion's text names: none in a POM read by coordinates, and else none or some
abbrev pub named_path : Machine → Lookup → PomId → List ℕ → Option (Option (List ℕ))
named_path machine value (ids.Gav gav) text = None
named_path machine value (ids.Path pom) text =
    Some (path_of machine.root (folder_of pom)
    (filled (basedir_of machine.root (folder_of pom)) value text))

abbrev pub holds_in : Machine → Lookup → (List ℕ → Bool) → PomId → Activation → Bool
holds_in machine value there pom a =
    all_hold (criteria machine value there (named_path machine value pom) a)

abbrev pub active_by : Machine → Lookup → Choice → (List ℕ → Bool) → PomId → List Profile → List ℕ
active_by machine value choice there pom profiles =
    places_from (is_active (for_project pom choice.on) (for_project pom choice.off)
    (holds_in machine value there pom) profiles) 0 profiles

-- the places of the active profiles of a POM
unfoldable pub active : Machine → List Pair → Choice → (List ℕ → Bool) → PomId → List Profile
    → List ℕ
active machine defines choice there pom profiles =
    active_by machine (property_of defines machine.system machine.env) choice there pom profiles

-- whether an activation asks for a file
abbrev pub asks_file : Activation → Bool
asks_file a = is_some a.exists || is_some a.missing

-- whether files count for a profile: no switch names it, and its activation asks for one
abbrev pub needs_file : (on off : List (List ℕ)) → Profile → Bool
needs_file on off p =
    not (is_listed off p.id)
    && (not (is_listed on p.id) && option_map_or asks_file p.activation false)

-- whether files count for any profile of a POM: never for one read by coordinates
abbrev pub needs_files : Choice → PomId → List Profile → Bool
needs_files choice pom profiles =
    is_of_project pom && list_any (needs_file choice.on choice.off) profiles
