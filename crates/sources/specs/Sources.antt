-- The sources of a project: the files below its folders, ascending by path, each once. Maven's Standard Directory Layout; POM Reference,
-- "Directories" and "Resources"; the limits are project rules.
use Rattle.std.specs.Prelude.{◌≡◌, ℕ, ◌+◌, ◌<◌, ◌≤◌, Bool, true, false, ◌||◌, nat_lt, List, [], ◌∷◌, ◌++◌, length, fold, map as map_list, Option, Some, None, option_map, Result, Ok, Err, if◌then◌else◌}
use Rattle.std.specs.List.{filter_map, list_any}
use Rattle.std.specs.FinMap as map
use Rattle.mvn_shared.specs.Files.{Files, file_at, names_below}
use Rattle.mvn_base.specs.Limits.{most_files, most_sources}
use Rattle.goal_types.specs.declared.goal.SourceFile.{SourceFile}
use Rattle.sources.specs.declared.sources.SourcesFault.{SourcesFault}
use Rattle.sources.specs.declared.sources.SourcesFault.TheVariants.{Failed, Memory, TooMany}

-- a set of names is a map to nothing: with one more, and with all of a list
abbrev pub with_name : Files → List ℕ → Files
with_name names name = map.insert names name []

abbrev pub with_names : Files → List (List ℕ) → Files
with_names names more = fold with_name names more

-- the names below the folders
unfoldable pub names_in : Files → List (List ℕ) → Files
names_in files folders = fold (λ names folder. with_names names (names_below files folder)) map.empty folders

-- so in order, each once
abbrev pub source_names : Files → List (List ℕ) → List (List ℕ)
source_names files folders = map.keys (names_in files folders)

-- a file with its bytes
abbrev pub source_at : Files → List ℕ → Option SourceFile
source_at files name = option_map (λ bytes. record { path = name; bytes = bytes }) (file_at files name)

abbrev pub sources_at : Files → List (List ℕ) → List SourceFile
sources_at files names = filter_map (source_at files) names

-- how many bytes they have together
abbrev pub sources_len : List SourceFile → ℕ
sources_len [] = 0
sources_len (s ∷ sources) = length s.bytes + sources_len sources

abbrev pub all_sources : Files → List (List ℕ) → List SourceFile
all_sources files folders = sources_at files (source_names files folders)

-- a folder that has too many files; too many in a folder, or in all
abbrev pub is_long : Files → List ℕ → Bool
is_long files folder = nat_lt most_files (length (names_below files folder))

abbrev pub are_long : Files → List (List ℕ) → Bool
are_long files folders = list_any (is_long files) folders || nat_lt most_files (length (source_names files folders))

-- the sources; nothing where they are too many, or have too many bytes
unfoldable pub sources_of : Files → List (List ℕ) → Option (List SourceFile)
sources_of files folders = if are_long files folders || nat_lt most_sources (sources_len (all_sources files folders)) then None else Some (all_sources files folders)

-- ---- the sources of several modules, of each by its folders

-- how many files and bytes they have together; a file of two modules counts twice
abbrev pub files_count : Files → List (List (List ℕ)) → ℕ
files_count files [] = 0
files_count files (folders ∷ modules) = length (source_names files folders) + files_count files modules

abbrev pub bytes_count : Files → List (List (List ℕ)) → ℕ
bytes_count files [] = 0
bytes_count files (folders ∷ modules) = sources_len (all_sources files folders) + bytes_count files modules

abbrev pub are_many : Files → List (List (List ℕ)) → Bool
are_many files modules =
    list_any (are_long files) modules || (nat_lt most_files (files_count files modules) || nat_lt most_sources (bytes_count files modules))

-- the sources of each; nothing where they are too many, or have too many bytes
unfoldable pub sources_of_all : Files → List (List (List ℕ)) → Option (List (List SourceFile))
sources_of_all files modules = if are_many files modules then None else Some (map_list (all_sources files) modules)

-- ---- what calls give

-- the tree failed
abbrev pub sources_failed : {T : Type 0} → Result T SourcesFault → Bool
sources_failed (Err Failed) = true
sources_failed other = false

-- the names below a folder, put to others
abbrev pub PutsBelow : Files → (folder : List ℕ) → (before now : Files) → Result (Unit {0}) SourcesFault → Type 0
PutsBelow files folder before now (Ok done) = (now ≡ with_names before (names_below files folder)) × (is_long files folder ≡ false)
PutsBelow files folder before now (Err TooMany) = is_long files folder ≡ true
PutsBelow files folder before now (Err other) = Unit {0}

-- the names below the folders
abbrev pub ListsIn : Files → List (List ℕ) → Result Files SourcesFault → Type 0
ListsIn files folders (Ok names) = (names ≡ names_in files folders) × (list_any (is_long files) folders ≡ false)
ListsIn files folders (Err TooMany) = list_any (is_long files) folders ≡ true
ListsIn files folders (Err other) = Unit {0}

-- so in order
abbrev pub ListsNames : Files → List (List ℕ) → Result (List (List ℕ)) SourcesFault → Type 0
ListsNames files folders (Ok names) = (names ≡ source_names files folders) × (are_long files folders ≡ false)
ListsNames files folders (Err TooMany) = are_long files folders ≡ true
ListsNames files folders (Err other) = Unit {0}

-- the names of a set in order, or too many
abbrev pub SortsNames : Files → Result (List (List ℕ)) SourcesFault → Type 0
SortsNames names (Ok list) = (list ≡ map.keys names) × (nat_lt most_files (length (map.keys names)) ≡ false)
SortsNames names (Err TooMany) = nat_lt most_files (length (map.keys names)) ≡ true
SortsNames names (Err other) = other ≡ Memory

-- what reading one of them gives, of so much room: it stands behind those so far, or it has too many bytes
abbrev pub ReadsOne : (room : ℕ) → (before one now : List SourceFile) → Result ℕ SourcesFault → Type 0
ReadsOne room before one now (Ok left) = now ≡ before ++ one
ReadsOne room before one now (Err TooMany) = room < sources_len one
ReadsOne room before one now (Err other) = Unit {0}

-- what reading the files gives, of so much room: all of them, or too many bytes
abbrev pub ReadsSources : (room : ℕ) → List SourceFile → Result (List SourceFile) SourcesFault → Type 0
ReadsSources room all (Ok sources) = (sources ≡ all) × (sources_len sources ≤ room)
ReadsSources room all (Err TooMany) = room < sources_len all
ReadsSources room all (Err other) = Unit {0}

-- the first of what a call gives
abbrev pub first_of : {A B : Type 0} → Result (A × B) SourcesFault → Result A SourcesFault
first_of (Ok both) = Ok both.0
first_of (Err fault) = Err fault

-- what reading the sources gives
abbrev pub GivesSources : Files → List (List ℕ) → Result (List SourceFile) SourcesFault → Type 0
GivesSources files folders (Ok sources) = sources_of files folders ≡ Some sources
GivesSources files folders (Err TooMany) = sources_of files folders ≡ None
GivesSources files folders (Err other) = Unit {0}

-- too many for the room that is left
abbrev pub exceed : Files → List (List ℕ) → (count room : ℕ) → Bool
exceed files folders count room =
    are_long files folders || (nat_lt count (length (source_names files folders)) || nat_lt room (sources_len (all_sources files folders)))

-- what reading the sources of one more module gives, by the room for files and bytes before and after
abbrev pub TakesRoom : Files → List (List ℕ) → (count room left_count left_room : ℕ) → Result (List SourceFile) SourcesFault → Type 0
TakesRoom files folders count room left_count left_room (Ok sources) =
    (sources ≡ all_sources files folders) × (are_long files folders ≡ false)
    × (left_count + length (source_names files folders) ≡ count) × (left_room + sources_len sources ≡ room)
TakesRoom files folders count room left_count left_room (Err TooMany) = exceed files folders count room ≡ true
TakesRoom files folders count room left_count left_room (Err other) = Unit {0}

-- so put to those of the modules before
abbrev pub PutsSources : Files → List (List ℕ) → (count room left_count left_room : ℕ) → (before now : List (List SourceFile)) → Result (Unit {0}) SourcesFault → Type 0
PutsSources files folders count room left_count left_room before now (Ok done) =
    (now ≡ before ++ all_sources files folders ∷ []) × (are_long files folders ≡ false)
    × (left_count + length (source_names files folders) ≡ count) × (left_room + sources_len (all_sources files folders) ≡ room)
PutsSources files folders count room left_count left_room before now (Err TooMany) = exceed files folders count room ≡ true
PutsSources files folders count room left_count left_room before now (Err other) = Unit {0}

-- what reading the sources of all modules gives
abbrev pub GivesAll : Files → List (List (List ℕ)) → Result (List (List SourceFile)) SourcesFault → Type 0
GivesAll files modules (Ok sources) = sources_of_all files modules ≡ Some sources
GivesAll files modules (Err TooMany) = sources_of_all files modules ≡ None
GivesAll files modules (Err other) = Unit {0}
