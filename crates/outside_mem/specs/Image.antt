-- What a stop may leave of a repository in memory. Project rule: each name has a value that it had since the last settle.
use Rattle.std.specs.Prelude.{◌≡◌, ℕ, zero, suc, Bool, true, false, if◌then◌else◌, List, [], ◌∷◌, take, drop, filter, flat_map, fold, get_or}
use Rattle.std.specs.List.{list_any}
use Rattle.std.specs.Str.{bytes_eq}
use Rattle.std.specs.FinMap as map
use Rattle.mvn_shared.specs.Files.{Files, file_at}
use Rattle.mvn_outside.specs.declared.shelf.Published.{Published}
use Rattle.mvn_outside.specs.declared.shelf.ShelfTold.{ShelfTold}
use Rattle.mvn_outside.specs.Shelf.{with_publish, files_after}
use Rattle.outside_mem.specs.declared.remote.MemFile.{MemFile}

-- how many publishes were settled when the publish just before a moment came, by the list of these numbers; moment 0 is the opening
abbrev pub settled_at : List ℕ → (moment : ℕ) → ℕ
settled_at dates zero = 0
settled_at dates (suc before) = get_or dates before 0

-- the publishes up to a moment that weren't settled
abbrev pub unsettled : ShelfTold → (settled moment : ℕ) → List Published
unsettled told settled moment = drop settled (take moment told.publishes)

-- the names of publishes, each once, ascending
abbrev pub names_of : List Published → List (List ℕ)
names_of publishes = map.keys (fold with_publish map.empty publishes)

-- the names whose item is true; a missing item counts as false
abbrev pub chosen : List (List ℕ) → List Bool → List (List ℕ)
chosen [] newest = []
chosen (name ∷ names) [] = []
chosen (name ∷ names) (true ∷ newest) = name ∷ chosen names newest
chosen (name ∷ names) (false ∷ newest) = chosen names newest

-- a name is among these
abbrev pub is_among : List (List ℕ) → List ℕ → Bool
is_among names name = list_any (bytes_eq name) names

-- the files c are an image: of the names that weren't settled, those that are chosen have their newest value, and every other name has its settled one
abbrev pub IsImage : ShelfTold → (settled moment : ℕ) → List Bool → Files → Type 0
IsImage told settled moment newest c = (name : List ℕ) →
    file_at c name ≡ (if is_among (chosen (names_of (unsettled told settled moment)) newest) name then file_at (files_after told moment) name else file_at (files_after told settled) name)

-- a publish as a file
abbrev pub as_file : Published → MemFile
as_file p = record { name = p.name; bytes = p.bytes }

-- the files of those publishes whose names are among these
abbrev pub files_named_in : List (List ℕ) → List Published → List MemFile
files_named_in names publishes = flat_map (λ p. if is_among names p.name then as_file p ∷ [] else []) publishes

-- how an image is made: behind the settled files, of the later publishes those with a chosen name
abbrev pub image_after : Files → List Published → List Bool → Files
image_after settled later newest = fold with_publish settled (filter (λ p. is_among (chosen (names_of later) newest) p.name) later)

abbrev pub image_of : ShelfTold → (settled moment : ℕ) → List Bool → Files
image_of told settled moment newest = image_after (files_after told settled) (unsettled told settled moment) newest
