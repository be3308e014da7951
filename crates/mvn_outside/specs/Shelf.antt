-- What a repository tells, and what a stop may leave of it. Own model.
use Rattle.std.specs.Prelude.{◌≡◌, ◌⊎◌, ◌≤◌, ℕ, List, [], ◌∷◌, ◌++◌, length, take, fold, Option, Some, None, IfSome}
use Rattle.std.specs.FinMap as map
use Rattle.mvn_shared.specs.Files.{Files, file_at}
use Rattle.mvn_outside.specs.declared.shelf.Published.{Published}
use Rattle.mvn_outside.specs.declared.shelf.ShelfTold.{ShelfTold}
use Rattle.mvn_outside.specs.Pieces.{Contents}

-- a publish gives its name its whole bytes
abbrev pub with_publish : Files → Published → Files
with_publish files p = map.insert files p.name p.bytes

-- the files after the first so many publishes
abbrev pub files_after : ShelfTold → ℕ → Files
files_after told count = fold with_publish told.opening (take count told.publishes)

-- the files now
abbrev pub files_now : ShelfTold → Files
files_now told = fold with_publish told.opening told.publishes

-- all publishes are settled
abbrev pub IsSettled : ShelfTold → Type 0
IsSettled told = told.settled ≡ length told.publishes

-- each name has, in the files c, the value that it had after some number of publishes from low to high
abbrev pub Standing : ShelfTold → (low high : ℕ) → Files → Type 0
Standing told low high c = (name : List ℕ) → (count : ℕ) × (low ≤ count) × (count ≤ high) × (file_at c name ≡ file_at (files_after told count) name)

-- what a stop may leave, of all that was published since so many were settled
abbrev pub Left : ShelfTold → ℕ → Files → Type 0
Left told since c = Standing told since (length told.publishes) c

-- each name has in c its value in a or its value in b
abbrev pub Between : Files → Files → Files → Type 0
Between a c b = (name : List ℕ) → (file_at c name ≡ file_at a name) ⊎ (file_at c name ≡ file_at b name)

-- one publish more, of a name and bytes
abbrev pub published : ShelfTold → List ℕ → List ℕ → ShelfTold
published told name bytes = record told { publishes = told.publishes ++ (record { name = name; bytes = bytes }) ∷ [] }

-- a publish of a piece: what tells nothing goes on so, and else there is one publish more, whose bytes are the piece's where the area tells them
abbrev pub Publishes : Option ShelfTold → Option ShelfTold → Option Contents → ℕ → List ℕ → Type 0
Publishes None now area piece name = now ≡ None
Publishes (Some told) now area piece name = (bytes : List ℕ) × (now ≡ Some (published told name bytes)) × IfSome area (λ contents. map.get contents piece ≡ Some bytes)

-- a settle that succeeded: all is settled, and nothing else has changed
abbrev pub settled_all : Option ShelfTold → Option ShelfTold
settled_all None = None
settled_all (Some told) = Some (record told { settled = length told.publishes })

-- one that failed: the settled number may have risen, up to the publishes
abbrev pub MaySettle : Option ShelfTold → Option ShelfTold → Type 0
MaySettle None now = now ≡ None
MaySettle (Some told) now = (count : ℕ) × (told.settled ≤ count) × (count ≤ length told.publishes) × (now ≡ Some (record told { settled = count }))
