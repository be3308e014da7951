-- What a repository in memory holds.
use Rattle.std.specs.Prelude.{ℕ, List}
use Rattle.mvn_outside.specs.declared.shelf.ShelfTold.{ShelfTold}
use Rattle.outside_mem.specs.FilesNamed.{files_named}
use Rattle.outside_mem.specs.Image.{settled_at}
use Rattle.outside_mem.specs.declared.shelf.MemShelf.{MemShelf}

-- all that it tells: its opening files, its publishes and how many are settled
abbrev pub shelf_told : {F : Type 0} → MemShelf F → ShelfTold
shelf_told shelf = record { opening = files_named shelf.given; publishes = shelf.publishes.items; settled = shelf.settled }

abbrev pub shelf_calls : {F : Type 0} → MemShelf F → F
shelf_calls shelf = shelf.calls

-- for each publish, how many were settled when it came
abbrev pub shelf_dates : {F : Type 0} → MemShelf F → List ℕ
shelf_dates shelf = shelf.dates.items

-- how many publishes were settled just before the publish of a moment
abbrev pub settled_before : {F : Type 0} → MemShelf F → (moment : ℕ) → ℕ
settled_before shelf moment = settled_at (shelf_dates shelf) moment
