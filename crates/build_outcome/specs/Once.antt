-- What a call publishes, and what a stop may leave of it. Project rules.
use Rattle.std.specs.Prelude.{◌≡◌, ◌≤◌, ℕ, List, ◌++◌, map, length, Option, Some, None, IfSome}
use Rattle.mvn_shared.specs.Files.{Files}
use Rattle.mvn_outside.specs.Shelf.{files_now, IsSettled, Left, Between}
use Rattle.mvn_outside.specs.declared.shelf.Published.{Published}
use Rattle.mvn_outside.specs.declared.shelf.ShelfTold.{ShelfTold}
use Rattle.crew.specs.Once.{AreApart}

-- of what a repository tells only its publishes have grown, by some of distinct names, and the settled number, which never falls
abbrev pub PublishesOnce : (before now : Option ShelfTold) → Type 0
PublishesOnce None now = now ≡ None
PublishesOnce (Some told) now = (more : List Published) × (settled : ℕ)
    × (now ≡ Some (record { opening = told.opening; publishes = told.publishes ++ more; settled = settled }))
    × AreApart (map (λ p. p.name) more) × (told.settled ≤ settled)

-- where all was settled before, every map that a stop may have left since lies, name by name, between the files before and after
abbrev pub StopsBetween : (before now : Option ShelfTold) → Type 0
StopsBetween None now = Unit {0}
StopsBetween (Some told) now = IsSettled told → IfSome now (λ after. (files : Files) → Left after (length told.publishes) files → Between (files_now told) files (files_now after))
