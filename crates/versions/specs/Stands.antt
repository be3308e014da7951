-- Where a reader of intervals stands, by places in the text. Own rules.
use Rattle.std.specs.Prelude.{ℕ, ◌-◌, ◌≤◌, List, take, drop}
use Rattle.std.specs.Str.{IsCharBoundary}
use Rattle.versions.specs.declared.interval.Interval.{Interval}
use Rattle.versions.specs.declared.reader.Stand.{Stand}
use Rattle.versions.specs.declared.reader.Stand.TheVariants.{Before, Lower, Upper, Behind}
use Rattle.versions.specs.Requirements.{Reading, before, lower, upper, behind}

-- what is written since a place
abbrev pub since : List ℕ → ℕ → ℕ → List ℕ
since text start at = take (at - start) (drop start text)

abbrev pub reading_of : List ℕ → List Interval → ℕ → Stand → Reading
reading_of text done at Before = before done
reading_of text done at (Lower square start) = lower done square (since text start at)
reading_of text done at (Upper low start) = upper done low (since text start at)
reading_of text done at Behind = behind done

-- a word begins there, between two characters
pub record Begins (text : List ℕ) (start at : ℕ) : Type 0 where
  pub no_later : start ≤ at
  pub boundary : IsCharBoundary text start

abbrev pub IsStand : List ℕ → ℕ → Stand → Type 0
IsStand text at Before = Unit {0}
IsStand text at (Lower square start) = Begins text start at
IsStand text at (Upper low start) = Begins text start at
IsStand text at Behind = Unit {0}
