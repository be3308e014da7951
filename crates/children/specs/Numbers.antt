-- Numbers as the children that are there.
use Rattle.std.specs.Prelude.{ℕ, List, map}
use Rattle.std.specs.FinMap.{from_entries}
use Rattle.children.specs.Children.{Children}

-- these numbers as the children that are there
abbrev pub numbers : List ℕ → Children
numbers keys = from_entries (map (λ k. (k, tt)) keys)
