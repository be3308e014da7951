use Rattle.std.proofs.Common.{◌≡◌, ℕ, List, drop}
use Rattle.std.specs.HashMap.{get}
use Rattle.std.specs.Str.{bytes_eq}
use Rattle.sources.specs.Earlier.{noted}
use Rattle.sources.proofs.earlier.note.Given as goal

-- the places so far, with those of the files that are left
abbrev pub invariant-loop-number : goal.invariant-loop-number
invariant-loop-number l = (q : List ℕ) → noted l.list l.number (drop l.number l.sources) q (get bytes_eq l.places q) ≡ noted l.list 0 l.sources q (get bytes_eq l.initial.places q)
