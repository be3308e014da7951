-- What a read and a listing answer, by what is told to stand there. Own rules.
use Rattle.std.specs.Prelude.{◌≡◌, ℕ, ◌<◌, ◌≤◌, List, length, Option, IsSomeAnd, Result, Ok, Err}
use Rattle.mvn_shared.specs.Files.{Files, names_below}
use Rattle.mvn_base.specs.Limits.{most_files}
use Rattle.mvn_outside.specs.declared.fault.ReadFault.{ReadFault}
use Rattle.mvn_outside.specs.declared.fault.ReadFault.TheVariants as read
use Rattle.mvn_outside.specs.declared.fault.ListFault.{ListFault}
use Rattle.mvn_outside.specs.declared.fault.ListFault.TheVariants as list

-- a read with a limit: what stands there, or too large exactly where it has more bytes
abbrev pub Reads : Option (List ℕ) → ℕ → Result (Option (List ℕ)) ReadFault → Type 0
Reads there limit (Ok found) = found ≡ there
Reads there limit (Err read.TooLarge) = IsSomeAnd there (λ bytes. limit < length bytes)
Reads there limit (Err read.Failed) = Unit {0}
Reads there limit (Err read.Memory) = Unit {0}

-- a listing: the names, or too many exactly where there are more
abbrev pub Lists : Files → List ℕ → Result (List (List ℕ)) ListFault → Type 0
Lists files folder (Ok names) = (names ≡ names_below files folder) × (length names ≤ most_files)
Lists files folder (Err list.TooMany) = most_files < length (names_below files folder)
Lists files folder (Err list.Failed) = Unit {0}
Lists files folder (Err list.Memory) = Unit {0}
