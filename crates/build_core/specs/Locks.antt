-- Who holds a name, and who may take it. Resolver, "Named Locks": many read, or one writes; which holder is named is an own rule.
use Rattle.std.specs.Prelude.{ℕ, zero, suc, Bool, true, false, not, ◌&&◌, ◌||◌, ◌<◌, nat_eq, List, [], ◌∷◌, ◌++◌, find, replicate, unwrap_or, slice_get, slice_set, Option, None, Some}
use Rattle.std.specs.Option.{option_and_then}
use Rattle.build_core.specs.declared.mode.Mode.{Mode}
use Rattle.build_core.specs.declared.mode.Mode.TheVariants.{Shared, Exclusive}

-- how many names and workers there are, and for each name how each worker holds it
abbrev pub Holds : Type 0
Holds = ℕ × ℕ × List (List (Option Mode))

abbrev pub names_of : Holds → ℕ
names_of table = table.0

abbrev pub workers_of : Holds → ℕ
workers_of table = table.1

-- how a worker holds one of them
abbrev pub hold_in : List (Option Mode) → ℕ → Option Mode
hold_in row worker = option_and_then (λ mode. mode) (slice_get row worker)

abbrev pub row_of : Holds → ℕ → List (Option Mode)
row_of table name = unwrap_or (slice_get table.2 name) []

-- how a worker holds a name
abbrev pub hold : Holds → ℕ → ℕ → Option Mode
hold table name worker = hold_in (row_of table name) worker

abbrev pub is_exclusive : Mode → Bool
is_exclusive Shared = false
is_exclusive Exclusive = true

-- whether a hold keeps another worker from one of this mode
abbrev pub excludes : Option Mode → Mode → Bool
excludes None wanted = false
excludes (Some held) wanted = is_exclusive held || is_exclusive wanted

-- whether one worker keeps another from taking a name
abbrev pub blocks_in : List (Option Mode) → ℕ → Mode → ℕ → Bool
blocks_in row worker wanted other = not (nat_eq other worker) && excludes (hold_in row other) wanted

abbrev pub blocks : Holds → ℕ → ℕ → Mode → ℕ → Bool
blocks table name worker wanted other = blocks_in (row_of table name) worker wanted other

-- the numbers below one, ascending
abbrev pub below : ℕ → List ℕ
below zero = []
below (suc n) = below n ++ n ∷ []

-- the least worker that keeps another from taking a name
abbrev pub blocker_in : List (Option Mode) → ℕ → ℕ → Mode → Option ℕ
blocker_in row workers worker wanted = find (blocks_in row worker wanted) (below workers)

abbrev pub blocker : Holds → ℕ → ℕ → Mode → Option ℕ
blocker table name worker wanted = blocker_in (row_of table name) (workers_of table) worker wanted

-- no name is held
abbrev pub none_held : ℕ → ℕ → Holds
none_held names workers = (names, workers, replicate names (replicate workers None))

-- a table with one hold more, or less
abbrev pub with_hold : Holds → ℕ → ℕ → Option Mode → Holds
with_hold table name worker mode = (table.0, table.1, slice_set table.2 name (slice_set (row_of table name) worker mode))

-- a name and a worker of a table
abbrev pub IsSeat : Holds → ℕ → ℕ → Type 0
IsSeat table name worker = (name < names_of table) × (worker < workers_of table)
