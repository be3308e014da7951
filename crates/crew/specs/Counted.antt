-- How many modules ended so: by how they stand, by the run, and by the workers. Project rule.
use Rattle.std.specs.Prelude.{ℕ, Bool, false, List, filter, length}
use Rattle.build_core.specs.Locks.{below}
use Rattle.build_core.specs.declared.ending.Ending.{Ending}
use Rattle.build_core.specs.declared.ending.State.{State}
use Rattle.build_core.specs.declared.ending.State.TheVariants.{Ended}
use Rattle.build_core.specs.declared.event.Event.{Event}
use Rattle.build_core.specs.declared.event.Event.TheVariants.{End}
use Rattle.scripts.specs.Bounds.{total}
use Rattle.event_core.specs.declared.entry.RunEntry.{RunEntry}
use Rattle.crew_turns.specs.Endings.{endings_of}

-- a module ended so
abbrev pub stands_so : (Ending → Bool) → State → Bool
stands_so test (Ended e) = test e
stands_so test other = false

-- how many of these
abbrev pub count_of : (Ending → Bool) → List State → ℕ
count_of test states = length (filter (stands_so test) states)

-- by an event
abbrev pub ends_so : (Ending → Bool) → Event → Bool
ends_so test (End w e) = test e
ends_so test other = false

-- how many of a run's events are such ends
abbrev pub ends_in : (Ending → Bool) → List RunEntry → ℕ
ends_in test run = length (filter (λ (e : RunEntry). ends_so test e.event) run)

-- how many modules of a worker ended so, and of all workers below a number
abbrev pub count_by : (Ending → Bool) → List RunEntry → (worker : ℕ) → ℕ
count_by test run worker = length (filter test (endings_of worker run))

abbrev pub count_by_all : (Ending → Bool) → List RunEntry → (workers : ℕ) → ℕ
count_by_all test run workers = total (count_by test run) (below workers)
