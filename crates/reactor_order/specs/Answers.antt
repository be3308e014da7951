-- What an order that can't be had says. Own words.
use Rattle.std.specs.Prelude.{◌≡◌, ℕ, List, Result, Err}
use Rattle.reactor_order.specs.declared.error.OrderError.{OrderError}
use Rattle.reactor_order.specs.declared.error.OrderError.TheVariants.{Cycle, Memory}

-- the cycle is the one that is said; want of memory says nothing of the modules
abbrev pub Refuses : OrderError → Result (List ℕ) (List ℕ) → Type 0
Refuses (Cycle cycle) said = said ≡ Err cycle.list
Refuses Memory said = Unit {0}
