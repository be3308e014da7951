-- The order in which modules are built. Guide to Working with Multiple Modules, "Reactor Sorting".
use Rattle.std.specs.Prelude.{◌≡◌, ℕ, List, length, Result, Ok, Err}
use Rattle.mvn_base.specs.declared.fault.ModelError.{ModelError}
use Rattle.mvn_base.specs.declared.fault.ModelError.TheVariants.{Refused, Memory}
use Rattle.model_types.specs.declared.model.Model.{Model}
use Rattle.reactor_order.specs.Cycle.{order}
use Rattle.reactor_order.specs.Graph.{Edges}
use Rattle.reactor_order.specs.Keep.{Keeps}
use Rattle.reactor.specs.Circles.{circle_refused}
use Rattle.reactor.specs.declared.ordering.BuildOrder.{BuildOrder}

-- the soft edges that close no circle are kept beside the firm ones; the modules have the order that these edges give, or are refused for
-- the circle that keeps them from it; of want of memory nothing is said
abbrev pub Answers : List Model → Edges → Edges → Result BuildOrder ModelError → Type 0
Answers modules firm soft (Ok found) = Keeps firm soft found.edges × (order (length modules) found.edges ≡ Ok found.order)
Answers modules firm soft (Err (Refused refusal)) =
    (kept : Edges) × Keeps firm soft kept × ((circle : List ℕ) × (order (length modules) kept ≡ Err circle) × (refusal ≡ circle_refused modules circle))
Answers modules firm soft (Err Memory) = Unit {0}
