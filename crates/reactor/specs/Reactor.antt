-- The modules that are built, in their order. Guide to Working with Multiple Modules, "Reactor Sorting" and "Command Line Options".
use Rattle.std.specs.Prelude.{◌≡◌, ℕ, ◌<◌, true, List, [], Contains, length, get_or, nat_eq, slice_get, Some, Result, Ok, Err}
use Rattle.std.specs.List.{IsDistinct}
use Rattle.mvn_base.specs.declared.fault.ModelError.{ModelError}
use Rattle.mvn_base.specs.declared.fault.ModelError.TheVariants as errors
use Rattle.mvn_base.specs.Names.{is_version}
use Rattle.model_types.specs.declared.model.Model.{Model}
use Rattle.classpaths.specs.declared.resolution.Resolution.{Resolution}
use Rattle.classpaths.specs.declared.resolution.Resolved.{Resolved}
use Rattle.cli_words.specs.declared.command_line.CommandLine.{CommandLine}
use Rattle.reactor.specs.Edges.{soft_edges}
use Rattle.reactor.specs.declared.fault.SelectionFault.{SelectionFault}
use Rattle.reactor.specs.declared.fault.SelectionFault.TheVariants as selection_faults
use Rattle.reactor.specs.Selection as selection
use Rattle.reactor_order.specs.Graph.{AreBelow, Edges, has}
use Rattle.reactor.specs.Ordering as ordering
use Rattle.reactor.specs.declared.ordering.BuildOrder.{BuildOrder}
use Rattle.reactor.specs.Upstreams.{Ascends, all_upstreams, firm_edges}
use Rattle.reactor.specs.declared.modules.ReactorModules.{ReactorModules}
use Rattle.reactor.specs.declared.modules.ReactorFault.{ReactorFault}
use Rattle.reactor.specs.declared.modules.ReactorFault.TheVariants.{Refused, Unknown, Memory}

-- the order of all modules, or the refusal of a circle
abbrev pub Orders : List Model → List Resolution → Result BuildOrder ModelError → Type 0
Orders modules resolutions answer = ordering.Answers modules (firm_edges modules resolutions) (soft_edges modules) answer

-- which of them words select, or the word that means none
abbrev pub Selects : List Model → CommandLine → BuildOrder → Result (List ℕ) SelectionFault → Type 0
Selects modules line found answer = selection.Answers modules found.order found.edges line answer

-- what is built: the selected modules of the order, and on which of them each stands
pub record AreBuilt (modules : List Model) (resolutions : List Resolution) (line : CommandLine) (built : ReactorModules) : Type 0 where
  pub found : BuildOrder
  pub ordered : Orders modules resolutions (Ok found)
  pub selected : Selects modules line found (Ok built.numbers)
  pub upstreams : built.upstreams ≡ all_upstreams found.edges built.numbers

-- a word means no module that is built; the modules have an order then
pub record IsUnknown (modules : List Model) (resolutions : List Resolution) (line : CommandLine) (place : ℕ) : Type 0 where
  pub found : BuildOrder
  pub ordered : Orders modules resolutions (Ok found)
  pub unknown : Selects modules line found (Err (selection_faults.Unknown place))

-- what is built, or the first fault: a circle before a word; of want of memory nothing is said
abbrev pub Answers : List Model → List Resolution → CommandLine → Result ReactorModules ReactorFault → Type 0
Answers modules resolutions line (Ok built) = AreBuilt modules resolutions line built
Answers modules resolutions line (Err (Refused refusal)) = Orders modules resolutions (Err (errors.Refused refusal))
Answers modules resolutions line (Err (Unknown place)) = IsUnknown modules resolutions line place
Answers modules resolutions line (Err Memory) = Unit {0}

-- the numbers of some of so many modules, each once; what a module stands on has places before its own, which ascend
pub record AreInOrder (count : ℕ) (built : ReactorModules) : Type 0 where
  pub below : AreBelow count built.numbers
  pub once : IsDistinct nat_eq built.numbers
  pub long : length built.upstreams ≡ length built.numbers
  pub before : (place u : ℕ) → has (get_or built.upstreams place []) u ≡ true → u < place
  pub ascend : (place : ℕ) → Ascends 0 (get_or built.upstreams place [])

-- a module that is built stands on each other that is built and is a winner of its dependencies, if that has a valid version
abbrev pub StandsOnWinners : List Model → List Resolution → ReactorModules → Type 0
StandsOnWinners modules resolutions built =
    (place other : ℕ) (r : Resolution) (w : Resolved) (m v : Model) → place < length built.numbers → other < length built.numbers
    → slice_get modules (get_or built.numbers place 0) ≡ Some m → slice_get modules (get_or built.numbers other 0) ≡ Some v
    → slice_get resolutions (get_or built.numbers place 0) ≡ Some r → Contains r.winners w → v.gav ≡ w.gav → is_version v.gav.version ≡ true
    → has (get_or built.upstreams place []) other ≡ true
