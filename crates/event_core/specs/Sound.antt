-- Outlines of plans that can be built, as far as locks and files go. Own; Resolver, "Named Locks", for the ascending order.
use Rattle.std.specs.Prelude.{◌≡◌, ℕ, ◌<◌, Bool, true, nat_lt, List, length, slice_get, Some}
use Rattle.std.specs.List.{list_all}
use Rattle.scripts.specs.declared.outline.Outline.{Outline}
use Rattle.scripts.specs.declared.outline.ModuleOutline.{ModuleOutline}
use Rattle.scripts.specs.Climbing.{Climbs}

-- all numbers of a list are below one
abbrev pub are_below : ℕ → List ℕ → Bool
are_below n xs = list_all (λ x. nat_lt x n) xs

-- a module: its upstreams stand before it, its batch ascends, and its names and files are the plan's
pub record IsSoundModule (o : Outline) (number : ℕ) (m : ModuleOutline) : Type 0 where
  pub upstream : are_below number m.upstream ≡ true
  pub batch : Climbs 0 m.batch
  pub names : are_below o.names m.batch ≡ true
  pub fetch : are_below (length o.present) m.fetch ≡ true
  pub reads : are_below (length o.present) m.reads ≡ true
  pub own : are_below (length o.present) m.own ≡ true
  pub own_name : m.own_name < o.names

abbrev pub IsSound : Outline → Type 0
IsSound o = (number : ℕ) (m : ModuleOutline) → slice_get o.modules number ≡ Some m → IsSoundModule o number m
