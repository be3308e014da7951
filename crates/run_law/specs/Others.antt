-- Which entries are other workers', and when all that a module fetches is there. Project rule.
use Rattle.std.specs.Prelude.{◌≡◌, ℕ, Bool, true, false, not, nat_eq, List}
use Rattle.std.specs.List.{list_all}
use Rattle.std.specs.Option.{option_map_or}
use Rattle.build_core.specs.declared.event.Event.{Event}
use Rattle.build_core.specs.declared.plan.Plan.{Plan}
use Rattle.build_core.specs.declared.plan.PlanModule.{PlanModule}
use Rattle.event_core.specs.declared.entry.RunEntry.{RunEntry}
use Rattle.event_core.specs.Runs.{standing_of_run}
use Rattle.scripts.specs.Scripts.{is_there}
use Rattle.event_core.specs.Worlds.{worker_of}

-- an event is this worker's
abbrev pub is_of : ℕ → Event → Bool
is_of w e = option_map_or (λ v. nat_eq v w) (worker_of e) false

-- none of these entries is
abbrev pub AreOthers : ℕ → List RunEntry → Type 0
AreOthers w entries = list_all (λ (e : RunEntry). not (is_of w e.event)) entries ≡ true

-- each file of a module's fetch list is there
abbrev pub HasAll : Plan → List RunEntry → PlanModule → Type 0
HasAll plan past m = list_all (is_there (standing_of_run plan past).there) m.fetch ≡ true
