-- How far each module is, and which may begin or be skipped. Own.
use Rattle.std.specs.Prelude.{◌≡◌, ℕ, Bool, true, false, not, ◌&&◌, nat_eq, List, [], find, slice_get, Option, None, is_none, is_some, unwrap_or}
use Rattle.std.specs.List.{slice_index_or}
use Rattle.std.specs.Option.{option_map_or}
use Rattle.build_core.specs.declared.ending.Ending.TheVariants as ending
use Rattle.build_core.specs.declared.ending.State.{State}
use Rattle.build_core.specs.declared.ending.State.TheVariants as state
use Rattle.scripts.specs.declared.outline.Outline.{Outline}
use Rattle.scripts.specs.declared.outline.ModuleOutline.{ModuleOutline}
use Rattle.event_core.specs.declared.module_steps.Progress.{Progress}
use Rattle.event_core.specs.declared.module_steps.Progress.TheVariants.{Waiting, Running, Skipped, Ended}

abbrev pub progress_of : List Progress → ℕ → Progress
progress_of progress m = slice_index_or progress m Waiting

abbrev pub upstream_of : Outline → ℕ → List ℕ
upstream_of o m = option_map_or (λ (x : ModuleOutline). x.upstream) (slice_get o.modules m) []

-- whether this number was found
abbrev pub is_this : Option ℕ → ℕ → Bool
is_this found n = option_map_or (λ x. nat_eq x n) found false

-- skipped, or ended otherwise than built
abbrev pub is_lost : Progress → Bool
is_lost Skipped = true
is_lost (Ended ending.Built) = false
is_lost (Ended e) = true
is_lost other = false

abbrev pub is_done : Progress → Bool
is_done (Ended ending.Built) = true
is_done other = false

abbrev pub is_waiting : Progress → Bool
is_waiting Waiting = true
is_waiting other = false

abbrev pub is_over : Progress → Bool
is_over Skipped = true
is_over (Ended e) = true
is_over other = false

-- the first upstream that is lost, and the first that isn't built
abbrev pub first_lost : Outline → List Progress → ℕ → Option ℕ
first_lost o progress m = find (λ u. is_lost (progress_of progress u)) (upstream_of o m)

abbrev pub first_not_built : Outline → List Progress → ℕ → Option ℕ
first_not_built o progress m = find (λ u. not (is_done (progress_of progress u))) (upstream_of o m)

-- what becomes of other modules where one fails: those that don't need it go on. Guide to Building Multiple Modules, "fail at end".
pub data FailMode : Type 0 where
  fail_at_end : FailMode

-- a module that waits may begin, and may be skipped
abbrev pub CanStart : FailMode → Outline → List Progress → ℕ → Type 0
CanStart fail_at_end o progress m = first_not_built o progress m ≡ None

abbrev pub CanSkip : FailMode → Outline → List Progress → ℕ → Type 0
CanSkip fail_at_end o progress m = is_some (first_lost o progress m) ≡ true

-- a module may begin where all its upstreams are built, and is skipped where one is lost
abbrev pub is_ready : Outline → List Progress → ℕ → Bool
is_ready o progress m = is_waiting (progress_of progress m) && is_none (first_not_built o progress m)

abbrev pub is_skippable : Outline → List Progress → ℕ → Bool
is_skippable o progress m = is_waiting (progress_of progress m) && is_some (first_lost o progress m)

-- a skipped module is skipped for its first upstream that is lost by now
abbrev pub state_of : Outline → List Progress → ℕ → State
state_of o progress m = by (progress_of progress m)
  where
    by : Progress → State
    by Waiting = state.Waiting
    by (Running w) = state.Running w
    by Skipped = state.Skipped (unwrap_or (first_lost o progress m) 0)
    by (Ended e) = state.Ended e
