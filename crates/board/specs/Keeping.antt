-- The program's own words: what a board keeps, and how it belongs together.
use Rattle.std.specs.Prelude.{◌≡◌, ℕ, ◌+◌, ◌<◌, ◌≤◌, ◌^◌, Bool, true, false, List, [], ◌∷◌, length, Option, IfSome}
use Rattle.mvn_outside.specs.declared.shelf.ShelfTold.{ShelfTold}
use Rattle.build_core.specs.declared.event.Answered.{Answered}
use Rattle.build_core.specs.declared.event.Event.{Event}
use Rattle.build_core.specs.declared.event.Event.TheVariants as event
use Rattle.build_core.specs.declared.plan.Plan.{Plan}
use Rattle.scripts.specs.Outlines.{outline_of}
use Rattle.event_core.specs.Runs.{answers_in}
use Rattle.event_core.specs.SoundPlans.{IsSoundPlan}
use Rattle.event_core.specs.Standing.{standing_of}
use Rattle.event_core.specs.declared.entry.RunEntry.{RunEntry}
use Rattle.scripts.specs.declared.outline.Outline.{Outline}
use Rattle.board.specs.Tables.{KeptAnswers, goal_counts}
use Rattle.mvn_outside.specs.Shelf.{files_now}
use Rattle.run_law.specs.Given.{IsPresent}
use Rattle.board.specs.Builds.{AreBusy, AreCaused, IsCalm}
use Rattle.board.specs.Logs.{log_of, published_since, told_after}

-- how many events are publishes, and how many answers
abbrev pub publish_count : List Event → ℕ
publish_count [] = 0
publish_count (event.Publish w file ∷ events) = 1 + publish_count events
publish_count (e ∷ events) = publish_count events

abbrev pub answer_count : List Event → ℕ
answer_count [] = 0
answer_count (event.Answer w goal ∷ events) = 1 + answer_count events
answer_count (e ∷ events) = answer_count events

-- an event that is neither
abbrev pub is_plain : Event → Bool
is_plain (event.Publish w file) = false
is_plain (event.Answer w goal) = false
is_plain e = true

-- an event that ends a module
abbrev pub is_ending : Event → Bool
is_ending (event.End w ending) = true
is_ending e = false

-- the log, by what the repository told and tells
abbrev pub log_by : (opening now : Option ShelfTold) → List Answered → List Event → List RunEntry
log_by opening now answers events = log_of (published_since opening now) answers events

-- what is reserved: room for answers, of each module the number of its goals, and room for states
pub record Room : Type 0 where
  pub answers : ℕ
  pub goals : List ℕ
  pub states : ℕ

abbrev pub room_of : KeptAnswers → (states : ℕ) → Room
room_of answers states = record { answers = answers.room; goals = answers.goals; states = states }

-- a board's parts belong together: its events are the core's, each publish and each answer of them is told, faults are counted, who is marked builds a module, `present` says
-- which files there were at the start, and there is room for more answers and for all states; `told` and `faults` are what a repository tells, and its count,
-- which is never less than at the start
pub record IsBoard {S : Type 0} (told : S → Option ShelfTold) (faults : S → ℕ) (plan : Plan) (core : Outline × List Event) (opening shelf : S) (answers : List Answered) (marks : List Bool) (room : Room) : Type 0 where
  pub outline : core.0 ≡ outline_of plan
  pub sound : IsSoundPlan plan
  pub short : plan.events < 2 ^ 62
  pub few : length plan.modules < 2 ^ 32
  pub tells : told shelf ≡ told_after plan (log_by (told opening) (told shelf) answers core.1) (told opening)
  pub published : IfSome (published_since (told opening) (told shelf)) (λ since. publish_count core.1 ≡ length since)
  pub answered : answer_count core.1 ≡ length answers
  pub kept : answers ≡ answers_in plan (log_by (told opening) (told shelf) answers core.1)
  pub workers : length marks ≡ plan.workers
  pub roomy : plan.events ≤ room.answers
  pub goals : room.goals ≡ goal_counts plan.modules
  pub states : length plan.modules ≤ room.states
  pub present : IfSome (told opening) (λ t. IsPresent plan (files_now t))
  pub caused : AreCaused (told opening) (faults opening) (faults shelf) (log_by (told opening) (told shelf) answers core.1) marks
  pub calm : IsCalm (faults opening) (faults shelf) (log_by (told opening) (told shelf) answers core.1) marks
  pub no_fall : faults opening ≤ faults shelf
  pub busy : AreBusy (standing_of core.0 core.1) marks
  pub untouched : core.1 ≡ [] → shelf ≡ opening
