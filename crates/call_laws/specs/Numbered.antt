-- The goals that a trace answers, and the answers that are kept. Introduction to the Build Lifecycle; project rule.
use Rattle.std.specs.Prelude.{◌≡◌, ℕ, nat_eq, List, [], ◌∷◌, ◌++◌, map, fold, Option, None, Some, if◌then◌else◌}
use Rattle.std.specs.List.{IsDistinct}
use Rattle.std.specs.Option.{option_map_or}
use Rattle.build_core.specs.declared.event.Answered.{Answered}
use Rattle.build_core.specs.declared.event.Event.{Event}
use Rattle.build_core.specs.declared.event.Event.TheVariants as event
use Rattle.run_law.specs.Twice.{same_goal}

-- the module that a worker began last
abbrev pub begins : (worker : ℕ) → Option ℕ → Event → Option ℕ
begins worker before (event.Start w m) = if nat_eq w worker then Some m else before
begins worker before other = before

abbrev pub begun_by : (worker : ℕ) → List Event → Option ℕ
begun_by worker events = fold (begins worker) None events

-- module and goal of each answer of a trace, in order: a goal of the module that the answer's worker began last
abbrev pub goal_by : (past : List Event) → Event → List (ℕ × ℕ)
goal_by past (event.Answer w goal) = option_map_or (λ m. (m, goal) ∷ []) (begun_by w past) []
goal_by past other = []

abbrev pub goals_from : (past : List Event) → List Event → List (ℕ × ℕ)
goals_from past [] = []
goals_from past (e ∷ events) = goal_by past e ++ goals_from (past ++ e ∷ []) events

abbrev pub goals_of_trace : List Event → List (ℕ × ℕ)
goals_of_trace trace = goals_from [] trace

-- module and goal of each answer that is kept
abbrev pub numbers_of : List Answered → List (ℕ × ℕ)
numbers_of answers = map (λ (a : Answered). (a.«module», a.goal)) answers

-- no two of the answers are to one goal of one module
abbrev pub AreKeptOnce : List Answered → Type 0
AreKeptOnce answers = IsDistinct same_goal answers

-- the answers are the trace's: one for each event `Answer`, in order, and no goal is answered twice
pub record AreTheTraces (trace : List Event) (answers : List Answered) : Type 0 where
  pub order : numbers_of answers ≡ goals_of_trace trace
  pub once : AreKeptOnce answers
