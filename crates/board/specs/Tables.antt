-- Answers that are found by module and goal. Project rule.
use Rattle.std.specs.Prelude.{◌≡◌, ℕ, ◌<◌, Bool, ◌&&◌, ◌==◌, List, [], length, find, map, slice_get, slice_index_or, slice_set, Option, Some, None, is_none, option_and_then, if◌then◌else◌}
use Rattle.build_core.specs.declared.event.Answered.{Answered}
use Rattle.build_core.specs.declared.plan.PlanModule.{PlanModule}

-- what a table is seen as: the answers, of each module the number of its goals, and for how many answers there is room
pub record KeptAnswers : Type 0 where
  pub kept : List Answered
  pub goals : List ℕ
  pub room : ℕ

-- the first answer of a goal of a module
abbrev pub first_answer : List Answered → (number goal : ℕ) → Option Answered
first_answer kept number goal = find (λ a. (a.«module» == number) && (a.goal == goal)) kept

-- of each module how many goals it has
abbrev pub goal_counts : List PlanModule → List ℕ
goal_counts modules = map (λ (m : PlanModule). length m.goals) modules

-- ---- the program's own words: the place of each goal's first answer

abbrev pub place_at : List (List (Option ℕ)) → (number goal : ℕ) → Option ℕ
place_at rows number goal = slice_index_or (slice_index_or rows number []) goal None

-- the place of a goal, where it has none
abbrev pub row_with : List (Option ℕ) → (goal place : ℕ) → List (Option ℕ)
row_with row goal place = if is_none (slice_index_or row goal None) then slice_set row goal (Some place) else row

abbrev pub with_place : List (List (Option ℕ)) → (number goal place : ℕ) → List (List (Option ℕ))
with_place rows number goal place = slice_set rows number (row_with (slice_index_or rows number []) goal place)

-- each goal's first answer stands at its place
pub record IsTable (answers : List Answered) (rows : List (List (Option ℕ))) : Type 0 where
  pub found : (number goal : ℕ) → goal < length (slice_index_or rows number []) → option_and_then (slice_get answers) (place_at rows number goal) ≡ first_answer answers number goal
  pub low : (number goal k : ℕ) → place_at rows number goal ≡ Some k → k < length answers
