-- Which requests their bytes tell. Own rule.
use Rattle.std.specs.Prelude.{◌≡◌, ℕ, ◌<◌, ◌≤◌, ◌^◌, Bool, true, not, ◌==◌, List, length, is_some}
use Rattle.std.specs.List.{list_all}
use Rattle.serde_json.specs.Data.{depth}
use Rattle.serde_json.specs.Read.{max_depth}
use Rattle.goal_types.specs.declared.goal.GoalRequest.{GoalRequest}
use Rattle.goal_types.specs.GoalRules.{goal_rule}
use Rattle.goal_types.specs.Goals.{HasOwnSlots}
use Rattle.goal_types.specs.Requests.{request_data, request_payload}
use Rattle.goal_program.specs.Names.{file_in}

-- a text without `:`
abbrev pub has_no_colon : List ℕ → Bool
has_no_colon text = list_all (λ b. not (b == 58)) text

-- the goal has the slot and the classpath that it has by default, a plugin's group and artifact have no `:`, the outputs have kept
-- slots, the classpath has files of a repository, the settings nest no deeper than JSON is read, and the bytes can be counted
pub record IsTold (request : GoalRequest) : Type 0 where
  pub slot : request.call.slot ≡ (goal_rule request.call.group request.call.artifact request.call.goal).slot
  pub need : request.call.need ≡ (goal_rule request.call.group request.call.artifact request.call.goal).need
  pub group : has_no_colon request.call.group ≡ true
  pub artifact : has_no_colon request.call.artifact ≡ true
  pub own : HasOwnSlots request.own
  pub files : list_all (λ e. is_some (file_in e.name)) request.classpath ≡ true
  pub nesting : depth (request_data request) ≤ max_depth
  pub counts : length (request_payload request) < 2 ^ 64
