-- The module and the goal that a request's line names. Own format.
use Rattle.std.specs.Prelude.{ℕ, List, codes, Option, Some, None, option_map, option_and_then}
use Rattle.serde_json.specs.Data.{Data}
use Rattle.mvn_base.specs.declared.gav.Gav.{Gav}
use Rattle.mvn_base.specs.declared.phase.Phase.{Phase}
use Rattle.mvn_base.specs.declared.setting.Setting.{Setting}
use Rattle.mvn_base.specs.Phase.{phase_of}
use Rattle.goal_types.specs.declared.goal.GoalCall.{GoalCall}
use Rattle.goal_types.specs.GoalRules.{goal_rule}
use Rattle.goal_program.specs.declared.call.Plugin.{Plugin}
use Rattle.goal_program.specs.Members.{text_at, items_at, all_of}
use Rattle.goal_program.specs.Settings.{setting_in, most_levels}
use Rattle.goal_program.specs.Texts.{cut}

-- the parts of a plugin: its group, its artifact and its version
pub record Parts : Type 0 where
  pub group : List ℕ
  pub artifact : List ℕ
  pub version : List ℕ

-- the parts of a plugin's text, which is cut at its first two colons
abbrev pub plugin_in : List ℕ → Option Parts
plugin_in text = option_and_then (λ a. option_map (λ b. record { group = a.0; artifact = b.0; version = b.1 }) (cut 58 a.1)) (cut 58 text)

-- the program's parts as these
abbrev pub plugin_parts : Plugin → Parts
plugin_parts plugin = record { group = plugin.group.now; artifact = plugin.artifact.now; version = plugin.version.now }

-- a call of these, with the slot and the classpath that its goal has by default
abbrev pub call_of : Option Parts → Option (List ℕ) → Option (List ℕ) → Option Phase → Option (List Setting) → Option GoalCall
call_of (Some plugin) (Some goal) (Some execution) (Some phase) (Some configuration) =
    let rule = goal_rule plugin.group plugin.artifact goal in
    Some (record { group = plugin.group; artifact = plugin.artifact; version = plugin.version; goal = goal; execution = execution; phase = phase; configuration = configuration; slot = rule.slot; need = rule.need })
call_of plugin goal execution phase configuration = None

-- the call that a line names
abbrev pub call_in : Data → Option GoalCall
call_in value =
    call_of (option_and_then plugin_in (text_at (codes "plugin") value)) (text_at (codes "goal") value) (text_at (codes "execution") value)
    (option_and_then phase_of (text_at (codes "phase") value)) (option_and_then (all_of (setting_in most_levels)) (items_at (codes "configuration") value))

-- a module of these
abbrev pub gav_of : Option (List ℕ) → Option (List ℕ) → Option (List ℕ) → Option Gav
gav_of (Some group) (Some artifact) (Some version) = Some (record { group = group; artifact = artifact; version = version })
gav_of group artifact version = None

-- the module that a line names
abbrev pub gav_in : Data → Option Gav
gav_in value = gav_of (text_at (codes "groupId") value) (text_at (codes "artifactId") value) (text_at (codes "version") value)
