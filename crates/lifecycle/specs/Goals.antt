-- Which goals run, in which order, up to a phase. Introduction to the Build Lifecycle; that bound executions come first in a phase, and
-- that a goal without a phase doesn't run, are own rules.
use Rattle.std.specs.Prelude.{ℕ, zero, suc, Bool, false, not, ◌&&◌, nat_eq, nat_le, List, [], ◌++◌, ◌+◌, map, filter, flat_map, filter_map, codes, Option, Some, None, is_none, unwrap_or, if◌then◌else◌}
use Rattle.std.specs.List.{list_any}
use Rattle.std.specs.Str.{bytes_eq}
use Rattle.mvn_base.specs.Phase.{phase_number, phase_of}
use Rattle.mvn_base.specs.declared.phase.Phase.{Phase}
use Rattle.mvn_base.specs.Limits.{maven_plugins}
use Rattle.goal_types.specs.GoalRules.{goal_rule}
use Rattle.goal_types.specs.declared.goal.GoalCall.{GoalCall}
use Rattle.model_types.specs.declared.plugin.Execution.{Execution}
use Rattle.model_types.specs.declared.plugin.Plugin.{Plugin}
use Rattle.model_merge.specs.Configuration.{merged_configuration}
use Rattle.lifecycle.specs.Bindings.{Binding, bindings_of, bound_id}

-- an execution and its plugin
abbrev pub Bound : Type 0
Bound = Plugin × Execution

abbrev pub executions_of : Plugin → List Bound
executions_of p = map (λ e. (p, e)) p.executions

abbrev pub declared : List Plugin → List Bound
declared plugins = flat_map executions_of plugins

-- the execution that this binding of the packaging gives
abbrev pub is_bound_by : Binding → Bound → Bool
is_bound_by b x = bytes_eq x.0.group maven_plugins && (bytes_eq x.0.artifact b.plugin && bytes_eq x.1.id (bound_id b.goal))

abbrev pub is_free : List Binding → Bound → Bool
is_free rows x = not (list_any (λ b. is_bound_by b x) rows)

-- the packaging's executions in the order of its bindings, and then the others as declared
abbrev pub in_order : List Binding → List Bound → List Bound
in_order rows xs = flat_map (λ b. filter (is_bound_by b) xs) rows ++ filter (is_free rows) xs

-- the phase of a goal: its execution's, which must be one of the lifecycle's, or its own by default
abbrev pub phase_at : Bound → List ℕ → Option Phase
phase_at x goal = stated x.1.phase
  where
    stated : Option (List ℕ) → Option Phase
    stated (Some word) = phase_of word
    stated None = (goal_rule x.0.group x.0.artifact goal).phase

-- installing comes after all goals and is no call
abbrev pub is_install : Bound → List ℕ → Bool
is_install x goal = bytes_eq x.0.group maven_plugins && (bytes_eq x.0.artifact (codes "maven-install-plugin") && bytes_eq goal (codes "install"))

abbrev pub call_at : Bound → List ℕ → Phase → GoalCall
call_at x goal phase = record {
  group = x.0.group;
  artifact = x.0.artifact;
  version = unwrap_or x.0.version [];
  goal = goal;
  execution = x.1.id;
  phase = phase;
  configuration = merged_configuration x.1.configuration x.0.configuration;
  slot = (goal_rule x.0.group x.0.artifact goal).slot;
  need = (goal_rule x.0.group x.0.artifact goal).need;
}

-- the call of a goal that ever runs
abbrev pub call_in : Bound → List ℕ → Option Phase → Option GoalCall
call_in x goal None = None
call_in x goal (Some phase) = if is_install x goal then None else Some (call_at x goal phase)

abbrev pub calls_of : Bound → List GoalCall
calls_of x = filter_map (λ goal. call_in x goal (phase_at x goal)) x.1.goals

abbrev pub rows_of : List ℕ → List Binding
rows_of packaging = unwrap_or (bindings_of packaging) []

abbrev pub all_calls : List Binding → List Plugin → List GoalCall
all_calls rows plugins = flat_map calls_of (in_order rows (declared plugins))

-- phase by phase, those of the phases before this number
abbrev pub calls_before : ℕ → List GoalCall → List GoalCall
calls_before zero calls = []
calls_before (suc n) calls = calls_before n calls ++ filter (λ (c : GoalCall). nat_eq (phase_number c.phase) n) calls

unfoldable pub calls_through : Phase → List ℕ → List Plugin → List GoalCall
calls_through phase packaging plugins = calls_before (phase_number phase + 1) (all_calls (rows_of packaging) plugins)

-- whether installing is reached
abbrev pub is_reached : Phase → Option Phase → Bool
is_reached phase None = false
is_reached phase (Some own) = nat_le (phase_number own) (phase_number phase)

abbrev pub installs_in : Phase → Bound → Bool
installs_in phase x = list_any (λ goal. is_install x goal && is_reached phase (phase_at x goal)) x.1.goals

abbrev pub installs : Phase → List Plugin → Bool
installs phase plugins = list_any (installs_in phase) (declared plugins)

-- a goal of an execution without a phase, that has none by default: the plugin's artifact, the goal and the execution
abbrev pub unbound_text : Bound → List ℕ → List ℕ
unbound_text x goal = x.0.artifact ++ codes ":" ++ goal ++ codes " " ++ x.1.id

abbrev pub is_unbound : Bound → List ℕ → Bool
is_unbound x goal = is_none x.1.phase && is_none (goal_rule x.0.group x.0.artifact goal).phase

abbrev pub unbound_of : Bound → List (List ℕ)
unbound_of x = map (unbound_text x) (filter (is_unbound x) x.1.goals)

abbrev pub unbound : List Plugin → List (List ℕ)
unbound plugins = flat_map unbound_of (declared plugins)
