-- No goal's output goes into the POM's slot.
use Rattle.std.proofs.Common.{◌≡◌, ℕ, zero, suc, Bool, true, false, not, ◌==◌, List, Option, Some, None, is_some, unwrap_or, option_map, find, filter, nat_eq, ◌+◌, refl, ap, subst, if◌then◌else◌, ◌⊎◌, inl, inr}
use Rattle.std.specs.List.{list_all}
use Rattle.std.specs.Cmp.Lexicographic.{pointwise}
use Rattle.std.proofs.lemmas.Bool.{false≢true}
use Rattle.mvn_base.specs.Limits.{maven_plugins}
use Rattle.mvn_base.specs.Phase.{phase_number}
use Rattle.mvn_base.specs.declared.phase.Phase.{Phase}
use Rattle.model_types.specs.declared.plugin.Plugin.{Plugin}
use Rattle.goal_types.specs.GoalRules.{Row, goal_rule, is_row, maven_goals, other_goal}
use Rattle.goal_types.specs.declared.goal.GoalCall.{GoalCall}
use Rattle.goal_types.specs.declared.goal_table.GoalRule.{GoalRule}
use Rattle.build_core.specs.Slots.{slot_number}
use Rattle.lifecycle.specs.Goals.{Bound, all_calls, call_at, call_in, calls_before, calls_of, calls_through, declared, in_order, is_install, phase_at, rows_of}
use Rattle.event_core.specs.SoundPlans.{is_call}
use Rattle.plan_law.proofs.Members.{IsIn, all_pass, each_passes, find_in, from_filter, from_filter_map, from_flat, in_either}

abbrev is_free : GoalRule → Bool
is_free rule = not (slot_number rule.slot == 1)

rows_free : list_all (λ (r : Row). is_free r.rule) maven_goals ≡ true
unfolding maven_goals
rows_free = refl

pub rule_free : (group plugin goal : List ℕ) → is_free (goal_rule group plugin goal) ≡ true
unfolding goal_rule
rule_free group plugin goal = by (pointwise nat_eq group maven_plugins)
  where
    row : (o : Option Row) → find (is_row plugin goal) maven_goals ≡ o → is_free (unwrap_or (option_map (λ r. r.rule) o) other_goal) ≡ true
    row None e = refl
    row (Some r) e = each_passes (λ (r : Row). is_free r.rule) maven_goals rows_free r (find_in (is_row plugin goal) maven_goals r e).0

    by : (b : Bool) → is_free (if b then unwrap_or (option_map (λ r. r.rule) (find (is_row plugin goal) maven_goals)) other_goal else other_goal) ≡ true
    by true = row (find (is_row plugin goal) maven_goals) refl
    by false = refl

-- a call of a plan is of one of the executions
before_in : (n : ℕ) (calls : List GoalCall) (c : GoalCall) → IsIn (calls_before n calls) c → IsIn calls c
before_in zero calls c there = absurd there
before_in (suc n) calls c there = by (in_either (calls_before n calls) (filter (λ (c : GoalCall). nat_eq (phase_number c.phase) n) calls) c there) (before_in n calls c)
  where
    by : IsIn (calls_before n calls) c ⊎ IsIn (filter (λ (c : GoalCall). nat_eq (phase_number c.phase) n) calls) c → (IsIn (calls_before n calls) c → IsIn calls c) → IsIn calls c
    by (inl h) again = again h
    by (inr h) again = (from_filter (λ (c : GoalCall). nat_eq (phase_number c.phase) n) calls c h).0

call_free : (x : Bound) (goal : List ℕ) (phase : Option Phase) (c : GoalCall) → call_in x goal phase ≡ Some c → is_call c ≡ true
call_free x goal None c e = absurd (false≢true (ap is_some e))
call_free x goal (Some phase) c e = by (is_install x goal) e
  where
    by : (b : Bool) → (if b then None else Some (call_at x goal phase)) ≡ Some c → is_call c ≡ true
    by true e = absurd (false≢true (ap is_some e))
    by false e = subst (λ (c : GoalCall). is_call c ≡ true) (ap (λ o. unwrap_or o (call_at x goal phase)) e) (rule_free x.0.group x.0.artifact goal)

pub goals_are_calls : (phase : Phase) (packaging : List ℕ) (plugins : List Plugin) → list_all is_call (calls_through phase packaging plugins) ≡ true
unfolding calls_through
goals_are_calls phase packaging plugins = all_pass is_call (calls_before (phase_number phase + 1) (all_calls (rows_of packaging) plugins)) each
  where
    each : (c : GoalCall) → IsIn (calls_before (phase_number phase + 1) (all_calls (rows_of packaging) plugins)) c → is_call c ≡ true
    each c there =
        let some = from_flat calls_of (in_order (rows_of packaging) (declared plugins)) c (before_in (phase_number phase + 1) (all_calls (rows_of packaging) plugins) c there) in
        let goal = from_filter_map (λ goal. call_in some.0 goal (phase_at some.0 goal)) some.0.1.goals c some.2 in
        call_free some.0 goal.0 (phase_at some.0 goal.0) c goal.2
