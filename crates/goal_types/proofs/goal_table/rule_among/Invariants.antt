use Rattle.std.proofs.Common.{◌≡◌, map, drop, find}
use Rattle.goal_types.specs.GoalRules.{is_row, row_view}
use Rattle.goal_types.proofs.goal_table.rule_among.Given as goal

-- the goal's row is among those that are left where it is among all
abbrev pub invariant-loop-artifact : goal.invariant-loop-artifact
invariant-loop-artifact l =
    find (is_row l.plugin l.goal) (map row_view (drop l.artifact-index l.rows)) ≡ find (is_row l.plugin l.goal) (map row_view l.rows)
