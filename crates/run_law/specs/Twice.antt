-- Which answers are to one goal. Project rule.
use Rattle.std.specs.Prelude.{Bool, ◌&&◌, ◌==◌}
use Rattle.build_core.specs.declared.event.Answered.{Answered}

-- two answers are to one goal of one module
abbrev pub same_goal : Answered → Answered → Bool
same_goal a b = (a.«module» == b.«module») && (a.goal == b.goal)
