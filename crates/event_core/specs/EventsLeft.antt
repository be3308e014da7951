-- How many events a build still has at most, from where it stands. Own.
use Rattle.std.specs.Prelude.{ℕ, suc, ◌+◌, List, [], ◌∷◌, length, if◌then◌else◌}
use Rattle.scripts.specs.declared.outline.Outline.{Outline}
use Rattle.scripts.specs.declared.outline.ModuleOutline.{ModuleOutline}
use Rattle.scripts.specs.Bounds.{module_events, script_events, total}
use Rattle.event_core.specs.declared.module_steps.Progress.{Progress}
use Rattle.event_core.specs.HowFar.{is_waiting}
use Rattle.event_core.specs.Standing.{Course, Standing, idle, off_course, on_course}

-- what a worker has left, but for the names that it holds: its script and the end
abbrev pub course_events : Course → ℕ
course_events idle = 0
course_events (on_course m script last) = suc (script_events script)
course_events (off_course m file gathered) = 1

abbrev pub waiting_events : List Progress → List ModuleOutline → ℕ
waiting_events [] modules = 0
waiting_events (p ∷ progress) [] = 0
waiting_events (p ∷ progress) (m ∷ modules) = (if is_waiting p then module_events m else 0) + waiting_events progress modules

-- what is left: of the modules that wait, of the courses, and the names that are to be freed
abbrev pub events_left : Outline → Standing → ℕ
events_left o now = waiting_events now.progress o.modules + total course_events now.courses + total (λ (held : List ℕ). length held) now.held
