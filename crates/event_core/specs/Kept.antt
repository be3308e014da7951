-- The program's own words: where a build stands, by what a core keeps of it. `Course` and `Standing` are the definition's, with what is
-- left of a script; `KeptCourse` and `KeptStanding` are the program's, with a place in it.
use Rattle.std.specs.Prelude.{◌≡◌, ℕ, ◌+◌, ◌<◌, ◌≤◌, ◌^◌, List, [], length, map}
use Rattle.build_core.specs.declared.event.Event.{Event}
use Rattle.scripts.specs.declared.outline.Outline.{Outline}
use Rattle.event_core.specs.declared.course.Course.{Course as KeptCourse}
use Rattle.event_core.specs.declared.course.Course.TheVariants.{Idle, Off, On}
use Rattle.event_core.specs.declared.standing.Standing.{Standing as KeptStanding}
use Rattle.event_core.specs.EventsLeft.{events_left}
use Rattle.event_core.specs.Enabled.{IsRun}
use Rattle.event_core.specs.Fitting.{IsFit, IsTied}
use Rattle.event_core.specs.Fronts.{upstreams}
use Rattle.event_core.specs.Holders.{AllHold}
use Rattle.scripts.specs.Rests.{script_at}
use Rattle.event_core.specs.Standing.{Course, Standing, idle, off_course, on_course, standing_of}

abbrev pub course_at : Outline → KeptCourse → Course
course_at o Idle = idle
course_at o (On number p last) = on_course number (script_at o number p) last
course_at o (Off number file gathered) = off_course number file gathered

abbrev pub standing_in : Outline → KeptStanding → Standing
standing_in o s = record { progress = s.modules.1; courses = map (course_at o) s.courses.items; held = s.holdings.1; locks = s.holdings.0; there = s.there.items }

-- each worker holds what its place says
pub record IsHolding (o : Outline) (standing : KeptStanding) : Type 0 where
  pub all : AllHold o standing.courses.items standing.holdings.1
  pub courses : length standing.courses.items ≡ o.workers
  pub rows : length standing.holdings.1 ≡ o.workers

-- a core's parts belong together: it stands where its events lead, and there is room for what may come
pub record IsCore (o : Outline) (events : List Event) (standing : KeptStanding) (capacity : ℕ) : Type 0 where
  pub same : standing_in o standing ≡ standing_of o events
  pub run : IsRun o [] events
  pub fit : IsFit o (standing_of o events)
  pub tied : IsTied o (standing_of o events)
  pub holding : IsHolding o standing
  pub kept : o.events ≤ capacity
  pub few : length o.modules < 2 ^ 32
  pub ups : standing.modules.0 ≡ upstreams o
  pub left : length events + events_left o (standing_of o events) ≤ o.events
