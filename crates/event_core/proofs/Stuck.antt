-- A core's build never comes to a stand.
use Rattle.std.proofs.Common.{◌≡◌, ℕ, List, map, sym, ap, subst}
use Rattle.build_core.specs.declared.event.Event.{Event}
use Rattle.scripts.specs.declared.outline.Outline.{Outline}
use Rattle.event_core.specs.declared.standing.Standing.{Standing as KeptStanding}
use Rattle.event_core.specs.Going.{NamesAscend, NeverLocked, NeverWaits}
use Rattle.event_core.specs.Holders.{AllHold}
use Rattle.event_core.specs.Kept.{IsCore, course_at}
use Rattle.event_core.specs.Standing.{standing_of}
use Rattle.event_core.proofs.Going.{due_above, due_low, lock_on, wait_on}

module _ (o : Outline) (events : List Event) (standing : KeptStanding) (capacity : ℕ) (core : IsCore o events standing capacity) where
  same_courses : (standing_of o events).courses ≡ map (course_at o) standing.courses.items
  same_courses = ap (λ now. now.courses) (sym core.same)

  all_hold : AllHold o standing.courses.items (standing_of o events).held
  all_hold = subst (λ now. AllHold o standing.courses.items now.held) core.same core.holding.all

  pub never_locked : NeverLocked o (standing_of o events)
  never_locked = λ sound on w n mode h low due blocked.
      lock_on o (standing_of o events) standing.courses.items same_courses all_hold core.fit core.tied sound on w n mode h
      (due_above o (standing_of o events) standing.courses.items w n mode same_courses all_hold core.tied sound low due) blocked

  pub never_waits : NeverWaits o (standing_of o events)
  never_waits = λ sound on open_one unready unskipped. wait_on o (standing_of o events) standing.courses.items same_courses all_hold core.fit core.tied sound on open_one unready unskipped

  pub names_ascend : NamesAscend o (standing_of o events)
  names_ascend = λ sound w n mode low due. (
    due_low o (standing_of o events) standing.courses.items w n mode same_courses all_hold core.tied sound low due,
    due_above o (standing_of o events) standing.courses.items w n mode same_courses all_hold core.tied sound low due,
  )
