-- That a build goes on: some worker has an event that is due and may come. Own.
use Rattle.std.specs.Prelude.{◌≡◌, ℕ, ◌<◌, Bool, true, false, nat_lt, find, length, None, Some}
use Rattle.std.specs.List.{list_all}
use Rattle.build_core.specs.declared.mode.Mode.{Mode}
use Rattle.build_core.specs.Locks.{below, blocker}
use Rattle.build_core.specs.declared.ending.Ending.TheVariants.{Built}
use Rattle.build_core.specs.declared.event.Event.{Event}
use Rattle.build_core.specs.declared.event.Event.TheVariants as event
use Rattle.scripts.specs.declared.outline.Outline.{Outline}
use Rattle.scripts.specs.declared.deed.Deed.TheVariants as deed
use Rattle.event_core.specs.Enabled.{IsEnabled, is_due, may_end_so}
use Rattle.event_core.specs.Sound.{IsSound}
use Rattle.event_core.specs.HowFar.{is_ready, is_skippable}
use Rattle.event_core.specs.Standing.{Course, Standing, course_of, held_by, idle, is_complete, off_course, on_course}

-- an event of a worker that its script wants next; a free of any name where frees are due, and the good end
abbrev pub IsDue : Outline → Standing → ℕ → Event → Type 0
IsDue o now v (event.Take w n mode) = (w ≡ v) × (is_due (course_of now v) (deed.Take mode n) ≡ true)
IsDue o now v (event.Free w n) = (w ≡ v) × (is_due (course_of now v) deed.Free ≡ true)
IsDue o now v (event.Read w f) = (w ≡ v) × (is_due (course_of now v) (deed.Read f) ≡ true)
IsDue o now v (event.Publish w f) = (w ≡ v) × (is_due (course_of now v) (deed.Publish f) ≡ true)
IsDue o now v (event.Answer w g) = (w ≡ v) × (is_due (course_of now v) (deed.Answer g) ≡ true)
IsDue o now v (event.End w e) = (w ≡ v) × (e ≡ Built) × (may_end_so o (course_of now v) Built ≡ true)
IsDue o now v other = false ≡ true

-- the worker goes on: an event of it is due and may come
pub record GoesOn (o : Outline) (now : Standing) (v : ℕ) : Type 0 where
  pub next : Event
  pub due : IsDue o now v next
  pub enabled : IsEnabled o now next

-- no worker has left its script
abbrev pub is_on : Course → Bool
is_on idle = true
is_on (on_course m script last) = true
is_on (off_course m file gathered) = false

abbrev pub AreOn : Outline → Standing → Type 0
AreOn o now = (v : ℕ) → v < o.workers → is_on (course_of now v) ≡ true

-- behind a worker whose due name another's hold excludes, another worker goes on
abbrev pub NeverLocked : Outline → Standing → Type 0
NeverLocked o now = IsSound o → AreOn o now → (w n : ℕ) (mode : Mode) (h : ℕ) → w < o.workers → is_due (course_of now w) (deed.Take mode n) ≡ true → blocker now.locks n w mode ≡ Some h
    → (u : ℕ) × ((u ≡ w) → ⊥) × (u < o.workers) × GoesOn o now u

-- a name that is due is in range, and above all that its worker holds: so nothing but another's hold keeps the worker from it
abbrev pub NamesAscend : Outline → Standing → Type 0
NamesAscend o now = IsSound o → (w n : ℕ) (mode : Mode) → w < o.workers → is_due (course_of now w) (deed.Take mode n) ≡ true → (n < o.names) × (list_all (λ h. nat_lt h n) (held_by now w) ≡ true)

-- where nothing may begin or be skipped, and not all is over, some worker goes on
abbrev pub NeverWaits : Outline → Standing → Type 0
NeverWaits o now = IsSound o → AreOn o now → is_complete now ≡ false → find (is_ready o now.progress) (below (length o.modules)) ≡ None → find (is_skippable o now.progress) (below (length o.modules)) ≡ None
    → (u : ℕ) × (u < o.workers) × GoesOn o now u
