-- What holds of where a build stands, after any events that were allowed.
use Rattle.std.specs.Prelude.{◌≡◌, ℕ, ◌<◌, true, nat_lt, All, length, Some, is_some}
use Rattle.std.specs.List.{list_all}
use Rattle.build_core.specs.Locks.{hold, names_of, workers_of}
use Rattle.scripts.specs.declared.outline.Outline.{Outline}
use Rattle.scripts.specs.Climbing.{Climbs}
use Rattle.scripts.specs.Outlines.{is_listed}
use Rattle.event_core.specs.declared.module_steps.Progress.TheVariants.{Running}
use Rattle.event_core.specs.HowFar.{progress_of}
use Rattle.event_core.specs.Standing.{Standing, course_of, held_by, module_of}

pub record IsFit (o : Outline) (now : Standing) : Type 0 where
  pub names : names_of now.locks ≡ o.names
  pub workers : workers_of now.locks ≡ o.workers
  pub rows : length now.held ≡ o.workers
  pub courses : length now.courses ≡ o.workers
  pub modules : length now.progress ≡ length o.modules
  pub climbing : All (Climbs 0) now.held
  pub low : All (λ held. list_all (λ h. nat_lt h o.names) held ≡ true) now.held
  pub listed : (w n : ℕ) → w < o.workers → is_some (hold now.locks n w) ≡ true → is_listed n (held_by now w) ≡ true

-- names that are listed are held, and a module that runs is what its worker is at
pub record IsTied (o : Outline) (now : Standing) : Type 0 where
  pub depth : length now.locks.2 ≡ o.names
  pub width : All (λ row. length row ≡ o.workers) now.locks.2
  pub held : (w n : ℕ) → w < o.workers → is_listed n (held_by now w) ≡ true → is_some (hold now.locks n w) ≡ true
  pub running : (m w : ℕ) → progress_of now.progress m ≡ Running w → (w < o.workers) × (module_of (course_of now w) ≡ Some m)
  pub real : (w m : ℕ) → module_of (course_of now w) ≡ Some m → m < length o.modules
  pub busy : (w m : ℕ) → module_of (course_of now w) ≡ Some m → progress_of now.progress m ≡ Running w
