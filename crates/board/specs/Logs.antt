-- The log of a build: its events, each with what it carries, and whose each of them is. Project rule.
use Rattle.std.specs.Prelude.{◌≡◌, ℕ, Bool, true, false, List, [], ◌∷◌, ◌++◌, length, drop, filter, filter_map, Option, Some, None, option_map}
use Rattle.std.specs.List.{list_all}
use Rattle.mvn_outside.specs.declared.shelf.Published.{Published}
use Rattle.mvn_outside.specs.declared.shelf.ShelfTold.{ShelfTold}
use Rattle.build_core.specs.declared.ending.Device.TheVariants as device
use Rattle.build_core.specs.declared.ending.Ending.TheVariants as ending
use Rattle.build_core.specs.declared.event.Answered.{Answered}
use Rattle.build_core.specs.declared.event.Event.{Event}
use Rattle.build_core.specs.declared.event.Event.TheVariants as event
use Rattle.build_core.specs.declared.plan.Plan.{Plan}
use Rattle.event_core.specs.Runs.{writes_of}
use Rattle.event_core.specs.declared.entry.Carried.{Carried}
use Rattle.event_core.specs.declared.entry.Carried.TheVariants as carried
use Rattle.event_core.specs.declared.entry.RunEntry.{RunEntry}
use Rattle.event_core.specs.Worlds.{is_told}
use Rattle.turn_lock.specs.declared.kept.Role.{Role}
use Rattle.turn_lock.specs.declared.kept.Role.TheVariants.{Nobody, Opens, GoesOn, Closes}

-- ---- what an event carries

-- a publish carries the bytes of the next publish that the repository tells
abbrev pub next_bytes : Option (List Published) → Carried
next_bytes None = carried.Nothing
next_bytes (Some []) = carried.Nothing
next_bytes (Some (p ∷ more)) = carried.Published p.bytes

-- and an answer the next answer that was kept
abbrev pub next_answer : List Answered → Carried
next_answer [] = carried.Nothing
next_answer (a ∷ more) = carried.Answered a.answer

abbrev pub behind : {A : Type 0} → List A → List A
behind [] = []
behind (x ∷ xs) = xs

-- the events in order, each publish with the next of these publishes, and each answer with the next of these answers
abbrev pub log_of : Option (List Published) → List Answered → List Event → List RunEntry
log_of told kept [] = []
log_of told kept (event.Publish w file ∷ events) = (record { event = event.Publish w file; carried = next_bytes told }) ∷ log_of (option_map behind told) kept events
log_of told kept (event.Answer w goal ∷ events) = (record { event = event.Answer w goal; carried = next_answer kept }) ∷ log_of told (behind kept) events
log_of told kept (e ∷ events) = (record { event = e; carried = carried.Nothing }) ∷ log_of told kept events

-- each entry carries what it has to, where the repository tells, or doesn't: an answer always, published bytes where it tells, and else nothing
abbrev pub AreCarried : (told : Bool) → List RunEntry → Type 0
AreCarried told log = list_all (λ (e : RunEntry). is_told told e.event e.carried) log ≡ true

-- what a repository tells that it didn't tell at first
abbrev pub published_since : (opening now : Option ShelfTold) → Option (List Published)
published_since None now = None
published_since (Some told) None = None
published_since (Some told) (Some later) = Some (drop (length told.publishes) later.publishes)

-- ---- what a log says of the repository

-- the publish that an entry is
abbrev pub published_as : Plan → Event → Carried → Option Published
published_as plan e (carried.Published bytes) = option_map (λ name. record { name = name; bytes = bytes }) (writes_of plan e)
published_as plan e what = None

abbrev pub publishes_in : Plan → List RunEntry → List Published
publishes_in plan log = filter_map (λ (e : RunEntry). published_as plan e.event e.carried) log

-- what a repository tells behind a log that was written on it: the log's publishes stand behind those that it told before
abbrev pub told_after : Plan → List RunEntry → Option ShelfTold → Option ShelfTold
told_after plan log told = option_map (λ (t : ShelfTold). record t { publishes = t.publishes ++ publishes_in plan log }) told

-- ---- faults of the repository

abbrev pub is_shelf_end : Event → Bool
is_shelf_end (event.End w (ending.Fault device.Shelf)) = true
is_shelf_end other = false

-- how many modules ended by a fault of the repository
abbrev pub shelf_endings : List RunEntry → ℕ
shelf_endings log = length (filter (λ (e : RunEntry). is_shelf_end e.event) log)

-- how many marks are set
abbrev pub marked : List Bool → ℕ
marked marks = length (filter (λ b. b) marks)

-- ---- whose an event is

abbrev pub role_of : Event → Role
role_of (event.Start w m) = Opens w m
role_of (event.Skip m) = Nobody
role_of (event.Take w n mode) = GoesOn w
role_of (event.Free w n) = GoesOn w
role_of (event.Read w file) = GoesOn w
role_of (event.Publish w file) = GoesOn w
role_of (event.Answer w goal) = GoesOn w
role_of (event.End w e) = Closes w

abbrev pub role : RunEntry → Role
role e = role_of e.event
