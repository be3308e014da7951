-- Examples of logs and of what a worker does next, which the checker computes: worker 1 builds module 0, publishes file 3 and answers goal 0.
use Rattle.std.specs.Prelude.{◌≡◌, true, false, List, [], ◌∷◌, Some, None}
use Rattle.std.proofs.Common.{refl}
use Rattle.goal_types.specs.declared.goal.GoalAnswer.TheVariants.{Done}
use Rattle.mvn_outside.specs.declared.shelf.Published.{Published}
use Rattle.build_core.specs.declared.table.Tried.TheVariants.{Busy}
use Rattle.build_core.specs.declared.ending.Device.TheVariants.{Remote, Shelf}
use Rattle.build_core.specs.declared.ending.Ending.TheVariants.{Built, Fault}
use Rattle.build_core.specs.declared.event.Answered.{Answered}
use Rattle.build_core.specs.declared.event.Event.{Event}
use Rattle.build_core.specs.declared.event.Event.TheVariants.{Start, Skip, Publish, Answer, End}
use Rattle.event_core.specs.declared.entry.Carried.TheVariants.{Nothing, Published as Published_bytes, Answered as Answered_so}
use Rattle.event_core.specs.declared.entry.RunEntry.{RunEntry}
use Rattle.turn_lock.specs.Turns.{entries_of, open_of}
use Rattle.board.specs.Builds.{next_of, tried_by}
use Rattle.board.specs.Logs.{log_of, marked, role, shelf_endings}
use Rattle.board.specs.declared.next.Next.TheVariants.{Module, Skipped, Wait}
use Rattle.board.specs.declared.next.Next.TheVariants as next

abbrev events : List Event
events = Start 1 0 ∷ Publish 1 3 ∷ Answer 1 0 ∷ []

abbrev answer : Answered
answer = record { «module» = 0; goal = 0; answer = Done }

abbrev file : Published
file = record { name = 97 ∷ []; bytes = 7 ∷ 8 ∷ [] }

abbrev started : RunEntry
started = record { event = Start 1 0; carried = Nothing }

abbrev answered : RunEntry
answered = record { event = Answer 1 0; carried = Answered_so Done }

-- a publish carries the bytes that the repository tells, and an answer the answer
each_carries_its_own : log_of (Some (file ∷ [])) (answer ∷ []) events ≡ started ∷ (record { event = Publish 1 3; carried = Published_bytes (7 ∷ 8 ∷ []) }) ∷ answered ∷ []
each_carries_its_own = refl

-- where it tells nothing a publish carries nothing
untold_publish : log_of None (answer ∷ []) events ≡ started ∷ (record { event = Publish 1 3; carried = Nothing }) ∷ answered ∷ []
untold_publish = refl

-- the worker has its module open until that ends, and each entry is its own
module_is_open : open_of role 1 (log_of None (answer ∷ []) events) ≡ Some 0
module_is_open = refl

module_is_closed : open_of role 1 (log_of None [] (Start 1 0 ∷ End 1 Built ∷ [])) ≡ None
module_is_closed = refl

skips_are_nobodys : entries_of role 1 (log_of None [] (Skip 2 ∷ [])) ≡ []
skips_are_nobodys = refl

-- one module ended by the repository's fault, and one worker is marked
one_shelf_fault : shelf_endings (log_of None [] (End 0 (Fault Shelf) ∷ End 1 (Fault Remote) ∷ End 0 Built ∷ [])) ≡ 1
one_shelf_fault = refl

one_mark : marked (false ∷ true ∷ false ∷ []) ≡ 1
one_mark = refl

-- what is to be skipped comes before what may begin
skips_first : next_of (Some 4) (Some 2) false ≡ Skipped 4
skips_first = refl

begins_else : next_of None (Some 2) false ≡ Module 2
begins_else = refl

waits_else : next_of None None false ≡ Wait
waits_else = refl

all_is_done : next_of None None true ≡ next.Done
all_is_done = refl

least_holder : tried_by (Some 3) ≡ Busy 3
least_holder = refl
