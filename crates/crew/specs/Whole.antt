-- What a whole build leaves. Project rule; Guide to Working with Multiple Modules, for what a build of several modules is.
use Rattle.std.specs.Prelude.{◌≡◌, ◌≤◌, ℕ, List, [], Option, is_some, option_map, IfSome}
use Rattle.mvn_shared.specs.Cause.{RoseBy}
use Rattle.mvn_outside.specs.Shelf.{files_now}
use Rattle.mvn_outside.specs.declared.shelf.ShelfTold.{ShelfTold}
use Rattle.board.specs.Logs.{AreCarried, shelf_endings, told_after}
use Rattle.board.specs.declared.board.Finished.{Finished}
use Rattle.build_core.specs.declared.plan.Plan.{Plan}
use Rattle.event_core.specs.Runs.{IsComplete, IsQuiet, IsRunOf, answers_in, events_of}
use Rattle.event_core.specs.declared.entry.RunEntry.{RunEntry}
use Rattle.run_law.specs.Given.{states_after}
use Rattle.run_law.specs.Hands.{OwnFit}
use Rattle.crew_turns.specs.Hands.{HandState, IsWorked}
use Rattle.crew_turns.specs.Endings.{endings_of}

-- the run is complete, and what comes back is its events, its answers, its states and its publishes behind the repository's, whose count of faults didn't
-- fall; where the repository told its files, its faults are at least as many as the modules that ended by them
pub record IsBuilt {S : Type 0} (told : S → Option ShelfTold) (faults : S → ℕ) (plan : Plan) (opening : S) (run : List RunEntry) (left : Finished S) : Type 0 where
  pub follows : IsRunOf plan run
  pub complete : IsComplete plan run
  pub trace : left.trace ≡ events_of run
  pub answers : left.answers ≡ answers_in plan run
  pub states : left.states ≡ states_after plan run
  pub publishes : told left.shelf ≡ told_after plan run (told opening)
  pub carried : AreCarried (is_some (told opening)) run
  pub caused : IfSome (told opening) (λ t. RoseBy (shelf_endings run) (faults opening) (faults left.shelf))
  pub calm : IsQuiet run → faults left.shelf ≡ faults opening
  pub no_fall : faults opening ≤ faults left.shelf

-- the worker's entries in the run fit what its hand told, and its hand was worked with as its modules ended
pub record IsWorkedBy (plan : Plan) (opening : Option ShelfTold) (run : List RunEntry) (worker : ℕ) (before now : HandState) : Type 0 where
  pub fits : OwnFit plan (option_map files_now opening) before.told worker [] run
  pub worked : IsWorked before now (endings_of worker run)
