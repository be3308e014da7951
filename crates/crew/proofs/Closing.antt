-- A build that is over: what the board leaves, and what the log says of each worker.
use Rattle.std.proofs.Common.{◌≡◌, ℕ, ◌+◌, ◌≤◌, Bool, true, false, List, [], ◌∷◌, ◌++◌, Option, Some, None, IfSome, is_some, refl, arith, sym, ap, subst, ◌∙◌}
use Rattle.std.specs.Option.{option_map_or}
use Rattle.std.proofs.lemmas.Bool.{false≢true}
use Rattle.std.proofs.lemmas.List.{append-nil}
use Rattle.mvn_shared.specs.Cause.{RoseBy}
use Rattle.mvn_outside.specs.declared.shelf.ShelfTold.{ShelfTold}
use Rattle.build_core.specs.declared.event.Event.{Event}
use Rattle.build_core.specs.declared.plan.Plan.{Plan}
use Rattle.event_core.specs.declared.entry.RunEntry.{RunEntry}
use Rattle.scripts.specs.Outlines.{outline_of}
use Rattle.event_core.specs.Runs.{IsComplete, IsQuiet, IsRunOf, answers_in, events_of}
use Rattle.run_law.proofs.Complete.{complete_is_all}
use Rattle.run_law.proofs.LaterMoments.{front}
use Rattle.run_law.specs.Given.{states_after}
use Rattle.run_law.specs.Hands.{OwnFit}
use Rattle.turn_lock.specs.Turns.{Begins}
use Rattle.board.specs.Builds.{AreCaused, Build}
use Rattle.board.specs.Logs.{AreCarried, marked, shelf_endings, told_after}
use Rattle.board.specs.declared.board.Finished.{Finished}
use Rattle.board.specs.declared.kept.Opened.{Opened}
use Rattle.crew_turns.specs.Endings.{endings_of}
use Rattle.crew_turns.specs.Hands.{HandState, IsWorked}
use Rattle.crew_turns.specs.Taken.{opened_of}
use Rattle.crew.specs.Crews.{HasLeft, opened_by, start_of}
use Rattle.crew.specs.Whole.{IsBuilt, IsWorkedBy}

-- ---- the whole log

none_of : (es : List RunEntry) → events_of es ≡ [] → es ≡ []
none_of [] is = refl
none_of (e ∷ es) is = absurd (false≢true (ap is_nil is))
  where
    is_nil : List Event → Bool
    is_nil [] = true
    is_nil (x ∷ xs) = false

-- a complete run with which a run begins is all of it
is_all : (plan : Plan) (run log : List RunEntry) → IsRunOf plan log → Begins run log → IsComplete plan run → run ≡ log
is_all plan run log is begins complete =
    let parts = front plan run begins.0 (subst (IsRunOf plan) begins.1 is) in
    let none : begins.0 ≡ [] = none_of begins.0 (complete_is_all (outline_of plan) (events_of run) (events_of begins.0) parts.0 complete parts.1) in
    sym (begins.1 ∙ ap (λ rest. run ++ rest) none ∙ append-nil run)

-- what is said of a worker's log is so of the whole run
pub worked_by : (opened : Opened) (i : ℕ) (before now : HandState) (seen log : List RunEntry) → IsRunOf opened.plan log → log ≡ seen → HasLeft opened (0 + i) before now seen → IsWorkedBy opened.plan opened.told log i before now
worked_by opened i before now seen log run same left =
    let all : left.run ≡ log = is_all opened.plan left.run log run (subst (Begins left.run) (sym same) left.begins) left.complete in
    let k : 0 + i ≡ i = omega arith in
    record {
      fits = subst (λ w. OwnFit opened.plan (start_of opened) before.told w [] log) k (subst (OwnFit opened.plan (start_of opened) before.told (0 + i) []) all left.fits);
      worked = subst (λ w. IsWorked before now (endings_of w log)) k (subst (λ l. IsWorked before now (endings_of (0 + i) l)) all left.worked);
    }

-- ---- the board

-- a count that rose by two counts rose by one of them
rose_less : (n m before now : ℕ) → RoseBy (n + m) before now → RoseBy n before now
rose_less n m before now is = record { no_fall = is.no_fall; rise = omega (arith, is.rise) }

caused_less : (told : Option ShelfTold) (before now : ℕ) (log : List RunEntry) (marks : List Bool) → AreCaused told before now log marks → IfSome told (λ t. RoseBy (shelf_endings log) before now)
caused_less None before now log marks is = tt
caused_less (Some t) before now log marks is = rose_less (shelf_endings log) (marked marks) before now is

module _ {S : Type 0} (told : S → Option ShelfTold) (faults : S → ℕ) (plan : Plan) (shelf : S) (b : Build S) (fixed : Some (opened_of told faults b) ≡ Some (opened_by told faults plan shelf)) where
  same : opened_of told faults b ≡ opened_by told faults plan shelf
  same = ap (λ (x : Option Opened). option_map_or (λ o. o) x (opened_of told faults b)) fixed

  pub same_plan : b.plan ≡ plan
  same_plan = ap (λ (o : Opened). o.plan) same

  told_same : told b.opening ≡ told shelf
  told_same = ap (λ (o : Opened). o.told) same

  faults_same : faults b.opening ≡ faults shelf
  faults_same = ap (λ (o : Opened). o.faults) same

  -- what is left is the run's
  pub built : (left : Finished S) → IsRunOf b.plan b.log → IsComplete plan b.log → told b.shelf ≡ told_after b.plan b.log (told b.opening) → AreCarried (is_some (told b.opening)) b.log
      → AreCaused (told b.opening) (faults b.opening) (faults b.shelf) b.log b.marks
      → left.shelf ≡ b.shelf → left.trace ≡ events_of b.log → left.answers ≡ answers_in b.plan b.log → left.states ≡ states_after b.plan b.log → (IsQuiet b.log → faults left.shelf ≡ faults b.opening) → faults b.opening ≤ faults left.shelf
      → IsBuilt told faults plan shelf b.log left
  built left run complete tells carried caused shelf_is trace answers states calm low = record {
    follows = subst (λ p. IsRunOf p b.log) same_plan run;
    complete = complete;
    trace = trace;
    answers = answers ∙ ap (λ p. answers_in p b.log) same_plan;
    states = states ∙ ap (λ p. states_after p b.log) same_plan;
    publishes = ap told shelf_is ∙ tells ∙ ap (λ p. told_after p b.log (told b.opening)) same_plan ∙ ap (told_after plan b.log) told_same;
    carried = subst (λ t. AreCarried (is_some t) b.log) told_same carried;
    caused =
        subst (λ s. IfSome (told shelf) (λ t. RoseBy (shelf_endings b.log) (faults shelf) (faults s))) (sym shelf_is)
        (subst (λ n. IfSome (told shelf) (λ t. RoseBy (shelf_endings b.log) n (faults b.shelf))) faults_same
        (subst (λ o. IfSome o (λ t. RoseBy (shelf_endings b.log) (faults b.opening) (faults b.shelf))) told_same
        (caused_less (told b.opening) (faults b.opening) (faults b.shelf) b.log b.marks caused)));
    calm = λ quiet. calm quiet ∙ faults_same;
    no_fall = subst (λ n. n ≤ faults left.shelf) faults_same low;
  }
