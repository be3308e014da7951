-- What each worker shows makes a run by the crew.
use Rattle.std.proofs.Common.{◌≡◌, ℕ, zero, suc, ◌<◌, List, [], ◌∷◌, length, map, get_or, Option, is_some, refl, sym, subst, ◌∙◌, arith}
use Rattle.std.proofs.lemmas.List.{get_or-map}
use Rattle.run_law.proofs.Stored.{length_map}
use Rattle.mvn_outside.specs.declared.shelf.ShelfTold.{ShelfTold}
use Rattle.build_core.specs.declared.ending.Ending.{Ending}
use Rattle.build_core.specs.declared.plan.Plan.{Plan}
use Rattle.event_core.specs.Runs.{IsComplete, IsRunOf}
use Rattle.event_core.specs.declared.entry.RunEntry.{RunEntry}
use Rattle.board.specs.Logs.{AreCarried}
use Rattle.run_law.specs.Hands.{OwnFit}
use Rattle.crew.specs.Whole.{IsWorkedBy}
use Rattle.crew_turns.specs.Endings.{endings_of}
use Rattle.crew_turns.specs.Hands.{HandState, IsWorked}
use Rattle.crew.specs.CrewOutcomes.{IsCrewRun, IsUsed, hand_of, no_hand, start_of, told_of}
use Rattle.crew.proofs.Sides.{gathered}
use Rattle.build_outcome.specs.Finished.{AreSwept, swept}

-- an item of a list that has a place
some_item : {A : Type 0} (xs : List A) (i : ℕ) → i < length xs → A
some_item [] i low = absurd (omega (arith, low))
some_item (x ∷ xs) i low = x

-- the state of a hand that there is
hand_at : {H : Type 0} (state : H → HandState) (hands : List H) (w : ℕ) (d : H) → w < length hands → hand_of (map state hands) w ≡ state (get_or hands w d)
hand_at state hands w d low = get_or-map state hands w d no_hand low

-- what each worker shows, by the states of the hands
pub by_states : {H : Type 0} (state : H → HandState) (plan : Plan) (opening : Option ShelfTold) (run : List RunEntry) (old new : List H) → length new ≡ length old
    → ((i : ℕ) (d : H) → i < length old → IsWorkedBy plan opening run i (state (get_or old i d)) (state (get_or new i d)))
    → (w : ℕ) → w < length old → IsWorkedBy plan opening run w (hand_of (map state old) w) (hand_of (map state new) w)
by_states state plan opening run old new many each w low =
    let d = some_item old w low in
    subst (λ h. IsWorkedBy plan opening run w h (hand_of (map state new) w)) (sym (hand_at state old w d low))
    (subst (λ h. IsWorkedBy plan opening run w (state (get_or old w d)) h) (sym (hand_at state new w d (omega (arith, low, many)))) (each w d low))

-- a hand that was swept and then worked with was used
used : (before now : HandState) (endings : List Ending) → IsWorked (swept before) now endings → IsUsed before now endings
used before now endings is = record { told = is.told; remote = is.remote; area = is.area; gate = is.gate; empty = is.pieces }

-- so the run is one by the crew
pub crew_run : (plan : Plan) (opening : Option ShelfTold) (before middle now : List HandState) (run : List RunEntry) → IsRunOf plan run → IsComplete plan run → AreCarried (is_some opening) run → AreSwept before middle → length middle ≡ plan.workers
    → ((w : ℕ) → w < length middle → IsWorkedBy plan opening run w (hand_of middle w) (hand_of now w)) → IsCrewRun plan opening before now run
crew_run plan opening before middle now run follows complete carried is many each =
    let size : length before ≡ plan.workers = sym is.many ∙ many in
    gathered plan opening before now run follows complete carried size
    (λ w low. subst (λ (h : HandState). OwnFit plan (start_of opening) h.told w [] run) (is.each w (omega (arith, low, size))) (each w (omega (arith, low, many))).fits)
    (λ w low. used (hand_of before w) (hand_of now w) (endings_of w run) (subst (λ (h : HandState). IsWorked h (hand_of now w) (endings_of w run)) (is.each w (omega (arith, low, size))) (each w (omega (arith, low, many))).worked))
