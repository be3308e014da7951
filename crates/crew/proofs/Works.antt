-- A worker between two modules: what it knows of its pass, and what its hand is left as.
use Rattle.std.proofs.Common.{◌≡◌, ℕ, [], ◌∷◌, ◌++◌, None, length, drop, refl, sym, ap, subst, ◌∙◌}
use Rattle.std.proofs.lemmas.List.{append-nil}
use Rattle.build_core.specs.declared.ending.Ending.{Ending}
use Rattle.build_core.specs.declared.plan.Plan.{Plan}
use Rattle.event_core.specs.Runs.{module_by}
use Rattle.event_core.specs.Standing.{module_of}
use Rattle.atomic_table.specs.Seated.{TableId}
use Rattle.run_law.proofs.Staying.{course_stays}
use Rattle.crew_modules.proofs.Ended.{follows_all, sees_ends_none, since_more, start_ends_none}
use Rattle.crew_turns.proofs.Counting.{since, worked_more, worked_none}
use Rattle.crew_turns.specs.Endings.{endings_of, endings_since}
use Rattle.crew_turns.specs.Hands.{HandState, IsWorked}
use Rattle.crew_turns.specs.Stops.{HasEnded}
use Rattle.crew_turns.specs.Seen.{AlwaysFits, FitsHand, Follows, IsOf, KeepsFit, Sees, Told, seen_by, view}
use Rattle.crew_turns.specs.Tasks.{ModuleTask}
use Rattle.crew_turns.specs.Turned.{HasStarted}
use Rattle.crew.specs.Between.{IsBetween}

-- nothing came since a pass looked
follows_itself : (plan : Plan) (lock : TableId) (worker : ℕ) (pass : Told) → IsOf plan lock worker pass → Follows pass pass
follows_itself plan lock worker pass of = record { lock = refl; quiet = of.quiet; number = refl; reach = refl; weight = refl; workers = refl; fixed = refl; log = ([], sym (append-nil (seen_by pass))) }

module _ (plan : Plan) (lock : TableId) (worker : ℕ) where
  -- as it begins
  pub at_first : (pass : Told) (hand : HandState) → IsOf plan lock worker pass → (view pass).owed ≡ None → FitsHand plan worker hand.told pass → IsBetween plan lock worker pass pass hand hand
  at_first pass hand of clear own = record {
    of = of;
    idle = sym of.owes ∙ clear;
    follows = follows_itself plan lock worker pass of;
    own = own;
    worked =
        subst (IsWorked hand hand)
        (sym (ap (endings_since worker (seen_by pass)) (sym (append-nil (seen_by pass))) ∙ since worker (seen_by pass) []))
        (worked_none hand);
  }

  module _ (start pass later : Told) (first now : HandState) (is : IsBetween plan lock worker start pass first now) where
    -- others' entries came
    pub seen_more : Sees plan lock worker pass later → AlwaysFits plan worker pass later → IsBetween plan lock worker start later first now
    seen_more turn fits = record {
      of = turn.of;
      idle = ap (λ log. module_by plan log worker) turn.log ∙ ap module_of (course_stays plan (seen_by pass) turn.others worker turn.apart) ∙ is.idle;
      follows = follows_all start pass later is.follows turn.follows;
      own = fits first.told is.own;
      worked =
          subst (IsWorked first now)
          (ap (drop (length (endings_of worker (seen_by start)))) (sym (sees_ends_none plan lock worker pass later turn)))
          is.worked;
    }

  -- a module was built
  pub built_more : (start pass mid later : Told) (first now left : HandState) → IsBetween plan lock worker start pass first now → (t : ModuleTask) → HasStarted plan lock worker t pass mid → AlwaysFits plan worker pass mid
      → (e : Ending) → HasEnded t lock e mid later → KeepsFit t.plan t.worker now.told mid later → IsWorked now left (e ∷ []) → IsBetween plan lock worker start later first left
  built_more start pass mid later first now left is t began fits e ended keeps worked =
      let own = fits first.told is.own in
      let over = began.plan_is in
      let whose = began.worker_is in
      let again : endings_of worker (seen_by later) ≡ endings_of worker (seen_by mid) ++ e ∷ [] = subst (λ w. endings_of w (seen_by later) ≡ endings_of w (seen_by mid) ++ e ∷ []) whose ended.ended in
      let none = start_ends_none plan lock worker t.number pass mid began.step in
      record {
        of = subst (λ p. IsOf p lock worker later) over (subst (λ w. IsOf t.plan lock w later) whose ended.of);
        idle = subst (λ p. module_by p (seen_by later) worker ≡ None) over (subst (λ w. module_by t.plan (seen_by later) w ≡ None) whose ended.idle);
        follows = follows_all start mid later (follows_all start pass mid is.follows began.step.follows) ended.follows;
        own =
            subst (λ p. KeepsFit p worker first.told mid later) over
            (subst (λ w. KeepsFit t.plan w first.told mid later) whose (subst (λ told. KeepsFit t.plan t.worker told mid later) is.worked.told keeps))
            own;
        worked =
            subst (IsWorked first left) (sym (since_more worker (seen_by start) (seen_by pass) (seen_by later) (e ∷ []) is.follows.log (again ∙ ap (λ es. es ++ e ∷ []) none)))
            (worked_more first now left (endings_since worker (seen_by start) (seen_by pass)) (e ∷ []) is.worked worked);
      }
