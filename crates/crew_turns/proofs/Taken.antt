-- A worker that has the turn: what it knows of the board, what it may do there, and what its entry leaves of its pass.
use Rattle.std.proofs.Common.{◌≡◌, inr, ℕ, ◌<◌, true, false, nat_eq, nat_lt, List, [], ◌∷◌, ◌++◌, Option, Some, arith, sym, ap, subst, ◌∙◌}
use Rattle.std.specs.List.{list_all}
use Rattle.std.specs.Option.{option_map_or}
use Rattle.std.proofs.lemmas.Bool.Decides.{nat_tests}
use Rattle.std.proofs.lemmas.List.Elements.{All-get_or}
use Rattle.mvn_outside.specs.declared.shelf.ShelfTold.{ShelfTold}
use Rattle.build_core.specs.declared.event.Event.{Event}
use Rattle.build_core.specs.declared.event.Event.TheVariants as event
use Rattle.build_core.specs.declared.plan.Plan.{Plan}
use Rattle.event_core.specs.declared.entry.Carried.{Carried}
use Rattle.event_core.specs.declared.entry.Carried.TheVariants as carried
use Rattle.event_core.specs.declared.entry.RunEntry.{RunEntry}
use Rattle.scripts.specs.declared.outline.Outline.{Outline}
use Rattle.event_core.specs.Enabled.{Enabled, IsEnabled, IsRun}
use Rattle.scripts.specs.Outlines.{is_listed, outline_of}
use Rattle.event_core.specs.Runs.{IsRunOf, events_of, standing_of_run}
use Rattle.event_core.specs.Standing.{Standing, held_by}
use Rattle.event_core.specs.Worlds.{Fits, HandTold}
use Rattle.event_core.proofs.Runs.{run_more}
use Rattle.run_law.proofs.Complete.{IsStanding, events_more, standing}
use Rattle.run_law.proofs.Ready.{all_listed}
use Rattle.run_law.proofs.Staying.{held_stays}
use Rattle.atomic_table.specs.Seated.{TableId}
use Rattle.turn_lock.specs.Passes.{with_view}
use Rattle.turn_lock.specs.Turns.{AddsOne, IsKnown, MayAdd, given, with_turn}
use Rattle.board.specs.Builds.{Build, MayCome, with_event, with_mark}
use Rattle.board.specs.Logs.{role, role_of}
use Rattle.board.specs.declared.kept.Opened.{Opened}
use Rattle.crew_turns.specs.Came.{given_back}
use Rattle.crew_turns.specs.Seen.{FitsHand, IsOf, KeepsFit, Steps, Told, names_by, seen_by, start_by, view}
use Rattle.crew_turns.specs.Taken.{IsOut, opened_of}
use Rattle.crew_turns.proofs.Turning.{came, steps, steps_fits}

-- a name that is listed is held, and is one of the names
free_may : (o : Outline) (now : Standing) (w n : ℕ) → IsStanding o now → w < o.workers → is_listed n (held_by now w) ≡ true → IsEnabled o now (event.Free w n)
free_may o now w n s low listed =
    let rows = s.fit.rows in
    let all = All-get_or (λ t. list_all (λ h. nat_lt h o.names) t ≡ true) now.held w [] (omega (arith, low, rows)) s.fit.low in
    let there = all_listed (λ h. nat_lt h o.names) (held_by now w) all n listed in
    (low, below n o.names there, s.tied.held w n low listed)
  where
    below : (a b : ℕ) → nat_lt a b ≡ true → a < b
    below a b is = grind (arith, nat_tests, is)

-- a run with an event more that may come
more_run : (o : Outline) (log : List RunEntry) (e : Event) (what : Carried) → IsRun o [] (events_of log) → Enabled o (events_of log) e → IsRun o [] (events_of (log ++ (record { event = e; carried = what }) ∷ []))
more_run o log e what run may = subst (IsRun o []) (sym (events_more log (record { event = e; carried = what }))) (run_more o [] (events_of log) e run may)

-- an entry of a number is its own
pub itself : (w : ℕ) → nat_eq w w ≡ true
itself w = grind (arith, nat_tests)

-- the log with an event more, of a worker that is known by another number
pub one_more : {S : Type 0} (b now : Build S) (e : ℕ → Event) (k w : ℕ) → now ≡ with_event b (e k) → k ≡ w → now.log ≡ b.log ++ (record { event = e w; carried = carried.Nothing }) ∷ []
one_more {S} b now e k w is same = ap (λ (x : Build S). x.log) is ∙ ap (λ (v : ℕ). b.log ++ (record { event = e v; carried = carried.Nothing }) ∷ []) same

-- and where marks changed
pub ended_more : {S : Type 0} (b now : Build S) (e : ℕ → Event) (k w : ℕ) → now ≡ with_mark (with_event b (e k)) k false → k ≡ w → now.log ≡ b.log ++ (record { event = e w; carried = carried.Nothing }) ∷ []
ended_more {S} b now e k w is same = ap (λ (x : Build S). x.log) is ∙ ap (λ (v : ℕ). b.log ++ (record { event = e v; carried = carried.Nothing }) ∷ []) same

-- what was given back
pub gave : (before : Told) (out log : List RunEntry) (mid pass : Told) → mid ≡ with_view before (with_turn (view before) out) → pass ≡ with_view mid (given role (view mid) log) → given_back before out log ≡ pass
gave before out log mid pass took gives = sym (gives ∙ ap (λ (p : Told). with_view p (given role (view p) log)) took)

module _ (plan : Plan) (lock : TableId) (w : ℕ) (before : Told) (of : IsOf plan lock w before) {S : Type 0} (b : Build S) where
  -- the board is out, by what the turn lock says
  pub out : (told : S → Option ShelfTold) (faults : S → ℕ) → IsKnown role b.log (opened_of told faults b) b.plan.workers (view before) → IsRunOf b.plan b.log → IsOut plan w before b
  out told faults known run =
      let same : b.plan ≡ plan = ap (λ (x : Option Opened). option_map_or (λ (o : Opened). o.plan) x plan) (sym known.same ∙ of.fixed) ∙ of.over in
      let some = known.some_worker in
      let below = known.below in
      let count = known.count in
      let number = of.whose in
      let among = of.among in
      record {
        plan_is = same;
        run = subst (λ p. IsRunOf p b.log) same run;
        came = came plan lock w before of b.log (opened_of told faults b) b.plan.workers known;
        low = omega (arith, some, below, count, number, among);
      }

  module _ (is : IsOut plan w before b) where
    -- a name that the worker holds may be freed
    pub may_free : (n : ℕ) → is_listed n (names_by plan w before) ≡ true → MayCome b (event.Free w n)
    unfolding Enabled
    may_free n listed =
        let held : is_listed n (held_by (standing_of_run plan b.log) w) ≡ true =
        subst (λ log. is_listed n (held_by (standing_of_run plan log) w) ≡ true) (sym is.came.is)
        (subst (λ ns. is_listed n ns ≡ true) (sym (held_stays plan (seen_by before) is.came.others w is.came.apart)) listed) in
        subst (λ p. IsEnabled (outline_of p) (standing_of_run p b.log) (event.Free w n)) (sym is.plan_is)
        (free_may (outline_of plan) (standing_of_run plan b.log) w n (standing (outline_of plan) (events_of b.log) is.run) is.low held)

    -- an entry more, of the worker or nobody's, may be given back
    pub adds : (e : Event) (what : Carried) (log : List RunEntry) → log ≡ b.log ++ (record { event = e; carried = what }) ∷ [] → (mid : Told) → mid ≡ with_view before (with_turn (view before) b.log) → MayAdd role w (role_of e)
        → (l : List RunEntry) × ((view mid).turn ≡ Some l) × AddsOne role (view mid).number l log
    adds e what log one mid took may =
        let number : w ≡ (view mid).number = sym (ap (λ (p : Told). (view p).number) took ∙ of.whose) in
        (b.log, ap (λ (p : Told). (view p).turn) took, inr (record { event = e; carried = what }, one, subst (λ k. MayAdd role k (role_of e)) number may))

    module _ (e : Event) (what : Carried) (log : List RunEntry) (one : log ≡ b.log ++ (record { event = e; carried = what }) ∷ []) (mid pass : Told)
        (took : mid ≡ with_view before (with_turn (view before) b.log)) (gives : pass ≡ with_view mid (given role (view mid) log)) where
      -- an entry of the worker that may come is a step of its pass
      pub stepped : MayCome b e → Steps plan lock w e before pass
      stepped may =
          subst (Steps plan lock w e before) (gave before b.log log mid pass took gives)
          (steps plan lock w before of b.log log is.came e what one
          (subst (IsRunOf plan) (sym one) (more_run (outline_of plan) b.log e what is.run (subst (λ p. Enabled (outline_of p) (events_of b.log) e) is.plan_is may))))

      -- and keeps what fits the hand, where it fits
      pub step_fits : (told : HandTold) → Fits plan (start_by before) (λ v. told) b.log (record { event = e; carried = what }) → KeepsFit plan w told before pass
      step_fits told one_fits fits =
          subst (FitsHand plan w told) (gave before b.log log mid pass took gives)
          (steps_fits plan lock w before of b.log log is.came told (record { event = e; carried = what }) one one_fits fits)
