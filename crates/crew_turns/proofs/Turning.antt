-- What a turn leaves of a pass: others' entries came, and then none or one of the worker's.
use Rattle.std.proofs.Common.{◌≡◌, ℕ, Bool, true, false, List, [], ◌∷◌, ◌++◌, Option, Some, None, IfSome, slice_get, refl, arith, sym, ap, subst, ◌∙◌}
use Rattle.std.proofs.lemmas.List.{append_assoc}
use Rattle.mvn_shared.specs.Files.{Files}
use Rattle.build_core.specs.declared.event.Event.{Event}
use Rattle.build_core.specs.declared.event.Event.TheVariants as event
use Rattle.build_core.specs.declared.plan.Plan.{Plan}
use Rattle.event_core.specs.declared.entry.Carried.{Carried}
use Rattle.event_core.specs.declared.entry.Carried.TheVariants as carried
use Rattle.event_core.specs.declared.entry.RunEntry.{RunEntry}
use Rattle.event_core.specs.Runs.{IsRunOf, module_by}
use Rattle.event_core.specs.Worlds.{Fits, HandTold, is_told, is_told_by}
use Rattle.atomic_table.specs.Seated.{TableId}
use Rattle.turn_lock.specs.Turns.{Begins, IsKnown, given, with_turn}
use Rattle.board.specs.declared.kept.Opened.{Opened}
use Rattle.board.specs.Logs.{role}
use Rattle.run_law.specs.Hands.{OwnFit}
use Rattle.run_law.proofs.Fitting as fitting
use Rattle.crew_turns.specs.Came.{HasCome, given_back}
use Rattle.crew_turns.specs.Seen.{FitsHand, Follows, IsOf, Sees, Steps, Told, seen_by, start_by, view}
use Rattle.crew_turns.proofs.Logs.{behind}
use Rattle.crew_turns.proofs.Opening.{open_is}

module _ (plan : Plan) (lock : TableId) (w : ℕ) (before : Told) (of : IsOf plan lock w before) where
  -- what came is others'
  pub came : (log : List RunEntry) (fixed : Opened) (workers : ℕ) → IsKnown role log fixed workers (view before) → HasCome w before log
  came log fixed workers known =
      let number = of.whose in
      let some = known.some_worker in
      let own = known.own w (omega (arith, number)) (omega (arith, number, some)) in
      record { others = known.seen.0; apart = behind w (seen_by before) known.seen.0 (sym (ap (Rattle.turn_lock.specs.Turns.entries_of role w) known.seen.1) ∙ own); is = known.seen.1 }

  -- it is this worker's pass still
  pub is_of : (out log : List RunEntry) → IsRunOf plan log → IsOf plan lock w (given_back before out log)
  is_of out log run = record {
    own = of.own;
    quiet = refl;
    whose = of.whose;
    among = of.among;
    opened = of.opened;
    fixed = of.fixed;
    over = of.over;
    sound = of.sound;
    run = run;
    owes = ap (λ k. Rattle.turn_lock.specs.Turns.open_of role k log) of.whose ∙ open_is plan w log run;
  }

  pub follows : (out log rest : List RunEntry) → log ≡ seen_by before ++ rest → Follows before (given_back before out log)
  follows out log rest is = record { lock = refl; quiet = refl; number = refl; reach = refl; weight = refl; workers = refl; fixed = refl; log = (rest, is) }

  module _ (out log : List RunEntry) (has : HasCome w before out) where
    -- a turn without an event
    pub sees : IsRunOf plan out → Sees plan lock w before (given_back before out out)
    sees run = record { of = is_of out out run; follows = follows out out has.others has.is; others = has.others; apart = has.apart; log = has.is }

    -- a turn with one
    pub steps : (e : Event) (what : Carried) → log ≡ out ++ (record { event = e; carried = what }) ∷ [] → IsRunOf plan log → Steps plan lock w e before (given_back before out log)
    steps e what is run = record {
      of = is_of out log run;
      follows = follows out log (has.others ++ (record { event = e; carried = what }) ∷ []) (long ∙ append_assoc (seen_by before) has.others ((record { event = e; carried = what }) ∷ []));
      others = has.others;
      apart = has.apart;
      what = what;
      log = long;
    }
      where
        long : log ≡ seen_by before ++ has.others ++ (record { event = e; carried = what }) ∷ []
        long = is ∙ ap (λ l. l ++ (record { event = e; carried = what }) ∷ []) has.is

    -- what fits the hand stays so
    pub sees_fits : (told : HandTold) → FitsHand plan w told before → FitsHand plan w told (given_back before out out)
    sees_fits told fits = subst (OwnFit plan (start_by before) told w []) (sym has.is) (fitting.others plan (start_by before) told w (seen_by before) has.others fits has.apart)

    -- and so does it with an entry that fits
    pub steps_fits : (told : HandTold) (e : RunEntry) → log ≡ out ++ e ∷ [] → Fits plan (start_by before) (λ v. told) out e → FitsHand plan w told before → FitsHand plan w told (given_back before out log)
    steps_fits told e is one fits =
        subst (OwnFit plan (start_by before) told w []) (sym is)
        (fitting.own plan (start_by before) told w out e (subst (OwnFit plan (start_by before) told w []) (sym has.is) (fitting.others plan (start_by before) told w (seen_by before) has.others fits has.apart)) one)

-- ---- entries that fit whatever the hand tells

-- of what nothing is asked, nothing is asked
pub asks_nothing : {A B : Type 0} (a : Option A) (f : A → Option B) → IfSome a (λ x. IfSome (f x) (λ y. Unit {0}))
asks_nothing None f = tt
asks_nothing (Some x) f = by (f x)
  where
    by : {B : Type 0} (b : Option B) → IfSome b (λ y. Unit {0})
    by None = tt
    by (Some y) = tt

bare_told : (told : Bool) (w n : ℕ) → is_told told (event.Free w n) carried.Nothing ≡ true
bare_told true w n = refl
bare_told false w n = refl

module _ (plan : Plan) (start : Option Files) (told : HandTold) (past : List RunEntry) where
  pub free_fits : (w n : ℕ) → Fits plan start (λ v. told) past (record { event = event.Free w n; carried = carried.Nothing })
  free_fits w n = (bare_told (is_told_by start (λ v. told) (event.Free w n)) w n, asks_nothing (module_by plan past w) (λ number. slice_get plan.modules number))
