-- Hands that no worker has may tell what they like.
use Rattle.std.proofs.Common.{◌≡◌, ℕ, ◌<◌, Bool, true, false, nat_lt, IfSome, List, [], ◌∷◌, ◌++◌, slice_get, Option, Some, None, unwrap_or, refl, sym, ap, subst, if◌then◌else◌}
use Rattle.std.specs.Option.{option_map_or}
use Rattle.std.proofs.lemmas.Bool.{lt-ltb, ltb-true}
use Rattle.build_core.specs.declared.event.Event.{Event}
use Rattle.build_core.specs.declared.event.Event.TheVariants as event
use Rattle.scripts.specs.declared.outline.Outline.{Outline}
use Rattle.event_core.specs.declared.entry.RunEntry.{RunEntry}
use Rattle.event_core.specs.Causes.{stage_at}
use Rattle.event_core.specs.Enabled.{Enabled, IsEnabled, IsRun}
use Rattle.run_law.specs.Given.{AllTell, Given, IsFitting}
use Rattle.scripts.specs.Outlines.{outline_of}
use Rattle.event_core.specs.Runs.{events_of, module_by, standing_of_run}
use Rattle.event_core.specs.Standing.{Standing, course_of, standing_of}
use Rattle.event_core.specs.Worlds.{AllFit, Fits, FitsBehind, FitsModule, HandTold, is_told, stood, worker_of}
use Rattle.run_law.proofs.Complete.{events_more}
use Rattle.event_core.proofs.Weights.{nothing_is}

-- options with equal values have equal values
some_is : (a b : ℕ) → ◌≡◌ {A = Option ℕ} (Some a) (Some b) → a ≡ b
some_is a b e = ap (λ o. unwrap_or o 0) e

-- the worker of an event that may come is one of the plan's
worker_low : (o : Outline) (now : Standing) (e : Event) (w : ℕ) → IsEnabled o now e → worker_of e ≡ Some w → w < o.workers
worker_low o now (event.Start v m) w is e = subst (λ x. x < o.workers) (some_is v w e) is.0
worker_low o now (event.Skip m) w is e = absurd (nothing_is w e)
worker_low o now (event.Take v n mode) w is e = subst (λ x. x < o.workers) (some_is v w e) is.0
worker_low o now (event.Free v n) w is e = subst (λ x. x < o.workers) (some_is v w e) is.0
worker_low o now (event.Read v f) w is e = subst (λ x. x < o.workers) (some_is v w e) is.0
worker_low o now (event.Publish v f) w is e = subst (λ x. x < o.workers) (some_is v w e) is.0
worker_low o now (event.Answer v g) w is e = subst (λ x. x < o.workers) (some_is v w e) is.0
worker_low o now (event.End v x) w is e = subst (λ x. x < o.workers) (some_is v w e) is.0

module _ (g : Given) where
  -- the hands of the plan's workers, and others that tell all
  abbrev pub told : ℕ → HandTold
  told w = if nat_lt w g.plan.workers then g.hands w else record { remote = Some g.remote; area = true; gate = None }

  -- these hands all tell
  pub all_told : AllTell g → (w : ℕ) → ((told w).area ≡ true) × ((told w).remote ≡ Some g.remote)
  all_told tell w = by (nat_lt w g.plan.workers) refl
    where
      by : (b : Bool) → nat_lt w g.plan.workers ≡ b → ((told w).area ≡ true) × ((told w).remote ≡ Some g.remote)
      by true e = let t = tell w (is_low e) in rw e t
        where
          is_low : nat_lt w g.plan.workers ≡ true → w < g.plan.workers
          is_low e = ltb-true w g.plan.workers e
      by false e = rw e (refl, refl)

  -- a worker's hand is its own
  same_hand : (w : ℕ) → w < g.plan.workers → g.hands w ≡ told w
  same_hand w low = sym (ap (λ b. if b then g.hands w else record { remote = Some g.remote; area = true; gate = None }) (lt-ltb w g.plan.workers low))

  -- so what fits by the one fits by the others
  fits_told : (past : List RunEntry) (e : RunEntry) → Enabled (outline_of g.plan) (events_of past) e.event → Fits g.plan (Some g.start) g.hands past e → Fits g.plan (Some g.start) told past e
  unfolding Enabled
  fits_told past e is fits = by (worker_of e.event) (λ w whose. same_hand w (worker_low (outline_of g.plan) (standing_of (outline_of g.plan) (events_of past)) e.event w is whose)) fits
    where
      by : (found : Option ℕ) → ((w : ℕ) → found ≡ Some w → g.hands w ≡ told w)
          → (is_told (option_map_or (λ w. (g.hands w).area) found false) e.event e.carried ≡ true) × FitsBehind g.plan (Some g.start) g.hands past e found
          → (is_told (option_map_or (λ w. (told w).area) found false) e.event e.carried ≡ true) × FitsBehind g.plan (Some g.start) told past e found
      by None same x = x
      by (Some w) same x = (
        subst (λ (h : HandTold). is_told h.area e.event e.carried ≡ true) (same w refl) x.0,
        subst (λ h. IfSome (module_by g.plan past w) (λ number. IfSome (slice_get g.plan.modules number) (λ m. FitsModule (stood g.plan (Some g.start) past number m) h (stage_at (course_of (standing_of_run g.plan past) w)) e.event e.carried))) (same w refl) x.1,
      )

  -- so does each entry of a run
  told_from : (past run : List RunEntry) → IsRun (outline_of g.plan) (events_of past) (events_of run) → AllFit g.plan (Some g.start) g.hands past run → AllFit g.plan (Some g.start) told past run
  told_from past [] is fits = tt
  told_from past (e ∷ run) is fits = (fits_told past e is.0 fits.0, told_from (past ++ e ∷ []) run (subst (λ es. IsRun (outline_of g.plan) es (events_of run)) (sym (events_more past e)) is.1) fits.1)

  -- so does a whole run
  pub fits_all : (run : List RunEntry) → IsFitting g run → AllFit g.plan (Some g.start) told [] run
  fits_all run fitting = told_from [] run fitting.follows fitting.fits
