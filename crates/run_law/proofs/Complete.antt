-- Runs by one entry more, and that a complete run admits no further event.
use Rattle.std.proofs.Common.{◌≡◌, ℕ, zero, suc, ◌<◌, ◌⊎◌, inl, inr, true, List, [], ◌∷◌, ◌++◌, length, replicate, get_or, set, Option, Some, None, is_some, refl, arith, sym, ap, subst, ◌∙◌}
use Rattle.std.specs.List.{list_all}
use Rattle.std.proofs.lemmas.Bool.{false≢true}
use Rattle.std.proofs.lemmas.List.{append-nil, append_assoc, get_or-set_other, get_or-set_same}
use Rattle.build_core.specs.declared.ending.Ending.{Ending}
use Rattle.build_core.specs.declared.event.Event.{Event}
use Rattle.build_core.specs.declared.event.Event.TheVariants as event
use Rattle.scripts.specs.declared.deed.Deed.{Deed}
use Rattle.scripts.specs.declared.deed.Deed.TheVariants as deed
use Rattle.scripts.specs.declared.outline.Outline.{Outline}
use Rattle.build_core.specs.declared.plan.Plan.{Plan}
use Rattle.event_core.specs.declared.module_steps.Progress.{Progress}
use Rattle.event_core.specs.declared.entry.RunEntry.{RunEntry}
use Rattle.mvn_shared.specs.Files.{Files}
use Rattle.scripts.specs.Climbing.{but}
use Rattle.event_core.specs.Enabled.{Enabled, IsEnabled, IsRun, is_due, may_end_so}
use Rattle.event_core.specs.Fitting.{IsFit, IsTied}
use Rattle.scripts.specs.Outlines.{is_empty, is_listed, outline_of}
use Rattle.event_core.specs.Runs.{events_of}
use Rattle.scripts.specs.Scripts.{settled}
use Rattle.event_core.specs.HowFar.{is_over, is_waiting, progress_of}
use Rattle.event_core.specs.Standing.{Course, Standing, after, after_deed, after_free, at_first, course_of, held_by, idle, is_complete, module_of, off_course, on_course, standing_of, start_of}
use Rattle.event_core.specs.Worlds.{AllFit, Fits, HandTold}
use Rattle.build_core.specs.Locks.{hold}
use Rattle.scripts.proofs.Climbs.{both}
use Rattle.event_core.proofs.Fits.{fit_after, fit_first, one_more, same_or_not}
use Rattle.event_core.proofs.Ties.{deed_module, free_module, tied_after, tied_first, turned_module, waits_still}
use Rattle.event_core.proofs.Weights.{nothing_is}

-- ---- by one more

-- what holds at first and stays by each event that is allowed, holds after every run
pub by_events : (o : Outline) (P : Standing → Type 0) → ((now : Standing) (e : Event) → P now → IsEnabled o now e → P (after o now e)) → (past events : List Event) → P (standing_of o past) → IsRun o past events → P (standing_of o (past ++ events))
unfolding Enabled
by_events o P step past [] holds run = subst (λ es. P (standing_of o es)) (sym (append-nil past)) holds
by_events o P step past (e ∷ events) holds run =
    subst (λ es. P (standing_of o es)) (append_assoc past (e ∷ []) events)
    (by_events o P step (past ++ e ∷ []) events (subst P (sym (one_more o past e)) (step (standing_of o past) e holds run.0)) run.1)

-- the events of one entry more
pub events_more : (past : List RunEntry) (e : RunEntry) → events_of (past ++ e ∷ []) ≡ events_of past ++ e.event ∷ []
events_more [] e = refl
events_more (p ∷ past) e = ap (λ es. p.event ∷ es) (events_more past e)

-- the same of entries that fit, by what holds of all the entries so far
pub by_entries : (plan : Plan) (start : Files) (hands : ℕ → HandTold) (Q : List RunEntry → Type 0)
    → ((past : List RunEntry) (e : RunEntry) → Q past → Enabled (outline_of plan) (events_of past) e.event → Fits plan (Some start) hands past e → Q (past ++ e ∷ []))
    → (past rest : List RunEntry) → Q past → IsRun (outline_of plan) (events_of past) (events_of rest) → AllFit plan (Some start) hands past rest → Q (past ++ rest)
by_entries plan start hands Q step past [] holds run fits = subst Q (sym (append-nil past)) holds
by_entries plan start hands Q step past (e ∷ rest) holds run fits =
    subst Q (append_assoc past (e ∷ []) rest)
    (by_entries plan start hands Q step (past ++ e ∷ []) rest (step past e holds run.0 fits.0) (subst (λ es. IsRun (outline_of plan) es (events_of rest)) (sym (events_more past e)) run.1) fits.1)

-- ---- idle workers hold nothing

abbrev pub AreIdleFree : Standing → Type 0
AreIdleFree now = (w : ℕ) → module_of (course_of now w) ≡ None → held_by now w ≡ []

pub record IsStanding (o : Outline) (now : Standing) : Type 0 where
  pub fit : IsFit o now
  pub tied : IsTied o now
  pub free : AreIdleFree now

-- a deed is due for a worker that is at a module alone
pub at_work : (c : Course) (d : Deed) → is_due c d ≡ true → module_of c ≡ None → ⊥
at_work idle d is none = false≢true is
at_work (on_course m script last) d is none = nothing_is m (sym none)
at_work (off_course m file gathered) d is none = nothing_is m (sym none)

-- at first nobody holds a name
none_free : (n w : ℕ) → ◌≡◌ {A = List ℕ} (get_or (replicate n []) w []) []
none_free zero w = refl
none_free (suc n) zero = refl
none_free (suc n) (suc w) = none_free n w

-- so idle workers hold none
free_first : (o : Outline) → AreIdleFree (at_first o)
free_first o w none = none_free o.workers w

abbrev begun : Outline → Standing → ℕ → ℕ → Course
begun o now w m = on_course m (settled now.there (is_empty (held_by now w)) (start_of o m)) None

module _ (o : Outline) (now : Standing) (w : ℕ) (free : AreIdleFree now) where
  -- where the worker's module stays, and the names of the others
  kept_free : (course : Course) → module_of course ≡ module_of (course_of now w) → (v : ℕ) → module_of (get_or (set now.courses w course) v idle) ≡ None → held_by now v ≡ []
  kept_free course same v none = free v (sym (turned_module now w v course same) ∙ none)

  -- where it changes what it holds, it is at work
  moved_free : (course : Course) (names : List ℕ) → module_of course ≡ module_of (course_of now w) → (module_of (course_of now w) ≡ None → ⊥) → (v : ℕ) → module_of (get_or (set now.courses w course) v idle) ≡ None → get_or (set now.held w names) v [] ≡ []
  moved_free course names same busy v none = by (same_or_not v w)
    where
      before : module_of (course_of now v) ≡ None
      before = sym (turned_module now w v course same) ∙ none

      by : (v ≡ w) ⊎ ((v ≡ w) → ⊥) → get_or (set now.held w names) v [] ≡ []
      by (inl e) = absurd (busy (subst (λ u. module_of (course_of now u) ≡ None) e before))
      by (inr other) = get_or-set_other now.held w v names [] other ∙ free v before

-- a worker without a module holds no name
not_held : (now : Standing) (o : Outline) (w n : ℕ) → IsFit o now → AreIdleFree now → w < o.workers → is_some (hold now.locks n w) ≡ true → module_of (course_of now w) ≡ None → ⊥
not_held now o w n fit free low some none = false≢true (ap (is_listed n) (sym (free w none)) ∙ fit.listed w n low some)

-- idle workers hold none behind each event
free_after : (o : Outline) (now : Standing) (e : Event) → IsFit o now → AreIdleFree now → IsEnabled o now e → AreIdleFree (after o now e)
unfolding after
free_after o now (event.Start w m) fit free is = λ v none. by v none (same_or_not v w)
  where
    by : (v : ℕ) → module_of (get_or (set now.courses w (begun o now w m)) v idle) ≡ None → (v ≡ w) ⊎ ((v ≡ w) → ⊥) → held_by now v ≡ []
    by v none (inl e) = absurd (nothing_is m (sym none ∙ ap (λ u. module_of (get_or (set now.courses w (begun o now w m)) u idle)) e ∙ ap module_of (get_or-set_same now.courses w (begun o now w m) idle (omega (arith, is.0, fit.courses)))))
    by v none (inr other) = free v (sym (ap module_of (get_or-set_other now.courses w v (begun o now w m) idle other)) ∙ none)
free_after o now (event.Skip m) fit free is = free
free_after o now (event.Take w n mode) fit free is =
    moved_free o now w free (after_deed now.there (get_or (set now.held w (held_by now w ++ n ∷ [])) w []) (deed.Take mode n) None (course_of now w)) (held_by now w ++ n ∷ [])
    (deed_module now.there (get_or (set now.held w (held_by now w ++ n ∷ [])) w []) (deed.Take mode n) None (course_of now w)) (at_work (course_of now w) (deed.Take mode n) is.4)
free_after o now (event.Free w n) fit free is =
    moved_free o now w free (after_free o now.there (get_or (set now.held w (but n (held_by now w))) w []) (course_of now w)) (but n (held_by now w))
    (free_module o now.there (get_or (set now.held w (but n (held_by now w))) w []) (course_of now w)) (not_held now o w n fit free is.0 is.2)
free_after o now (event.Read w f) fit free is = kept_free o now w free (after_deed now.there (held_by now w) (deed.Read f) None (course_of now w)) (deed_module now.there (held_by now w) (deed.Read f) None (course_of now w))
free_after o now (event.Publish w f) fit free is = kept_free o now w free (after_deed (set now.there f true) (held_by now w) (deed.Publish f) None (course_of now w)) (deed_module (set now.there f true) (held_by now w) (deed.Publish f) None (course_of now w))
free_after o now (event.Answer w g) fit free is = kept_free o now w free (after_deed now.there (held_by now w) (deed.Answer g) (Some g) (course_of now w)) (deed_module now.there (held_by now w) (deed.Answer g) (Some g) (course_of now w))
free_after o now (event.End w e) fit free is = λ v none. by v none (same_or_not v w)
  where
    by : (v : ℕ) → module_of (get_or (set now.courses w idle) v idle) ≡ None → (v ≡ w) ⊎ ((v ≡ w) → ⊥) → held_by now v ≡ []
    by v none (inl same) = subst (λ u. held_by now u ≡ []) (sym same) is.2
    by v none (inr other) = free v (sym (ap module_of (get_or-set_other now.courses w v idle idle other)) ∙ none)

-- all of it holds where nothing has happened
pub standing_first : (o : Outline) → IsStanding o (at_first o)
standing_first o = record { fit = fit_first o; tied = tied_first o; free = free_first o }

-- and stays behind each event
pub standing_after : (o : Outline) (now : Standing) (e : Event) → IsStanding o now → IsEnabled o now e → IsStanding o (after o now e)
standing_after o now e s is = record { fit = fit_after o now e s.fit is; tied = tied_after o now e s.fit s.tied is; free = free_after o now e s.fit s.free is }

-- so it holds behind every run
pub standing : (o : Outline) (events : List Event) → IsRun o [] events → IsStanding o (standing_of o events)
standing o events run = by_events o (IsStanding o) (λ now e s is. standing_after o now e s is) [] events (standing_first o) run

-- ---- complete runs

-- where all is over, each module is
pub all_over : (ps : List Progress) (m : ℕ) → list_all is_over ps ≡ true → m < length ps → is_over (progress_of ps m) ≡ true
all_over [] m over low = absurd (omega (arith, low))
all_over (p ∷ ps) zero over low = (both (is_over p) (list_all is_over ps) over).0
all_over (p ∷ ps) (suc m) over low = all_over ps m (both (is_over p) (list_all is_over ps) over).1 (omega (arith, low))

module _ (o : Outline) (now : Standing) (s : IsStanding o now) (over : is_complete now ≡ true) where
  -- where all is over no worker is at a module
  none_runs : (w m : ℕ) → module_of (course_of now w) ≡ Some m → ⊥
  none_runs w m at =
      let low : m < length now.progress = omega (arith, s.tied.real w m at, s.fit.modules) in
      false≢true (sym (ap is_over (s.tied.busy w m at)) ∙ all_over now.progress m over low)

  -- so each is idle
  all_idle : (w : ℕ) → module_of (course_of now w) ≡ None
  all_idle w = by (module_of (course_of now w)) refl
    where
      by : (at : Option ℕ) → module_of (course_of now w) ≡ at → module_of (course_of now w) ≡ None
      by None e = e
      by (Some m) e = absurd (none_runs w m e)

  -- and no module waits
  none_waits : (m : ℕ) → m < length o.modules → is_waiting (progress_of now.progress m) ≡ true → ⊥
  none_waits m low waits = false≢true (sym (waits_still (progress_of now.progress m) waits) ∙ all_over now.progress m over (omega (arith, low, s.fit.modules)))

  -- an idle worker has nothing to end
  ends_idle : (c : Course) (e : Ending) → module_of c ≡ None → may_end_so o c e ≡ true → ⊥
  ends_idle idle e none is = false≢true is
  ends_idle (on_course m script last) e none is = nothing_is m (sym none)
  ends_idle (off_course m file gathered) e none is = nothing_is m (sym none)

  -- so no event may come
  pub no_further : (e : Event) → IsEnabled o now e → ⊥
  no_further (event.Start w m) is = none_waits m is.1 is.2
  no_further (event.Skip m) is = none_waits m is.0 is.1
  no_further (event.Take w n mode) is = at_work (course_of now w) (deed.Take mode n) is.4 (all_idle w)
  no_further (event.Free w n) is = not_held now o w n s.fit s.free is.0 is.2 (all_idle w)
  no_further (event.Read w f) is = at_work (course_of now w) (deed.Read f) is.2 (all_idle w)
  no_further (event.Publish w f) is = at_work (course_of now w) (deed.Publish f) is.2 (all_idle w)
  no_further (event.Answer w g) is = at_work (course_of now w) (deed.Answer g) is.2 (all_idle w)
  no_further (event.End w e) is = ends_idle (course_of now w) e (all_idle w) is.3

-- a run that is complete is all of any run that it begins
pub complete_is_all : (o : Outline) (past events : List Event) → IsRun o [] past → is_complete (standing_of o past) ≡ true → IsRun o past events → events ≡ []
unfolding Enabled
complete_is_all o past [] run over more = refl
complete_is_all o past (e ∷ events) run over more = absurd (no_further o (standing_of o past) (standing o past run) over e more.0)
