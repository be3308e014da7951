-- Where a worker stands behind a name that it took, and behind one that it freed.
use Rattle.std.proofs.Common.{◌≡◌, ℕ, ◌<◌, List, [], ◌∷◌, ◌++◌, get_or, set, None, arith, sym, ap, subst, ◌∙◌}
use Rattle.std.proofs.lemmas.List.{get_or-set_same}
use Rattle.build_core.specs.declared.mode.Mode.{Mode}
use Rattle.build_core.specs.declared.event.Event.{Event}
use Rattle.build_core.specs.declared.event.Event.TheVariants as event
use Rattle.build_core.specs.declared.plan.Plan.{Plan}
use Rattle.scripts.specs.declared.deed.Deed.TheVariants as deed
use Rattle.event_core.specs.declared.entry.Carried.{Carried}
use Rattle.event_core.specs.declared.entry.RunEntry.{RunEntry}
use Rattle.scripts.specs.declared.outline.Outline.{Outline}
use Rattle.scripts.specs.Climbing.{but}
use Rattle.event_core.specs.Enabled.{Enabled}
use Rattle.event_core.specs.Fitting.{IsFit}
use Rattle.scripts.specs.Outlines.{outline_of}
use Rattle.event_core.specs.Runs.{IsRunOf, events_of, standing_of_run}
use Rattle.event_core.specs.Standing.{Course, Standing, after, after_deed, after_free, course_of, held_by, idle}
use Rattle.run_law.proofs.Complete.{standing}
use Rattle.run_law.proofs.LaterMoments.{front, next_is}
use Rattle.run_law.specs.Others.{AreOthers}
use Rattle.run_law.proofs.Staying.{course_stays, held_stays}
use Rattle.atomic_table.specs.Seated.{TableId}
use Rattle.crew_turns.specs.Seen.{Steps, Told, course_by, names_by, seen_by}

-- a worker held these names and was at this, and took a name; and freed one
abbrev pub Took : List ℕ → Course → (w n : ℕ) → Mode → Standing → Type 0
Took names course w n mode next = (course_of next w ≡ after_deed next.there (names ++ n ∷ []) (deed.Take mode n) None course) × (held_by next w ≡ names ++ n ∷ [])

abbrev pub Freed : Outline → List ℕ → Course → (w n : ℕ) → Standing → Type 0
Freed o names course w n next = (course_of next w ≡ after_free o next.there (but n names) course) × (held_by next w ≡ but n names)

module _ (o : Outline) (now : Standing) (w n : ℕ) (fit : IsFit o now) (low : w < o.workers) where
  took : (mode : Mode) → Took (held_by now w) (course_of now w) w n mode (after o now (event.Take w n mode))
  unfolding after
  took mode =
      let rows = fit.rows in
      let courses = fit.courses in
      let held : get_or (set now.held w (held_by now w ++ n ∷ [])) w [] ≡ held_by now w ++ n ∷ [] = get_or-set_same now.held w (held_by now w ++ n ∷ []) [] (omega (arith, low, rows)) in (
        get_or-set_same now.courses w (after_deed now.there (get_or (set now.held w (held_by now w ++ n ∷ [])) w []) (deed.Take mode n) None (course_of now w)) idle (omega (arith, low, courses))
            ∙ ap (λ (ns : List ℕ). after_deed now.there ns (deed.Take mode n) None (course_of now w)) held,
        held,
      )

  freed : Freed o (held_by now w) (course_of now w) w n (after o now (event.Free w n))
  unfolding after
  freed =
      let rows = fit.rows in
      let courses = fit.courses in
      let held : get_or (set now.held w (but n (held_by now w))) w [] ≡ but n (held_by now w) = get_or-set_same now.held w (but n (held_by now w)) [] (omega (arith, low, rows)) in (
        get_or-set_same now.courses w (after_free o now.there (get_or (set now.held w (but n (held_by now w))) w []) (course_of now w)) idle (omega (arith, low, courses))
            ∙ ap (λ (ns : List ℕ). after_free o now.there ns (course_of now w)) held,
        held,
      )

-- behind others' entries and then that one
module _ (plan : Plan) (past others : List RunEntry) (w n : ℕ) (apart : AreOthers w others) (what : Carried) where
  abbrev o : Outline
  o = outline_of plan

  abbrev out : List RunEntry
  out = past ++ others

  abbrev with_entry : Event → List RunEntry
  with_entry e = out ++ (record { event = e; carried = what }) ∷ []

  -- others leave what it held and was at
  by_others : (Q : List ℕ → Course → Type 0) → Q (held_by (standing_of_run plan out) w) (course_of (standing_of_run plan out) w) → Q (held_by (standing_of_run plan past) w) (course_of (standing_of_run plan past) w)
  by_others Q here =
      subst (λ c. Q (held_by (standing_of_run plan past) w) c) (course_stays plan past others w apart)
      (subst (λ ns. Q ns (course_of (standing_of_run plan out) w)) (held_stays plan past others w apart) here)

  pub log_took : (mode : Mode) → IsRunOf plan (with_entry (event.Take w n mode)) → Took (held_by (standing_of_run plan past) w) (course_of (standing_of_run plan past) w) w n mode (standing_of_run plan (with_entry (event.Take w n mode)))
  unfolding Enabled
  log_took mode run =
      let e : RunEntry = record { event = event.Take w n mode; carried = what } in
      let parts = front plan out (e ∷ []) run in
      by_others (λ ns c. Took ns c w n mode (standing_of_run plan (with_entry (event.Take w n mode))))
      (subst (Took (held_by (standing_of_run plan out) w) (course_of (standing_of_run plan out) w) w n mode) (sym (next_is plan 0 out e))
      (took o (standing_of_run plan out) w n (standing o (events_of out) parts.0).fit parts.1.0.0 mode))

  pub log_freed : IsRunOf plan (with_entry (event.Free w n)) → Freed o (held_by (standing_of_run plan past) w) (course_of (standing_of_run plan past) w) w n (standing_of_run plan (with_entry (event.Free w n)))
  unfolding Enabled
  log_freed run =
      let e : RunEntry = record { event = event.Free w n; carried = what } in
      let parts = front plan out (e ∷ []) run in
      by_others (λ ns c. Freed o ns c w n (standing_of_run plan (with_entry (event.Free w n))))
      (subst (Freed o (held_by (standing_of_run plan out) w) (course_of (standing_of_run plan out) w) w n) (sym (next_is plan 0 out e))
      (freed o (standing_of_run plan out) w n (standing o (events_of out) parts.0).fit parts.1.0.0))

-- the same of a pass
module _ (plan : Plan) (lock : TableId) (w n : ℕ) (before pass : Told) where
  pub step_took : (mode : Mode) → Steps plan lock w (event.Take w n mode) before pass → Took (names_by plan w before) (course_by plan w before) w n mode (standing_of_run plan (seen_by pass))
  step_took mode s =
      subst (λ log. Took (names_by plan w before) (course_by plan w before) w n mode (standing_of_run plan log)) (sym s.log)
      (log_took plan (seen_by before) s.others w n s.apart s.what mode (subst (IsRunOf plan) s.log s.of.run))

  pub step_freed : Steps plan lock w (event.Free w n) before pass → Freed (outline_of plan) (names_by plan w before) (course_by plan w before) w n (standing_of_run plan (seen_by pass))
  step_freed s =
      subst (λ log. Freed (outline_of plan) (names_by plan w before) (course_by plan w before) w n (standing_of_run plan log)) (sym s.log)
      (log_freed plan (seen_by before) s.others w n s.apart s.what (subst (IsRunOf plan) s.log s.of.run))
