-- What a turn lock says of the module that a worker has open is what the run says.
use Rattle.std.proofs.Common.{◌≡◌, ℕ, ◌<◌, Bool, true, false, nat_eq, List, [], ◌∷◌, ◌++◌, get_or, set, Option, Some, None, refl, arith, sym, ap, subst, ◌∙◌, if◌then◌else◌}
use Rattle.std.proofs.lemmas.Bool.{eqb-true, false≢true}
use Rattle.std.proofs.lemmas.Bool.Decides.{nat_tests}
use Rattle.std.proofs.lemmas.List.{append-nil, append_assoc, get_or-set_other, get_or-set_same}
use Rattle.build_core.specs.declared.event.Event.{Event}
use Rattle.build_core.specs.declared.event.Event.TheVariants as event
use Rattle.build_core.specs.declared.plan.Plan.{Plan}
use Rattle.scripts.specs.declared.deed.Deed.TheVariants as deed
use Rattle.event_core.specs.declared.entry.RunEntry.{RunEntry}
use Rattle.scripts.specs.declared.outline.Outline.{Outline}
use Rattle.scripts.specs.Climbing.{but}
use Rattle.event_core.specs.Enabled.{Enabled, IsEnabled, IsRun}
use Rattle.scripts.specs.Outlines.{is_empty, outline_of}
use Rattle.event_core.specs.Runs.{IsRunOf, events_of, module_by, standing_of_run}
use Rattle.scripts.specs.Scripts.{settled}
use Rattle.event_core.specs.Standing.{Course, Standing, after, after_deed, after_free, course_of, held_by, idle, module_of, on_course, start_of}
use Rattle.event_core.proofs.Fits.{fold_more}
use Rattle.event_core.proofs.Ties.{any_idle, deed_module, free_module, turned_module}
use Rattle.run_law.proofs.Complete.{IsStanding, events_more, standing_after, standing_first}
use Rattle.run_law.proofs.LaterMoments.{next_is}
use Rattle.turn_lock.specs.Turns.{is_of, open_of, opened_by}
use Rattle.board.specs.Logs.{role, role_of}

-- what holds at first and behind each entry more holds behind a run
by_runs : (plan : Plan) (Q : List RunEntry → Type 0) → ((past : List RunEntry) (e : RunEntry) → Q past → Enabled (outline_of plan) (events_of past) e.event → Q (past ++ e ∷ []))
    → (past rest : List RunEntry) → Q past → IsRun (outline_of plan) (events_of past) (events_of rest) → Q (past ++ rest)
by_runs plan Q step past [] holds run = subst Q (sym (append-nil past)) holds
by_runs plan Q step past (e ∷ rest) holds run =
    subst Q (append_assoc past (e ∷ []) rest)
    (by_runs plan Q step (past ++ e ∷ []) rest (step past e holds run.0) (subst (λ es. IsRun (outline_of plan) es (events_of rest)) (sym (events_more past e)) run.1))

-- numbers that don't pass for each other differ
apart : (v w : ℕ) → nat_eq v w ≡ false → w ≡ v → ⊥
apart v w other same = let is : nat_eq v w ≡ true = grind (arith, nat_tests) in false≢true (sym other ∙ is)

-- two ways to the same
either_way : (b : Bool) (x : Option ℕ) → x ≡ (if b then x else x)
either_way true x = refl
either_way false x = refl

-- the module behind an entry of whoever, by what it was
abbrev opens : ℕ → Event → Option ℕ → Option ℕ
opens w e before = if is_of w (role_of e) then opened_by (role_of e) before else before

module _ (o : Outline) (now : Standing) (w : ℕ) (s : IsStanding o now) where
  -- a worker that is at something else
  turned : (v : ℕ) (c : Course) → v < o.workers → module_of (get_or (set now.courses v c) w idle) ≡ (if nat_eq v w then module_of c else module_of (course_of now w))
  turned v c low = by (nat_eq v w) refl
    where
      by : (b : Bool) → nat_eq v w ≡ b → module_of (get_or (set now.courses v c) w idle) ≡ (if b then module_of c else module_of (course_of now w))
      by true e = ap (λ u. module_of (get_or (set now.courses v c) u idle)) (sym (eqb-true v w e)) ∙ ap module_of (get_or-set_same now.courses v c idle (omega (arith, low, s.fit.courses)))
      by false e = ap module_of (get_or-set_other now.courses v w c idle (apart v w e))

  -- one that goes on with its module
  goes_on : (v : ℕ) (c : Course) → module_of c ≡ module_of (course_of now v) → module_of (get_or (set now.courses v c) w idle) ≡ (if nat_eq v w then module_of (course_of now w) else module_of (course_of now w))
  goes_on v c same = turned_module now v w c same ∙ either_way (nat_eq v w) (module_of (course_of now w))

  opened_after : (e : Event) → IsEnabled o now e → module_of (course_of (after o now e) w) ≡ opens w e (module_of (course_of now w))
  unfolding after
  opened_after (event.Start v m) may = turned v (on_course m (settled now.there (is_empty (held_by now v)) (start_of o m)) None) may.0
  opened_after (event.Skip m) may = refl
  opened_after (event.Take v n mode) may = goes_on v (after_deed now.there (get_or (set now.held v (held_by now v ++ n ∷ [])) v []) (deed.Take mode n) None (course_of now v)) (deed_module now.there (get_or (set now.held v (held_by now v ++ n ∷ [])) v []) (deed.Take mode n) None (course_of now v))
  opened_after (event.Free v n) may = goes_on v (after_free o now.there (get_or (set now.held v (but n (held_by now v))) v []) (course_of now v)) (free_module o now.there (get_or (set now.held v (but n (held_by now v))) v []) (course_of now v))
  opened_after (event.Read v f) may = goes_on v (after_deed now.there (held_by now v) (deed.Read f) None (course_of now v)) (deed_module now.there (held_by now v) (deed.Read f) None (course_of now v))
  opened_after (event.Publish v f) may = goes_on v (after_deed (set now.there f true) (held_by now v) (deed.Publish f) None (course_of now v)) (deed_module (set now.there f true) (held_by now v) (deed.Publish f) None (course_of now v))
  opened_after (event.Answer v g) may = goes_on v (after_deed now.there (held_by now v) (deed.Answer g) (Some g) (course_of now v)) (deed_module now.there (held_by now v) (deed.Answer g) (Some g) (course_of now v))
  opened_after (event.End v x) may = turned v idle may.0

module _ (plan : Plan) (w : ℕ) where
  record IsOpened (past : List RunEntry) : Type 0 where
    standing : IsStanding (outline_of plan) (standing_of_run plan past)
    same : open_of role w past ≡ module_by plan past w

  opened_more : (past : List RunEntry) (e : RunEntry) → IsOpened past → Enabled (outline_of plan) (events_of past) e.event → IsOpened (past ++ e ∷ [])
  unfolding Enabled
  opened_more past e is may = record {
    standing = subst (IsStanding (outline_of plan)) (sym (next_is plan 0 past e)) (standing_after (outline_of plan) (standing_of_run plan past) e.event is.standing may);
    same =
        fold_more (λ before (x : RunEntry). if is_of w (role x) then opened_by (role x) before else before) past None e
        ∙ ap (opens w e.event) is.same
        ∙ sym (ap (λ now. module_of (course_of now w)) (next_is plan 0 past e) ∙ opened_after (outline_of plan) (standing_of_run plan past) w is.standing e.event may);
  }

  opened_first : IsOpened []
  opened_first = record { standing = standing_first (outline_of plan); same = sym (ap module_of (any_idle plan.workers w)) }

  -- the module that a worker has open is the one that it builds
  pub open_is : (log : List RunEntry) → IsRunOf plan log → open_of role w log ≡ module_by plan log w
  open_is log run = (by_runs plan IsOpened opened_more [] log opened_first run).same
