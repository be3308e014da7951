-- A worker that builds the module that it built before has ended none since.
use Rattle.std.proofs.Common.{◌≡◌, ℕ, Bool, true, false, ◌⊎◌, inl, inr, nat_eq, List, [], ◌∷◌, ◌++◌, Option, Some, None, if◌then◌else◌, refl, arith, sym, ap, subst, ◌∙◌}
use Rattle.std.proofs.lemmas.Bool.{eqb-true, false≢true}
use Rattle.std.proofs.lemmas.List.{append-nil, append_assoc, get_or-set_same}
use Rattle.build_core.specs.declared.ending.Ending.{Ending}
use Rattle.build_core.specs.declared.event.Event.{Event}
use Rattle.build_core.specs.declared.event.Event.TheVariants as event
use Rattle.build_core.specs.declared.plan.Plan.{Plan}
use Rattle.event_core.specs.declared.entry.RunEntry.{RunEntry}
use Rattle.scripts.specs.declared.outline.Outline.{Outline}
use Rattle.event_core.specs.declared.module_steps.Progress.TheVariants.{Waiting, Ended}
use Rattle.event_core.specs.Enabled.{Enabled, IsEnabled}
use Rattle.scripts.specs.Outlines.{outline_of}
use Rattle.event_core.specs.Runs.{IsRunOf, events_of, module_by, standing_of_run}
use Rattle.event_core.specs.HowFar.{is_over, progress_of}
use Rattle.event_core.specs.Standing.{Standing, after, course_of, ended, module_of}
use Rattle.event_core.proofs.Fits.{fold_more}
use Rattle.event_core.proofs.Weights.{nothing_is}
use Rattle.run_law.proofs.Complete.{IsStanding, standing}
use Rattle.run_law.proofs.LaterMoments.{front, keeps, next_is}
use Rattle.turn_lock.specs.Turns.{is_of, opened_by}
use Rattle.board.specs.Logs.{role, role_of}
use Rattle.crew_turns.proofs.Opening.{open_is}
use Rattle.crew_turns.specs.Endings.{ending_of, endings_of}
use Rattle.crew_turns.proofs.Counting.{endings_append}

-- two ways to the same
either_way : (b : Bool) (x : Option ℕ) → (if b then x else x) ≡ x
either_way true x = refl
either_way false x = refl

-- the endings of an entry more, which is one, and which isn't
one : (w : ℕ) (e : RunEntry) (x : Ending) → ending_of w e.event ≡ Some x → endings_of w (e ∷ []) ≡ x ∷ []
one w e x is = rw is refl

none : (w : ℕ) (e : RunEntry) → ending_of w e.event ≡ None → endings_of w (e ∷ []) ≡ []
none w e is = rw is refl

pub one_more : (w : ℕ) (past : List RunEntry) (e : RunEntry) (x : Ending) → ending_of w e.event ≡ Some x → endings_of w (past ++ e ∷ []) ≡ endings_of w past ++ x ∷ []
one_more w past e x is = endings_append w past (e ∷ []) ∙ ap (λ es. endings_of w past ++ es) (one w e x is)

none_more : (w : ℕ) (past : List RunEntry) (e : RunEntry) → ending_of w e.event ≡ None → endings_of w (past ++ e ∷ []) ≡ endings_of w past
none_more w past e is = endings_append w past (e ∷ []) ∙ ap (λ es. endings_of w past ++ es) (none w e is) ∙ append-nil (endings_of w past)

-- a module that ends is over
over_end : (now : Standing) (o : Outline) (v m : ℕ) (x : Ending) → IsStanding o now → module_of (course_of now v) ≡ Some m → is_over (progress_of (after o now (event.End v x)).progress m) ≡ true
unfolding after
over_end now o v m x s at =
    let low = s.tied.real v m at in
    let long = s.fit.modules in
    subst (λ found. is_over (progress_of (ended found x now.progress) m) ≡ true) (sym at)
    (ap is_over (get_or-set_same now.progress m (Ended x) Waiting (omega (arith, low, long))))

module _ (plan : Plan) (w number : ℕ) where
  abbrev o : Outline
  o = outline_of plan

  -- the module that a worker builds behind an entry more
  abbrev opens : Event → Option ℕ
  opens x = if is_of w (role_of x) then opened_by (role_of x) (Some number) else Some number

  pub opened_more : (past : List RunEntry) (e : RunEntry) → IsRunOf plan (past ++ e ∷ []) → module_by plan past w ≡ Some number → module_by plan (past ++ e ∷ []) w ≡ opens e.event
  opened_more past e run whose =
      sym (open_is plan w (past ++ e ∷ []) run)
      ∙ fold_more (λ before (x : RunEntry). if is_of w (role x) then opened_by (role x) before else before) past None e
      ∙ ap (λ (before : Option ℕ). if is_of w (role e) then opened_by (role e) before else before) (open_is plan w past (front plan past (e ∷ []) run).0 ∙ whose)

  -- it goes on with its module and ends none, or its module is over
  abbrev GoesOn : Event → Option ℕ → Standing → Type 0
  GoesOn x found next = ((ending_of w x ≡ None) × (found ≡ Some number)) ⊎ (is_over (progress_of next.progress number) ≡ true)

  goes_on : (now : Standing) (x : Event) → IsStanding o now → module_of (course_of now w) ≡ Some number → IsEnabled o now x → (found : Option ℕ) → found ≡ opens x → GoesOn x found (after o now x)
  goes_on now (event.Start v m) s whose may found is = by (nat_eq v w) refl is
    where
      by : (b : Bool) → nat_eq v w ≡ b → found ≡ (if b then Some m else Some number) → GoesOn (event.Start v m) found (after o now (event.Start v m))
      by true same e = absurd (nothing_is number (sym (subst (λ u. module_of (course_of now u) ≡ None) (eqb-true v w same) may.4) ∙ whose))
      by false same e = inl (refl, e)
  goes_on now (event.Skip m) s whose may found is = inl (refl, is)
  goes_on now (event.Take v n mode) s whose may found is = inl (refl, is ∙ either_way (nat_eq v w) (Some number))
  goes_on now (event.Free v n) s whose may found is = inl (refl, is ∙ either_way (nat_eq v w) (Some number))
  goes_on now (event.Read v f) s whose may found is = inl (refl, is ∙ either_way (nat_eq v w) (Some number))
  goes_on now (event.Publish v f) s whose may found is = inl (refl, is ∙ either_way (nat_eq v w) (Some number))
  goes_on now (event.Answer v g) s whose may found is = inl (refl, is ∙ either_way (nat_eq v w) (Some number))
  goes_on now (event.End v x) s whose may found is = by (nat_eq v w) refl is
    where
      by : (b : Bool) → nat_eq v w ≡ b → found ≡ (if b then None else Some number) → GoesOn (event.End v x) found (after o now (event.End v x))
      by true same e = inr (over_end now o v number x s (subst (λ u. module_of (course_of now u) ≡ Some number) (sym (eqb-true v w same)) whose))
      by false same e = inl (ap (λ b. if b then Some x else None) same, e)

  -- who builds a module still has ended none since
  pub ended_none : (past rest : List RunEntry) → IsRunOf plan (past ++ rest) → module_by plan past w ≡ Some number → module_by plan (past ++ rest) w ≡ Some number → endings_of w (past ++ rest) ≡ endings_of w past
  unfolding Enabled
  ended_none past [] run before still = ap (endings_of w) (append-nil past)
  ended_none past (e ∷ rest) run before still =
      let whole = append_assoc past (e ∷ []) rest in
      let longer : IsRunOf plan ((past ++ e ∷ []) ++ rest) = subst (IsRunOf plan) (sym whole) run in
      let parts = front plan (past ++ e ∷ []) rest longer in
      let one = front plan past (e ∷ []) parts.0 in
      let last : module_by plan ((past ++ e ∷ []) ++ rest) w ≡ Some number = subst (λ log. module_by plan log w ≡ Some number) (sym whole) still in
      let s = standing o (events_of past) one.0 in
      let way = goes_on (standing_of_run plan past) e.event s before one.1.0 (module_by plan (past ++ e ∷ []) w) (opened_more past e parts.0 before) in
      ap (endings_of w) (sym whole) ∙ by longer last (ended_none (past ++ e ∷ []) rest longer) way
    where
      by : IsRunOf plan ((past ++ e ∷ []) ++ rest) → module_by plan ((past ++ e ∷ []) ++ rest) w ≡ Some number
          → (module_by plan (past ++ e ∷ []) w ≡ Some number → module_by plan ((past ++ e ∷ []) ++ rest) w ≡ Some number → endings_of w ((past ++ e ∷ []) ++ rest) ≡ endings_of w (past ++ e ∷ []))
          → GoesOn e.event (module_by plan (past ++ e ∷ []) w) (after o (standing_of_run plan past) e.event)
          → endings_of w ((past ++ e ∷ []) ++ rest) ≡ endings_of w past
      by longer last again (inl on) = again on.1 last ∙ none_more w past e on.0
      by longer last again (inr over) =
          let parts = front plan (past ++ e ∷ []) rest longer in
          let here : is_over (progress_of (standing_of_run plan (past ++ e ∷ [])).progress number) ≡ true = subst (λ (now : Standing). is_over (progress_of now.progress number) ≡ true) (sym (next_is plan 0 past e)) over in
          let later = ap is_over (keeps plan number (past ++ e ∷ []) rest parts.0 parts.1 here).0 ∙ here in
          absurd (false≢true (sym (ap is_over ((standing o (events_of ((past ++ e ∷ []) ++ rest)) longer).tied.busy w number last)) ∙ later))
