-- Each name is published once.
use Rattle.std.proofs.Common.{◌≡◌, ℕ, ◌⊎◌, inl, inr, Bool, true, false, ◌||◌, nat_eq, List, [], ◌∷◌, ◌++◌, length, map, get_or, set, slice_get, Option, Some, None, is_some, refl, arith, sym, ap, subst, ◌∙◌}
use Rattle.std.specs.List.{list_any}
use Rattle.std.specs.Option.{option_map_or}
use Rattle.std.proofs.lemmas.Bool.{eqb-true, false≢true}
use Rattle.std.proofs.lemmas.List.{append-nil, append_assoc, get_or-set_other, get_or-set_same, length-set}
use Rattle.scripts.specs.declared.deed.Deed.{Deed}
use Rattle.scripts.specs.declared.deed.Deed.TheVariants as deed
use Rattle.build_core.specs.declared.ending.Ending.{Ending}
use Rattle.build_core.specs.declared.event.Event.{Event}
use Rattle.build_core.specs.declared.event.Event.TheVariants as event
use Rattle.scripts.specs.declared.outline.Outline.{Outline}
use Rattle.build_core.specs.declared.plan.OwnFile.{OwnFile}
use Rattle.build_core.specs.declared.plan.Plan.{Plan}
use Rattle.build_core.specs.declared.plan.PlanModule.{PlanModule}
use Rattle.event_core.specs.declared.module_steps.Progress.{Progress}
use Rattle.event_core.specs.declared.module_steps.Progress.TheVariants.{Running, Skipped, Ended}
use Rattle.event_core.specs.declared.entry.RunEntry.{RunEntry}
use Rattle.scripts.specs.Climbing.{but}
use Rattle.event_core.specs.Enabled.{Enabled, IsEnabled, IsRun, is_due}
use Rattle.run_law.proofs.Invariants.{files_fit}
use Rattle.scripts.specs.Outlines.{is_empty, is_listed, module_outline, outline_of}
use Rattle.event_core.specs.Runs.{IsRunOf, events_of}
use Rattle.scripts.specs.Scripts.{Script, done, is_gathered, is_there, script_of, settled, wanted, whole}
use Rattle.event_core.specs.SoundPlans.{IsSoundPlan, is_own}
use Rattle.event_core.specs.HowFar.{is_waiting, progress_of}
use Rattle.event_core.specs.Standing.{Course, Standing, after, after_deed, after_free, at_first, course_of, ended, goals_of, held_by, idle, module_of, off_course, on_course, standing_of, start_of}
use Rattle.event_core.specs.Worlds.{publishes}
use Rattle.run_law.proofs.Absent.{IsAbsentAt, Stands, found, stands, stands_after, stands_first}
use Rattle.run_law.proofs.Courses.{at_place, due_file, there_grows}
use Rattle.run_law.proofs.Ended.{set_cases}
use Rattle.event_core.proofs.Fits.{one_more, same_or_not}
use Rattle.run_law.proofs.Published.{IsLeftOf, IsOnce, begin_once, done_left, done_own, own_in, own_listed, settled_left}
use Rattle.run_law.proofs.Stored.{due_on, get_in, get_map, length_map}
use Rattle.event_core.proofs.Ties.{any_idle, waits_alone}
use Rattle.run_law.proofs.Basics.{or_false}

abbrev pub is_put : List Event → ℕ → Bool
is_put past f = list_any (publishes f) past

-- what was put behind one event more
put_more : (past : List Event) (e : Event) (f : ℕ) → is_put (past ++ e ∷ []) f ≡ (is_put past f || publishes f e)
put_more [] e f = by (publishes f e)
  where
    by : (b : Bool) → (b || false) ≡ b
    by true = refl
    by false = refl
put_more (x ∷ past) e f = by (publishes f x) (put_more past e f)
  where
    by : (b : Bool) → is_put (past ++ e ∷ []) f ≡ (is_put past f || publishes f e) → (b || is_put (past ++ e ∷ []) f) ≡ ((b || is_put past f) || publishes f e)
    by true again = refl
    by false again = again

-- what was published is what was put
put_is : (past : List RunEntry) (f : ℕ) → list_any (λ (e : RunEntry). publishes f e.event) past ≡ is_put (events_of past) f
put_is [] f = refl
put_is (e ∷ past) f = ap (λ b. publishes f e.event || b) (put_is past f)

abbrev is_publish : Event → Bool
is_publish (event.Publish w f) = true
is_publish other = false

-- ---- courses

abbrev IsNew : (ℕ → Bool) → Course → Type 0
IsNew P idle = Unit {0}
IsNew P (off_course number file gathered) = Unit {0}
IsNew P (on_course number script last) = IsOnce script × ((f : ℕ) → own_in f script ≡ true → P f ≡ false)

-- what is left of a script is new too
new_left : (P : ℕ → Bool) (s rest : Script) → IsLeftOf s rest → IsOnce s × ((f : ℕ) → own_in f s ≡ true → P f ≡ false) → IsOnce rest × ((f : ℕ) → own_in f rest ≡ true → P f ≡ false)
new_left P s rest left new = (left.0 new.0, λ f l. new.1 f (left.1 f l))

-- so is a course behind a deed
new_deed : (P : ℕ → Bool) (there : List Bool) (held : List ℕ) (d : Deed) (answered : Option ℕ) (c : Course) → IsNew P c → IsNew P (after_deed there held d answered c)
new_deed P there held d answered idle new = tt
new_deed P there held d answered (off_course number file gathered) new = tt
new_deed P there held d answered (on_course number script last) new = by (done script d) refl
  where
    by : (found : Option Script) → done script d ≡ found → IsNew P (option_map_or (λ rest. on_course number (settled there (is_empty held) rest) answered) found (on_course number script last))
    by None e = new
    by (Some rest) e = new_left P rest (settled there (is_empty held) rest) (settled_left there (is_empty held) rest) (new_left P script rest (done_left script d rest e) new)

-- and behind a free
new_free : (P : ℕ → Bool) (o : Outline) (there : List Bool) (held : List ℕ) (c : Course) → IsNew P c → IsNew P (after_free o there held c)
new_free P o there held idle new = tt
new_free P o there held (off_course number file gathered) new = tt
new_free P o there held (on_course number script last) new = by (done script deed.Free) refl
  where
    by : (found : Option Script) → done script deed.Free ≡ found → IsNew P (option_map_or (λ rest. on_course number (settled there (is_empty held) rest) None) found (off_course number (wanted script) (is_gathered (goals_of o number) script)))
    by None e = tt
    by (Some rest) e = new_left P rest (settled there (is_empty held) rest) (settled_left there (is_empty held) rest) (new_left P script rest (done_left script deed.Free rest e) new)

-- it depends on what was put alone
new_same : (P P' : ℕ → Bool) → ((f : ℕ) → P' f ≡ P f) → (c : Course) → IsNew P c → IsNew P' c
new_same P P' same idle new = tt
new_same P P' same (off_course number file gathered) new = tt
new_same P P' same (on_course number script last) new = (new.0, λ f l. same f ∙ new.1 f l)

abbrev runner : Progress → ℕ
runner (Running w) = w
runner other = 0

module _ (plan : Plan) (sound : IsSoundPlan plan) where
  abbrev o : Outline
  o = outline_of plan

  record AreNew (P : ℕ → Bool) (now : Standing) : Type 0 where
    sized : length now.there ≡ length o.present
    there : (f : ℕ) → P f ≡ true → is_there now.there f ≡ true
    waits : (number f : ℕ) (m : PlanModule) → slice_get plan.modules number ≡ Some m → is_waiting (progress_of now.progress number) ≡ true → is_own f m ≡ true → P f ≡ false
    courses : (w : ℕ) → IsNew P (course_of now w)

  -- so does all of it
  same_new : (P P' : ℕ → Bool) (now : Standing) → ((f : ℕ) → P' f ≡ P f) → AreNew P now → AreNew P' now
  same_new P P' now same u = record {
    sized = u.sized;
    there = λ f p. u.there f (sym (same f) ∙ p);
    waits = λ number f m at waits own. same f ∙ u.waits number f m at waits own;
    courses = λ w. new_same P P' same (course_of now w) (u.courses w);
  }

  -- where the progress is set to what doesn't wait
  still_waits : (ps : List Progress) (m : ℕ) (p : Progress) → is_waiting p ≡ false → (number : ℕ) → is_waiting (progress_of (set ps m p) number) ≡ true → is_waiting (progress_of ps number) ≡ true
  still_waits ps m p not number waits = by (set_cases ps m p number)
    where
      by : (progress_of (set ps m p) number ≡ progress_of ps number) ⊎ ((number ≡ m) × (progress_of (set ps m p) number ≡ p)) → is_waiting (progress_of ps number) ≡ true
      by (inl e) = sym (ap is_waiting e) ∙ waits
      by (inr e) = absurd (false≢true (sym not ∙ sym (ap is_waiting e.1) ∙ waits))

  module _ (P : ℕ → Bool) (now : Standing) (s : Stands plan sound now) (u : AreNew P now) where
    -- a course that begins is new
    begin_new : (w m : ℕ) → IsEnabled o now (event.Start w m) → IsNew P (on_course m (settled now.there (is_empty (held_by now w)) (start_of o m)) None)
    begin_new w m is =
        let long = length_map module_outline plan.modules in
        let low = is.1 in
        let at = get_in plan.modules m (omega (arith, long, low)) in
        let first = begin_once (module_outline at.0) (sound.modules m at.0 at.1).own_files in
        let here : IsOnce (start_of o m) × ((f : ℕ) → own_in f (start_of o m) ≡ true → P f ≡ false) =
        subst (λ x. IsOnce (option_map_or script_of x whole) × ((f : ℕ) → own_in f (option_map_or script_of x whole) ≡ true → P f ≡ false)) (sym (get_map module_outline plan.modules m at.0 at.1))
        (first.0, λ f l. u.waits m f at.0 at.1 is.2 (first.1 f l)) in
        new_left P (start_of o m) (settled now.there (is_empty (held_by now w)) (start_of o m)) (settled_left now.there (is_empty (held_by now w)) (start_of o m)) here

    -- what waits behind an end waited before
    ended_new : (w : ℕ) (e : Ending) (number : ℕ) → is_waiting (progress_of (ended (module_of (course_of now w)) e now.progress) number) ≡ true → is_waiting (progress_of now.progress number) ≡ true
    ended_new w e number = by (module_of (course_of now w))
      where
        by : (x : Option ℕ) → is_waiting (progress_of (ended x e now.progress) number) ≡ true → is_waiting (progress_of now.progress number) ≡ true
        by None waits = waits
        by (Some m) waits = still_waits now.progress m (Ended e) refl number waits

    -- ---- a publish

    module _ (w g : ℕ) (is : IsEnabled o now (event.Publish w g)) (P' : ℕ → Bool) (more : (f : ℕ) → P' f ≡ (P f || nat_eq g f)) where
      -- another file isn't put
      not_put : (f : ℕ) → P f ≡ false → (f ≡ g → ⊥) → P' f ≡ false
      not_put f old other = more f ∙ ap (λ b. b || nat_eq g f) old ∙ by (nat_eq g f) refl
        where
          by : (b : Bool) → nat_eq g f ≡ b → nat_eq g f ≡ false
          by false e = e
          by true e = absurd (other (sym (eqb-true g f e)))

      -- where the worker is
      on : (number : ℕ) × (script : Script) × (last : Option ℕ) × (course_of now w ≡ on_course number script last)
      on = due_on (course_of now w) (deed.Publish g) is.2

      -- and at which module
      mine : (m : PlanModule) × (slice_get plan.modules on.0 ≡ Some m) × (files_fit m.fetch (map (λ (x : OwnFile). x.file) m.own) on.1 ≡ true)
      mine = found plan sound now s w on.0 on.1 on.2 on.3

      -- what it is to publish is new
      new : IsOnce on.1 × ((f : ℕ) → own_in f on.1 ≡ true → P f ≡ false)
      new = subst (IsNew P) on.3 (u.courses w)

      -- who owns what is published is the module that publishes
      owner : (k : ℕ) (x : PlanModule) → slice_get plan.modules k ≡ Some x → is_own g x ≡ true → k ≡ on.0
      owner k x at own = by (due_file mine.0.fetch (map (λ (x : OwnFile). x.file) mine.0.own) on.1 g mine.2 (subst (λ c. is_due c (deed.Publish g) ≡ true) on.3 is.2))
        where
          by : ((wanted on.1 ≡ Some g) × (is_listed g mine.0.fetch ≡ true)) ⊎ (is_listed g (map (λ (x : OwnFile). x.file) mine.0.own) ≡ true) → k ≡ on.0
          by (inl a) = absurd (false≢true (sym (sound.not_fetched g k on.0 x mine.0 at mine.1 own) ∙ a.1))
          by (inr b) = sound.one_owner g k on.0 x mine.0 at mine.1 own b

      -- it is left no more
      gone : (rest : Script) → done on.1 (deed.Publish g) ≡ Some rest → own_in g rest ≡ true → ⊥
      gone rest e l = by (done_own mine.0.fetch (map (λ (x : OwnFile). x.file) mine.0.own) on.1 g rest mine.2 new.0 e)
        where
          by : (is_listed g mine.0.fetch ≡ true) ⊎ ((own_in g on.1 ≡ true) × (own_in g rest ≡ false)) → ⊥
          by (inl a) = false≢true (sym (sound.not_fetched g on.0 on.0 mine.0 mine.0 mine.1 mine.1 (own_listed mine.0.fetch (map (λ (x : OwnFile). x.file) mine.0.own) on.1 g mine.2 ((done_left on.1 (deed.Publish g) rest e).1 g l))) ∙ a)
          by (inr b) = false≢true (sym b.1 ∙ l)

      -- so is what is left
      turned : List Bool → List ℕ → IsNew P' (after_deed (set now.there g true) (held_by now w) (deed.Publish g) None (course_of now w))
      turned a b = subst (λ c. IsNew P' (after_deed (set now.there g true) (held_by now w) (deed.Publish g) None c)) (sym on.3) (by (done on.1 (deed.Publish g)) refl (subst (λ c. is_due c (deed.Publish g) ≡ true) on.3 is.2))
        where
          by : (left : Option Script) → done on.1 (deed.Publish g) ≡ left → is_some left ≡ true → IsNew P' (option_map_or (λ rest. on_course on.0 (settled (set now.there g true) (is_empty (held_by now w)) rest) None) left (on_course on.0 on.1 on.2))
          by None e some = absurd (false≢true some)
          by (Some rest) e some =
              let left = done_left on.1 (deed.Publish g) rest e in
              new_left P' rest (settled (set now.there g true) (is_empty (held_by now w)) rest) (settled_left (set now.there g true) (is_empty (held_by now w)) rest)
              (left.0 new.0, λ f l. not_put f (new.1 f (left.1 f l)) (λ same. gone rest e (subst (λ k. own_in k rest ≡ true) same l)))

      -- and the other workers' courses
      others : (v : ℕ) → (v ≡ w → ⊥) → (c : Course) → course_of now v ≡ c → IsNew P c → IsNew P' c
      others v other idle at old = tt
      others v other (off_course number file gathered) at old = tt
      others v other (on_course number script last) at old = (old.0, λ f l. not_put f (old.1 f l) (λ same. other (one (subst (λ k. own_in k script ≡ true) same l))))
        where
          his : (m : PlanModule) × (slice_get plan.modules number ≡ Some m) × (files_fit m.fetch (map (λ (x : OwnFile). x.file) m.own) script ≡ true)
          his = found plan sound now s v number script last at

          one : own_in g script ≡ true → v ≡ w
          one l =
              let same = owner number his.0 his.1 (own_listed his.0.fetch (map (λ (x : OwnFile). x.file) his.0.own) script g his.2 l) in
              ap runner (sym (s.standing.tied.busy v number (ap module_of at)) ∙ ap (progress_of now.progress) same ∙ s.standing.tied.busy w on.0 (ap module_of on.3))

      -- so all is new behind a publish
      publish_new : AreNew P' (after o now (event.Publish w g))
      unfolding after
      publish_new = record {
        sized = length-set now.there g true ∙ u.sized;
        there = λ f p. by f (P f) refl (sym (more f) ∙ p);
        waits = λ number f m at waits own. not_put f (u.waits number f m at waits own) (λ same. waits_alone o now number w on.0 s.standing.tied waits (ap module_of on.3) (sym (owner number m at (subst (λ k. is_own k m ≡ true) same own))));
        courses = λ v. course v (same_or_not v w);
      }
        where
          by : (f : ℕ) (b : Bool) → P f ≡ b → (P f || nat_eq g f) ≡ true → is_there (set now.there g true) f ≡ true
          by f true e p = there_grows now.there g f (u.there f e)
          by f false e p = subst (λ k. is_there (set now.there g true) k ≡ true) (eqb-true g f (sym (ap (λ b. b || nat_eq g f) e) ∙ p)) (get_or-set_same now.there g true false (omega (arith, is.1, u.sized)))

          now_is : Course
          now_is = after_deed (set now.there g true) (held_by now w) (deed.Publish g) None (course_of now w)

          course : (v : ℕ) → (v ≡ w) ⊎ ((v ≡ w) → ⊥) → IsNew P' (get_or (set now.courses w now_is) v idle)
          course v (inl e) = subst (λ k. IsNew P' (get_or (set now.courses w now_is) k idle)) (sym e) (subst (IsNew P') (sym (get_or-set_same now.courses w now_is idle (omega (arith, is.0, s.standing.fit.courses)))) (turned [] []))
          course v (inr other) = subst (IsNew P') (sym (get_or-set_other now.courses w v now_is idle other)) (others v other (course_of now v) refl (u.courses v))

      -- and wasn't yet
      not_yet : P g ≡ false
      not_yet = by (due_file mine.0.fetch (map (λ (x : OwnFile). x.file) mine.0.own) on.1 g mine.2 (subst (λ c. is_due c (deed.Publish g) ≡ true) on.3 is.2)) (P g) refl
        where
          owned : is_listed g (map (λ (x : OwnFile). x.file) mine.0.own) ≡ true → (left : Option Script) → done on.1 (deed.Publish g) ≡ left → is_some left ≡ true → P g ≡ false
          owned own None e some = absurd (false≢true some)
          owned own (Some rest) e some = which (done_own mine.0.fetch (map (λ (x : OwnFile). x.file) mine.0.own) on.1 g rest mine.2 new.0 e)
            where
              which : (is_listed g mine.0.fetch ≡ true) ⊎ ((own_in g on.1 ≡ true) × (own_in g rest ≡ false)) → P g ≡ false
              which (inl a) = absurd (false≢true (sym (sound.not_fetched g on.0 on.0 mine.0 mine.0 mine.1 mine.1 own) ∙ a))
              which (inr b) = new.1 g b.0

          by : ((wanted on.1 ≡ Some g) × (is_listed g mine.0.fetch ≡ true)) ⊎ (is_listed g (map (λ (x : OwnFile). x.file) mine.0.own) ≡ true) → (b : Bool) → P g ≡ b → P g ≡ false
          by x false e = e
          by (inl a) true e = absurd (false≢true (sym (subst (IsAbsentAt now.there) on.3 (s.absent w) g a.0) ∙ u.there g e))
          by (inr b) true e = owned b (done on.1 (deed.Publish g)) refl (subst (λ c. is_due c (deed.Publish g) ≡ true) on.3 is.2)

    -- and behind an event that publishes nothing
    quiet : (e : Event) → IsEnabled o now e → ((w f : ℕ) → e ≡ event.Publish w f → ⊥) → AreNew P (after o now e)
    unfolding after
    quiet (event.Start w m) is other = record { sized = u.sized; there = u.there; waits = λ number f x at waits own. u.waits number f x at (still_waits now.progress m (Running w) refl number waits) own; courses = at_place (IsNew P) now.courses w (on_course m (settled now.there (is_empty (held_by now w)) (start_of o m)) None) idle (begin_new w m is) u.courses }
    quiet (event.Skip m) is other = record { sized = u.sized; there = u.there; waits = λ number f x at waits own. u.waits number f x at (still_waits now.progress m Skipped refl number waits) own; courses = u.courses }
    quiet (event.Take w n mode) is other =
        let held = get_or (set now.held w (held_by now w ++ n ∷ [])) w [] in
        record { sized = u.sized; there = u.there; waits = u.waits; courses = at_place (IsNew P) now.courses w (after_deed now.there held (deed.Take mode n) None (course_of now w)) idle (new_deed P now.there held (deed.Take mode n) None (course_of now w) (u.courses w)) u.courses }
    quiet (event.Free w n) is other =
        let held = get_or (set now.held w (but n (held_by now w))) w [] in
        record { sized = u.sized; there = u.there; waits = u.waits; courses = at_place (IsNew P) now.courses w (after_free o now.there held (course_of now w)) idle (new_free P o now.there held (course_of now w) (u.courses w)) u.courses }
    quiet (event.Read w f) is other = record { sized = u.sized; there = u.there; waits = u.waits; courses = at_place (IsNew P) now.courses w (after_deed now.there (held_by now w) (deed.Read f) None (course_of now w)) idle (new_deed P now.there (held_by now w) (deed.Read f) None (course_of now w) (u.courses w)) u.courses }
    quiet (event.Publish w f) is other = absurd (other w f refl)
    quiet (event.Answer w g) is other = record { sized = u.sized; there = u.there; waits = u.waits; courses = at_place (IsNew P) now.courses w (after_deed now.there (held_by now w) (deed.Answer g) (Some g) (course_of now w)) idle (new_deed P now.there (held_by now w) (deed.Answer g) (Some g) (course_of now w) (u.courses w)) u.courses }
    quiet (event.End w e) is other = record { sized = u.sized; there = u.there; waits = λ number f x at waits own. u.waits number f x at (ended_new w e number waits) own; courses = at_place (IsNew P) now.courses w idle idle tt u.courses }

  -- so behind each event
  new_after : (past : List Event) (e : Event) → Stands plan sound (standing_of o past) → AreNew (is_put past) (standing_of o past) → IsEnabled o (standing_of o past) e → AreNew (is_put (past ++ e ∷ [])) (after o (standing_of o past) e)
  new_after past (event.Publish w g) s u is = publish_new (is_put past) (standing_of o past) s u w g is (is_put (past ++ event.Publish w g ∷ [])) (put_more past (event.Publish w g))
  new_after past (event.Start w m) s u is = same_new (is_put past) (is_put (past ++ event.Start w m ∷ [])) (after o (standing_of o past) (event.Start w m)) (λ f. put_more past (event.Start w m) f ∙ or_false (is_put past f)) (quiet (is_put past) (standing_of o past) s u (event.Start w m) is (λ v f e. false≢true (ap is_publish e)))
  new_after past (event.Skip m) s u is = same_new (is_put past) (is_put (past ++ event.Skip m ∷ [])) (after o (standing_of o past) (event.Skip m)) (λ f. put_more past (event.Skip m) f ∙ or_false (is_put past f)) (quiet (is_put past) (standing_of o past) s u (event.Skip m) is (λ v f e. false≢true (ap is_publish e)))
  new_after past (event.Take w n mode) s u is = same_new (is_put past) (is_put (past ++ event.Take w n mode ∷ [])) (after o (standing_of o past) (event.Take w n mode)) (λ f. put_more past (event.Take w n mode) f ∙ or_false (is_put past f)) (quiet (is_put past) (standing_of o past) s u (event.Take w n mode) is (λ v f e. false≢true (ap is_publish e)))
  new_after past (event.Free w n) s u is = same_new (is_put past) (is_put (past ++ event.Free w n ∷ [])) (after o (standing_of o past) (event.Free w n)) (λ f. put_more past (event.Free w n) f ∙ or_false (is_put past f)) (quiet (is_put past) (standing_of o past) s u (event.Free w n) is (λ v f e. false≢true (ap is_publish e)))
  new_after past (event.Read w n) s u is = same_new (is_put past) (is_put (past ++ event.Read w n ∷ [])) (after o (standing_of o past) (event.Read w n)) (λ f. put_more past (event.Read w n) f ∙ or_false (is_put past f)) (quiet (is_put past) (standing_of o past) s u (event.Read w n) is (λ v f e. false≢true (ap is_publish e)))
  new_after past (event.Answer w n) s u is = same_new (is_put past) (is_put (past ++ event.Answer w n ∷ [])) (after o (standing_of o past) (event.Answer w n)) (λ f. put_more past (event.Answer w n) f ∙ or_false (is_put past f)) (quiet (is_put past) (standing_of o past) s u (event.Answer w n) is (λ v f e. false≢true (ap is_publish e)))
  new_after past (event.End w x) s u is = same_new (is_put past) (is_put (past ++ event.End w x ∷ [])) (after o (standing_of o past) (event.End w x)) (λ f. put_more past (event.End w x) f ∙ or_false (is_put past f)) (quiet (is_put past) (standing_of o past) s u (event.End w x) is (λ v f e. false≢true (ap is_publish e)))

  -- and where nothing has happened
  new_first : AreNew (is_put []) (at_first o)
  new_first = record { sized = refl; there = λ f p. absurd (false≢true p); waits = λ number f m at waits own. refl; courses = λ w. subst (IsNew (is_put [])) (sym (any_idle o.workers w)) tt }

  -- so behind every run
  new_all : (past events : List Event) → Stands plan sound (standing_of o past) → AreNew (is_put past) (standing_of o past) → IsRun o past events → AreNew (is_put (past ++ events)) (standing_of o (past ++ events))
  unfolding Enabled
  new_all past [] s u run = subst (λ es. AreNew (is_put es) (standing_of o es)) (sym (append-nil past)) u
  new_all past (e ∷ events) s u run =
      subst (λ es. AreNew (is_put es) (standing_of o es)) (append_assoc past (e ∷ []) events)
      (new_all (past ++ e ∷ []) events (subst (Stands plan sound) (sym (one_more o past e)) (stands_after plan sound (standing_of o past) e s run.0))
      (subst (AreNew (is_put (past ++ e ∷ []))) (sym (one_more o past e)) (new_after past e s u run.0)) run.1)

  -- Once of the statements
  pub once : (past : List RunEntry) (w f : ℕ) → IsRunOf plan past → Enabled o (events_of past) (event.Publish w f) → list_any (λ (e : RunEntry). publishes f e.event) past ≡ false
  unfolding Enabled
  once past w f run is =
      put_is past f ∙ not_yet (is_put (events_of past)) (standing_of o (events_of past)) (stands plan sound (events_of past) run) (new_all [] (events_of past) (stands_first plan sound) new_first run) w f is (λ g. is_put (events_of past) g || nat_eq f g) (λ g. refl)
