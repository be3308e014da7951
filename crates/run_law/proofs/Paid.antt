-- The goals that an ending stands for are answered.
use Rattle.std.proofs.Common.{◌≡◌, ℕ, zero, suc, length, replicate, ◌<◌, ◌≤◌, ◌⊎◌, inl, inr, Bool, true, false, nat_le, List, [], ◌∷◌, ◌++◌, get_or, set, slice_get, Option, Some, None, unwrap_or, refl, sym, ap, subst, ◌∙◌}
use Rattle.std.specs.Option.{option_map_or}
use Rattle.std.proofs.lemmas.Bool.{false≢true, leb-true}
use Rattle.scripts.specs.declared.deed.Deed.{Deed}
use Rattle.scripts.specs.declared.deed.Deed.TheVariants as deed
use Rattle.build_core.specs.declared.ending.Ending.{Ending}
use Rattle.build_core.specs.declared.ending.Ending.TheVariants as ending
use Rattle.build_core.specs.declared.event.Event.{Event}
use Rattle.build_core.specs.declared.event.Event.TheVariants as event
use Rattle.scripts.specs.declared.outline.Outline.{Outline}
use Rattle.scripts.specs.declared.outline.ModuleOutline.{ModuleOutline}
use Rattle.event_core.specs.declared.module_steps.Progress.{Progress}
use Rattle.event_core.specs.declared.module_steps.Progress.TheVariants.{Waiting, Running, Skipped, Ended}
use Rattle.scripts.specs.Climbing.{but}
use Rattle.event_core.specs.Enabled.{IsEnabled, may_end_so, needs_artifact, off_ends, on_ends}
use Rattle.scripts.specs.Scripts.{Script, absent, done, is_gathered, is_to_install, may_end, script_of, settled, step, wanted, whole}
use Rattle.event_core.specs.HowFar.{progress_of}
use Rattle.event_core.specs.Standing.{Course, Standing, after, after_deed, after_free, at_first, course_of, ended, goals_of, held_by, idle, module_of, off_course, on_course, start_of}
use Rattle.scripts.specs.Outlines.{is_empty}
use Rattle.run_law.proofs.Courses.{at_place}
use Rattle.run_law.proofs.Ended.{set_cases, this_is}
use Rattle.run_law.proofs.Once.{both}
use Rattle.run_law.proofs.Owed.{IsRising, OwesAll, done_pays, install_owes, owes, settled_owes, start_owes}
use Rattle.event_core.proofs.Ties.{any_idle}
use Rattle.event_core.proofs.Weights.{nothing_is}
use Rattle.run_law.specs.Given.{reaches}

abbrev pub IsPaid : Outline → (ℕ → ℕ → Bool) → Course → Type 0
IsPaid o K idle = Unit {0}
IsPaid o K (off_course number file gathered) = Unit {0}
IsPaid o K (on_course number script last) = (m : ModuleOutline) → slice_get o.modules number ≡ Some m
    → IsRising script × ((g : ℕ) → g < m.goals → owes g script ≡ false → K number g ≡ true) × ((i h : ℕ) → last ≡ Some i → h ≤ i → owes h script ≡ false)

pub record ArePaid (o : Outline) (K : ℕ → ℕ → Bool) (now : Standing) : Type 0 where
  pub courses : (w : ℕ) → IsPaid o K (course_of now w)
  pub over : (number : ℕ) (m : ModuleOutline) (e : Ending) → slice_get o.modules number ≡ Some m → progress_of now.progress number ≡ Ended e → (g : ℕ) → g < m.goals → reaches e g ≡ true → K number g ≡ true

abbrev is_ended : Progress → Bool
is_ended (Ended e) = true
is_ended other = false

abbrev ending_of : Progress → Ending
ending_of (Ended e) = e
ending_of other = ending.Memory

abbrev is_answer : Deed → Bool
is_answer (deed.Answer g) = true
is_answer other = false

abbrev goal_of : Deed → ℕ
goal_of (deed.Answer g) = g
goal_of other = 0

abbrev is_free : Deed → Bool
is_free deed.Free = true
is_free other = false

-- a script that may end owes nothing
end_owes : (s : Script) → may_end s ≡ true → (h : ℕ) → owes h s ≡ false
end_owes whole e h = refl
end_owes (absent files this that) e h = absurd (false≢true e)
end_owes (step stage s rest) e h = absurd (false≢true e)

-- a test of numbers, as a fact
le_is : (a b : ℕ) → nat_le a b ≡ true → a ≤ b
le_is a b e = leb-true a b e

module _ (o : Outline) (K K' : ℕ → ℕ → Bool) (grows : (number g : ℕ) → K number g ≡ true → K' number g ≡ true) where
  -- what is paid stays so as answers come
  paid_grow : (c : Course) → IsPaid o K c → IsPaid o K' c
  paid_grow idle p = tt
  paid_grow (off_course number file gathered) p = tt
  paid_grow (on_course number script last) p = λ m at. let is = p m at in (is.0, λ g less none. grows number g (is.1 g less none), is.2)

  -- what a deed leaves is paid
  paid_left : (there : List Bool) (empty : Bool) (number : ℕ) (script rest : Script) (last answered : Option ℕ) (d : Deed) → done script d ≡ Some rest → ((h : ℕ) → d ≡ deed.Answer h → K' number h ≡ true) → ((i : ℕ) → answered ≡ Some i → d ≡ deed.Answer i)
      → IsPaid o K (on_course number script last) → IsPaid o K' (on_course number (settled there empty rest) answered)
  paid_left there empty number script rest last answered d e new whose p m at =
      let is = p m at in
      let pays = done_pays script d rest is.0 e in
      let st = settled_owes there empty rest pays.0 in
      (st.0, λ g less none. by g less (pays.1 g (sym (st.1 g) ∙ none)), λ i h is low. st.1 h ∙ pays.2 i h (whose i is) low)
    where
      by : (g : ℕ) → g < m.goals → (owes g script ≡ false) ⊎ (d ≡ deed.Answer g) → K' number g ≡ true
      by g less (inl old) = grows number g ((p m at).1 g less old)
      by g less (inr is) = new g is

  -- so is a course behind a deed
  paid_deed : (there : List Bool) (held : List ℕ) (d : Deed) (answered : Option ℕ) (c : Course) → ((number h : ℕ) → module_of c ≡ Some number → d ≡ deed.Answer h → K' number h ≡ true) → ((i : ℕ) → answered ≡ Some i → d ≡ deed.Answer i) → IsPaid o K c → IsPaid o K' (after_deed there held d answered c)
  paid_deed there held d answered idle new whose p = tt
  paid_deed there held d answered (off_course number file gathered) new whose p = tt
  paid_deed there held d answered (on_course number script last) new whose p = by (done script d) refl
    where
      by : (found : Option Script) → done script d ≡ found → IsPaid o K' (option_map_or (λ rest. on_course number (settled there (is_empty held) rest) answered) found (on_course number script last))
      by None e = paid_grow (on_course number script last) p
      by (Some rest) e = paid_left there (is_empty held) number script rest last answered d e (λ h is. new number h refl is) whose p

  -- and behind a free
  paid_free : (there : List Bool) (held : List ℕ) (c : Course) → IsPaid o K c → IsPaid o K' (after_free o there held c)
  paid_free there held idle p = tt
  paid_free there held (off_course number file gathered) p = tt
  paid_free there held (on_course number script last) p = by (done script deed.Free) refl
    where
      by : (found : Option Script) → done script deed.Free ≡ found → IsPaid o K' (option_map_or (λ rest. on_course number (settled there (is_empty held) rest) None) found (off_course number (wanted script) (is_gathered (goals_of o number) script)))
      by None e = tt
      by (Some rest) e = paid_left there (is_empty held) number script rest last None deed.Free e (λ h is. absurd (false≢true (sym (ap is_free is)))) (λ i is. absurd (nothing_is i is)) p

  -- and one that begins
  paid_start : (there : List Bool) (empty : Bool) (number : ℕ) → IsPaid o K' (on_course number (settled there empty (start_of o number)) None)
  paid_start there empty number m at =
      let all : OwesAll m (start_of o number) = subst (λ found. OwesAll m (option_map_or script_of found whole)) (sym at) (start_owes m) in
      let st = settled_owes there empty (start_of o number) all.0 in
      (st.0, λ g less none. absurd (false≢true (sym none ∙ st.1 g ∙ all.1 g less)), λ i h is low. absurd (nothing_is i is))

  -- where a module ends, each goal that the ending stands for is paid
  end_paid : (c : Course) (e : Ending) → IsPaid o K c → may_end_so o c e ≡ true → (number : ℕ) → module_of c ≡ Some number → (m : ModuleOutline) → slice_get o.modules number ≡ Some m → (g : ℕ) → g < m.goals → reaches e g ≡ true → K' number g ≡ true
  end_paid idle e p may number whose m at g less for = absurd (false≢true may)
  end_paid (off_course n file gathered) e p may number whose m at g less for = absurd (none e may for)
    where
      none : (e : Ending) → off_ends file gathered e ≡ true → reaches e g ≡ true → ⊥
      none ending.Built may for = false≢true may
      none ending.NoArtifact may for = false≢true may
      none (ending.Goal i) may for = false≢true may
      none (ending.OutputTooLarge i) may for = false≢true may
      none (ending.Missing f) may for = false≢true for
      none ending.ClasspathTooLarge may for = false≢true for
      none (ending.Fault device) may for = false≢true for
      none ending.Memory may for = false≢true for
  end_paid (on_course n script last) e p may number whose m at g less for = grows number g (subst (λ k. K k g ≡ true) same (is.1 g less (by e may for)))
    where
      same : n ≡ number
      same = ap (λ x. unwrap_or x 0) whose

      is : IsRising script × ((g : ℕ) → g < m.goals → owes g script ≡ false → K n g ≡ true) × ((i h : ℕ) → last ≡ Some i → h ≤ i → owes h script ≡ false)
      is = p m (subst (λ k. slice_get o.modules k ≡ Some m) (sym same) at)

      by : (e : Ending) → on_ends o n script last e ≡ true → reaches e g ≡ true → owes g script ≡ false
      by ending.Built may for = end_owes script may g
      by ending.NoArtifact may for = install_owes script is.0 (both (is_to_install script) (needs_artifact o n) may).0 g
      by (ending.Goal i) may for = is.2 i g (this_is last i may) (le_is g i for)
      by (ending.OutputTooLarge i) may for = is.2 i g (this_is last i may) (le_is g i for)
      by (ending.Missing f) may for = absurd (false≢true for)
      by ending.ClasspathTooLarge may for = absurd (false≢true for)
      by (ending.Fault device) may for = absurd (false≢true for)
      by ending.Memory may for = absurd (false≢true for)

  -- where progress is set to what isn't an ending
  still_over : (ps : List Progress) (m : ℕ) (p : Progress) → is_ended p ≡ false → (number : ℕ) (e : Ending) → progress_of (set ps m p) number ≡ Ended e → progress_of ps number ≡ Ended e
  still_over ps m p not number e is = by (set_cases ps m p number)
    where
      by : (progress_of (set ps m p) number ≡ progress_of ps number) ⊎ ((number ≡ m) × (progress_of (set ps m p) number ≡ p)) → progress_of ps number ≡ Ended e
      by (inl same) = sym same ∙ is
      by (inr x) = absurd (false≢true (sym not ∙ sym (ap is_ended x.1) ∙ ap is_ended is))

  module _ (now : Standing) (p : ArePaid o K now) where
    -- of a module that is over too, as answers come
    over_grow : (number : ℕ) (m : ModuleOutline) (e : Ending) → slice_get o.modules number ≡ Some m → progress_of now.progress number ≡ Ended e → (g : ℕ) → g < m.goals → reaches e g ≡ true → K' number g ≡ true
    over_grow number m e at is g less for = grows number g (p.over number m e at is g less for)

    -- so behind an end
    over_end : (w : ℕ) (x : Ending) → may_end_so o (course_of now w) x ≡ true → (number : ℕ) (m : ModuleOutline) (e : Ending) → slice_get o.modules number ≡ Some m → progress_of (ended (module_of (course_of now w)) x now.progress) number ≡ Ended e → (g : ℕ) → g < m.goals → reaches e g ≡ true → K' number g ≡ true
    over_end w x may number m e at is g less for = by (module_of (course_of now w)) refl is
      where
        by : (found : Option ℕ) → module_of (course_of now w) ≡ found → progress_of (ended found x now.progress) number ≡ Ended e → K' number g ≡ true
        by None none is = over_grow number m e at is g less for
        by (Some k) whose is = which (set_cases now.progress k (Ended x) number)
          where
            which : (progress_of (set now.progress k (Ended x)) number ≡ progress_of now.progress number) ⊎ ((number ≡ k) × (progress_of (set now.progress k (Ended x)) number ≡ Ended x)) → K' number g ≡ true
            which (inl same) = over_grow number m e at (sym same ∙ is) g less for
            which (inr new) = end_paid (course_of now w) x (p.courses w) may number (whose ∙ ap (λ j. Some j) (sym new.0)) m at g less (subst (λ y. reaches y g ≡ true) (ap ending_of (sym is ∙ new.1)) for)

    -- so are all courses, as answers come
    olds : (w : ℕ) → IsPaid o K' (course_of now w)
    olds w = paid_grow (course_of now w) (p.courses w)

    -- so all is paid behind each event
    pub paid_after : (e : Event) → IsEnabled o now e → ((w g number : ℕ) → e ≡ event.Answer w g → module_of (course_of now w) ≡ Some number → K' number g ≡ true) → ArePaid o K' (after o now e)
    unfolding after
    paid_after (event.Start w m) is new = record { courses = at_place (IsPaid o K') now.courses w (on_course m (settled now.there (is_empty (held_by now w)) (start_of o m)) None) idle (paid_start now.there (is_empty (held_by now w)) m) olds; over = λ number x e at ends g less for. over_grow number x e at (still_over now.progress m (Running w) refl number e ends) g less for }
    paid_after (event.Skip m) is new = record { courses = olds; over = λ number x e at ends g less for. over_grow number x e at (still_over now.progress m Skipped refl number e ends) g less for }
    paid_after (event.Take w n mode) is new =
        let held = get_or (set now.held w (held_by now w ++ n ∷ [])) w [] in
        record { courses = at_place (IsPaid o K') now.courses w (after_deed now.there held (deed.Take mode n) None (course_of now w)) idle (paid_deed now.there held (deed.Take mode n) None (course_of now w) (λ number h whose e. absurd (false≢true (ap is_answer e))) (λ i e. absurd (nothing_is i e)) (p.courses w)) olds; over = over_grow }
    paid_after (event.Free w n) is new =
        let held = get_or (set now.held w (but n (held_by now w))) w [] in
        record { courses = at_place (IsPaid o K') now.courses w (after_free o now.there held (course_of now w)) idle (paid_free now.there held (course_of now w) (p.courses w)) olds; over = over_grow }
    paid_after (event.Read w f) is new = record { courses = at_place (IsPaid o K') now.courses w (after_deed now.there (held_by now w) (deed.Read f) None (course_of now w)) idle (paid_deed now.there (held_by now w) (deed.Read f) None (course_of now w) (λ number h whose e. absurd (false≢true (ap is_answer e))) (λ i e. absurd (nothing_is i e)) (p.courses w)) olds; over = over_grow }
    paid_after (event.Publish w f) is new = record { courses = at_place (IsPaid o K') now.courses w (after_deed (set now.there f true) (held_by now w) (deed.Publish f) None (course_of now w)) idle (paid_deed (set now.there f true) (held_by now w) (deed.Publish f) None (course_of now w) (λ number h whose e. absurd (false≢true (ap is_answer e))) (λ i e. absurd (nothing_is i e)) (p.courses w)) olds; over = over_grow }
    paid_after (event.Answer w g) is new =
        record {
          courses = at_place (IsPaid o K') now.courses w (after_deed now.there (held_by now w) (deed.Answer g) (Some g) (course_of now w)) idle
              (paid_deed now.there (held_by now w) (deed.Answer g) (Some g) (course_of now w) (λ number h whose e. new w h number (ap (λ k. event.Answer w k) (ap goal_of e)) whose) (λ i e. ap (λ o. deed.Answer (unwrap_or o 0)) e) (p.courses w)) olds;
          over = over_grow;
        }
    paid_after (event.End w x) is new = record { courses = at_place (IsPaid o K') now.courses w idle idle tt olds; over = over_end w x is.3 }

-- and where nothing has happened
pub paid_first : (o : Outline) (K : ℕ → ℕ → Bool) → ArePaid o K (at_first o)
paid_first o K = record { courses = λ w. subst (IsPaid o K) (sym (any_idle o.workers w)) tt; over = λ number m e at is. absurd (false≢true (sym (none (length o.modules) number) ∙ ap is_ended is)) }
  where
    none : (n number : ℕ) → is_ended (progress_of (replicate n Waiting) number) ≡ false
    none zero number = refl
    none (suc n) zero = refl
    none (suc n) (suc number) = none n number
