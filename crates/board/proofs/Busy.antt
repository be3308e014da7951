-- Workers that are marked build a module.
use Rattle.std.proofs.Common.{◌≡◌, ℕ, zero, suc, ◌<◌, ◌≤◌, ◌⊎◌, inl, inr, Bool, true, false, List, [], ◌∷◌, ◌++◌, length, get_or, replicate, set, Option, Some, None, is_some, refl, arith, sym, ap, subst, ◌∙◌}
use Rattle.std.proofs.lemmas.Bool.{false≢true}
use Rattle.std.proofs.lemmas.List.{get_or-set_other, get_or-set_same}
use Rattle.build_core.specs.declared.ending.Ending.{Ending}
use Rattle.build_core.specs.declared.event.Event.{Event}
use Rattle.build_core.specs.declared.event.Event.TheVariants as event
use Rattle.scripts.specs.Climbing.{but}
use Rattle.event_core.specs.Enabled.{IsRun}
use Rattle.scripts.specs.Scripts.{settled}
use Rattle.event_core.specs.HowFar.{is_over}
use Rattle.event_core.specs.Standing.{Course, Standing, after, after_deed, after_free, course_of, held_by, idle, is_complete, module_of, on_course, standing_of, start_of}
use Rattle.scripts.specs.Outlines.{is_empty}
use Rattle.scripts.specs.declared.deed.Deed.TheVariants as deed
use Rattle.scripts.specs.declared.outline.Outline.{Outline}
use Rattle.scripts.proofs.Dues.{below_or_not}
use Rattle.event_core.proofs.Fits.{one_more, same_or_not}
use Rattle.event_core.proofs.Ties.{deed_module, free_module, set_far, turned_module}
use Rattle.run_law.proofs.Complete.{all_over, standing}
use Rattle.board.specs.Builds.{AreBusy}
use Rattle.board.specs.Keeping.{is_ending}
use Rattle.board.specs.Logs.{marked}

-- the course of a module that begins
abbrev begun : Outline → Standing → ℕ → ℕ → Course
begun o now w m = on_course m (settled now.there (is_empty (held_by now w)) (start_of o m)) None

-- a worker that builds a module still does behind an event that ends none
pub busy_after : (o : Outline) (now : Standing) (e : Event) (v : ℕ) → is_ending e ≡ false → is_some (module_of (course_of now v)) ≡ true → is_some (module_of (course_of (after o now e) v)) ≡ true
unfolding after
busy_after o now (event.Start w m) v within is = by (below_or_not w (length now.courses)) (same_or_not v w)
  where
    by : (w < length now.courses) ⊎ (length now.courses ≤ w) → (v ≡ w) ⊎ ((v ≡ w) → ⊥) → is_some (module_of (get_or (set now.courses w (begun o now w m)) v idle)) ≡ true
    by (inl low) (inl e) = ap (λ u. is_some (module_of (get_or (set now.courses w (begun o now w m)) u idle))) e ∙ ap (λ c. is_some (module_of c)) (get_or-set_same now.courses w (begun o now w m) idle low)
    by (inr far) (inl e) = ap (λ t. is_some (module_of (get_or t v idle))) (set_far now.courses w (begun o now w m) far) ∙ is
    by any (inr other) = ap (λ c. is_some (module_of c)) (get_or-set_other now.courses w v (begun o now w m) idle other) ∙ is
busy_after o now (event.Skip m) v within is = is
busy_after o now (event.Take w n mode) v within is =
    ap is_some (turned_module now w v (after_deed now.there (get_or (set now.held w (held_by now w ++ n ∷ [])) w []) (deed.Take mode n) None (course_of now w))
    (deed_module now.there (get_or (set now.held w (held_by now w ++ n ∷ [])) w []) (deed.Take mode n) None (course_of now w))) ∙ is
busy_after o now (event.Free w n) v within is =
    ap is_some (turned_module now w v (after_free o now.there (get_or (set now.held w (but n (held_by now w))) w []) (course_of now w))
    (free_module o now.there (get_or (set now.held w (but n (held_by now w))) w []) (course_of now w))) ∙ is
busy_after o now (event.Read w f) v within is =
    ap is_some (turned_module now w v (after_deed now.there (held_by now w) (deed.Read f) None (course_of now w)) (deed_module now.there (held_by now w) (deed.Read f) None (course_of now w))) ∙ is
busy_after o now (event.Publish w f) v within is =
    ap is_some (turned_module now w v (after_deed (set now.there f true) (held_by now w) (deed.Publish f) None (course_of now w)) (deed_module (set now.there f true) (held_by now w) (deed.Publish f) None (course_of now w))) ∙ is
busy_after o now (event.Answer w g) v within is =
    ap is_some (turned_module now w v (after_deed now.there (held_by now w) (deed.Answer g) (Some g) (course_of now w)) (deed_module now.there (held_by now w) (deed.Answer g) (Some g) (course_of now w))) ∙ is
busy_after o now (event.End w x) v within is = absurd (false≢true (sym within))

-- marks of which one was taken away
unset : (marks : List Bool) (w : ℕ) → get_or (set marks w false) w false ≡ true → ⊥
unset [] w is = false≢true is
unset (b ∷ marks) zero is = false≢true is
unset (b ∷ marks) (suc w) is = unset marks w is

-- where one's module ends, and one is marked no more
pub busy_ended : (o : Outline) (now : Standing) (w : ℕ) (x : Ending) (marks : List Bool) → AreBusy now marks → AreBusy (after o now (event.End w x)) (set marks w false)
unfolding after
busy_ended o now w x marks busy = λ v is. by v is (same_or_not v w)
  where
    by : (v : ℕ) → get_or (set marks w false) v false ≡ true → (v ≡ w) ⊎ ((v ≡ w) → ⊥) → is_some (module_of (get_or (set now.courses w idle) v idle)) ≡ true
    by v is (inl e) = absurd (unset marks w (subst (λ u. get_or (set marks w false) u false ≡ true) e is))
    by v is (inr other) = ap (λ c. is_some (module_of c)) (get_or-set_other now.courses w v idle idle other) ∙ busy v (sym (get_or-set_other marks w v false false other) ∙ is)

-- where one that builds a module is marked
pub busy_marked : (now : Standing) (w : ℕ) (marks : List Bool) → is_some (module_of (course_of now w)) ≡ true → AreBusy now marks → AreBusy now (set marks w true)
busy_marked now w marks at busy = λ v is. by v is (same_or_not v w)
  where
    by : (v : ℕ) → get_or (set marks w true) v false ≡ true → (v ≡ w) ⊎ ((v ≡ w) → ⊥) → is_some (module_of (course_of now v)) ≡ true
    by v is (inl e) = subst (λ u. is_some (module_of (course_of now u)) ≡ true) (sym e) at
    by v is (inr other) = busy v (sym (get_or-set_other marks w v true false other) ∙ is)

-- the same by lists of events
pub busy_more : (o : Outline) (events : List Event) (e : Event) (marks : List Bool) → is_ending e ≡ false → AreBusy (standing_of o events) marks → AreBusy (standing_of o (events ++ e ∷ [])) marks
busy_more o events e marks within busy = subst (λ s. AreBusy s marks) (sym (one_more o events e)) (λ v is. busy_after o (standing_of o events) e v within (busy v is))

pub busy_closed : (o : Outline) (events : List Event) (w : ℕ) (x : Ending) (marks : List Bool) → AreBusy (standing_of o events) marks → AreBusy (standing_of o (events ++ event.End w x ∷ [])) (set marks w false)
busy_closed o events w x marks busy = subst (λ s. AreBusy s (set marks w false)) (sym (one_more o events (event.End w x))) (busy_ended o (standing_of o events) w x marks busy)

-- nobody is marked at first
pub none_busy : (now : Standing) (n : ℕ) → AreBusy now (replicate n false)
none_busy now n = λ w is. absurd (by n w is)
  where
    by : (n w : ℕ) → get_or (replicate n false) w false ≡ true → ⊥
    by zero w is = false≢true is
    by (suc n) zero is = false≢true is
    by (suc n) (suc w) is = by n w is

-- no mark is set where none is at any place
none_set : (marks : List Bool) → ((w : ℕ) → get_or marks w false ≡ true → ⊥) → marked marks ≡ 0
none_set [] none = refl
none_set (true ∷ marks) none = absurd (none 0 refl)
none_set (false ∷ marks) none = none_set marks (λ w is. none (suc w) is)

-- where all is over nobody is marked
pub none_at_end : (o : Outline) (events : List Event) (marks : List Bool) → IsRun o [] events → is_complete (standing_of o events) ≡ true → AreBusy (standing_of o events) marks → marked marks ≡ 0
none_at_end o events marks run over busy = none_set marks (λ w is. by w (module_of (course_of (standing_of o events) w)) refl (busy w is))
  where
    by : (w : ℕ) (found : Option ℕ) → module_of (course_of (standing_of o events) w) ≡ found → is_some (module_of (course_of (standing_of o events) w)) ≡ true → ⊥
    by w None e is = false≢true (sym (ap is_some e) ∙ is)
    by w (Some m) e is =
        let s = standing o events run in
        let low : m < length (standing_of o events).progress = omega (arith, s.tied.real w m e, s.fit.modules) in
        false≢true (sym (ap is_over (s.tied.busy w m e)) ∙ all_over (standing_of o events).progress m over low)

-- a mark that is set is one
pub some_marked : (marks : List Bool) (w : ℕ) → w < length marks → marked (set marks w true) ≡ 0 → ⊥
some_marked [] w low none = omega (arith, low)
some_marked (b ∷ marks) zero low none = omega (arith, none)
some_marked (true ∷ marks) (suc w) low none = omega (arith, none)
some_marked (false ∷ marks) (suc w) low none = some_marked marks w (omega (arith, low)) none
