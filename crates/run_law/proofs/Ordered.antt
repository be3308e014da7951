-- A module that has begun has all its upstreams built; one that is skipped has one that is lost.
use Rattle.std.proofs.Common.{◌≡◌, ℕ, zero, suc, ◌⊎◌, inl, inr, Bool, true, false, not, List, [], ◌∷◌, length, replicate, set, find, Option, Some, None, is_some, refl, sym, ap, subst, ◌∙◌, if◌then◌else◌}
use Rattle.std.proofs.lemmas.Bool.{false≢true}
use Rattle.std.proofs.lemmas.List.{get_or-set_other}
use Rattle.build_core.specs.declared.event.Event.{Event}
use Rattle.build_core.specs.declared.event.Event.TheVariants as event
use Rattle.scripts.specs.declared.outline.Outline.{Outline}
use Rattle.event_core.specs.declared.module_steps.Progress.{Progress}
use Rattle.event_core.specs.declared.module_steps.Progress.TheVariants.{Waiting, Running, Skipped, Ended}
use Rattle.event_core.specs.Enabled.{IsEnabled}
use Rattle.run_law.proofs.Invariants.{is_begun}
use Rattle.event_core.specs.HowFar.{first_lost, first_not_built, is_done, is_lost, is_over, is_waiting, progress_of, upstream_of}
use Rattle.event_core.specs.Standing.{Standing, after, at_first, course_of, ended, module_of}
use Rattle.run_law.proofs.Complete.{IsStanding}
use Rattle.event_core.proofs.Fits.{same_or_not}
use Rattle.event_core.proofs.Ties.{waits_still}
use Rattle.event_core.proofs.Weights.{nothing_is}
use Rattle.run_law.proofs.Basics.{not_not}

abbrev pub is_skipped : Progress → Bool
is_skipped Skipped = true
is_skipped other = false

pub record IsOrdered (o : Outline) (now : Standing) : Type 0 where
  pub begun : (m : ℕ) → is_begun (progress_of now.progress m) ≡ true → first_not_built o now.progress m ≡ None
  pub skipped : (m : ℕ) → is_skipped (progress_of now.progress m) ≡ true → is_some (first_lost o now.progress m) ≡ true

-- ---- what is over stays

-- what waits isn't over
pub waits_not : (p : Progress) → is_waiting p ≡ true → is_over p ≡ true → ⊥
waits_not p waits over = false≢true (sym (waits_still p waits) ∙ over)

-- what is over stays where another module's progress changes
pub set_over : (ps : List Progress) (m : ℕ) (p : Progress) → (is_over (progress_of ps m) ≡ true → ⊥) → (u : ℕ) → is_over (progress_of ps u) ≡ true → progress_of (set ps m p) u ≡ progress_of ps u
set_over ps m p not u over = by (same_or_not u m)
  where
    by : (u ≡ m) ⊎ ((u ≡ m) → ⊥) → progress_of (set ps m p) u ≡ progress_of ps u
    by (inl e) = absurd (not (subst (λ k. is_over (progress_of ps k) ≡ true) e over))
    by (inr other) = get_or-set_other ps m u p Waiting other

-- what is over stays behind each event
pub over_stays : (o : Outline) (now : Standing) (e : Event) → IsStanding o now → IsEnabled o now e → (u : ℕ) → is_over (progress_of now.progress u) ≡ true → progress_of (after o now e).progress u ≡ progress_of now.progress u
unfolding after
over_stays o now (event.Start w m) s is u over = set_over now.progress m (Running w) (waits_not (progress_of now.progress m) is.2) u over
over_stays o now (event.Skip m) s is u over = set_over now.progress m Skipped (waits_not (progress_of now.progress m) is.1) u over
over_stays o now (event.Take w n mode) s is u over = refl
over_stays o now (event.Free w n) s is u over = refl
over_stays o now (event.Read w f) s is u over = refl
over_stays o now (event.Publish w f) s is u over = refl
over_stays o now (event.Answer w g) s is u over = refl
over_stays o now (event.End w e) s is u over = by (module_of (course_of now w)) refl
  where
    by : (at : Option ℕ) → module_of (course_of now w) ≡ at → progress_of (ended at e now.progress) u ≡ progress_of now.progress u
    by None at = refl
    by (Some m) at = set_over now.progress m (Ended e) (λ x. false≢true (sym (ap is_over (s.tied.busy w m at)) ∙ x)) u over

-- ---- searches

-- where nothing passes a test nothing passes a stronger one
pub find_none : (p q : ℕ → Bool) → ((x : ℕ) → p x ≡ false → q x ≡ false) → (xs : List ℕ) → find p xs ≡ None → find q xs ≡ None
find_none p q less [] none = refl
find_none p q less (x ∷ xs) none = by (p x) refl none (find_none p q less xs)
  where
    by : (b : Bool) → p x ≡ b → (if b then Some x else find p xs) ≡ None → (find p xs ≡ None → find q xs ≡ None) → (if q x then Some x else find q xs) ≡ None
    by true e none again = absurd (nothing_is x (sym none))
    by false e none again = ap (λ b. if b then Some x else find q xs) (less x e) ∙ again none

-- where something passes a test something passes a weaker one
pub find_some : (p q : ℕ → Bool) → ((x : ℕ) → p x ≡ true → q x ≡ true) → (xs : List ℕ) → is_some (find p xs) ≡ true → is_some (find q xs) ≡ true
find_some p q more [] some = absurd (false≢true some)
find_some p q more (x ∷ xs) some = by (p x) refl some (q x) refl (find_some p q more xs)
  where
    by : (b : Bool) → p x ≡ b → is_some (if b then Some x else find p xs) ≡ true → (c : Bool) → q x ≡ c → (is_some (find p xs) ≡ true → is_some (find q xs) ≡ true) → is_some (if c then Some x else find q xs) ≡ true
    by b e some true f again = refl
    by true e some false f again = absurd (false≢true (sym f ∙ more x e))
    by false e some false f again = again some

-- ---- one event more

-- what is done is over
pub done_over : (p : Progress) → is_done p ≡ true → is_over p ≡ true
done_over (Ended x) e = refl
done_over Waiting e = absurd (false≢true e)
done_over (Running w) e = absurd (false≢true e)
done_over Skipped e = absurd (false≢true e)

-- so is what is lost
pub lost_over : (p : Progress) → is_lost p ≡ true → is_over p ≡ true
lost_over (Ended x) e = refl
lost_over Waiting e = absurd (false≢true e)
lost_over (Running w) e = absurd (false≢true e)
lost_over Skipped e = refl

module _ (o : Outline) (ps qs : List Progress) (stays : (u : ℕ) → is_over (progress_of ps u) ≡ true → progress_of qs u ≡ progress_of ps u) where
  -- upstreams that were built still are
  still_built : (m : ℕ) → first_not_built o ps m ≡ None → first_not_built o qs m ≡ None
  still_built m none = find_none (λ u. not (is_done (progress_of ps u))) (λ u. not (is_done (progress_of qs u))) (λ u e. let done = not_not (is_done (progress_of ps u)) e in ap (λ p. not (is_done p)) (stays u (done_over (progress_of ps u) done)) ∙ e) (upstream_of o m) none

  -- one that was lost still is
  still_lost : (m : ℕ) → is_some (first_lost o ps m) ≡ true → is_some (first_lost o qs m) ≡ true
  still_lost m some = find_some (λ u. is_lost (progress_of ps u)) (λ u. is_lost (progress_of qs u)) (λ u e. ap is_lost (stays u (lost_over (progress_of ps u) e)) ∙ e) (upstream_of o m) some

-- a progress that changes at one place
module _ (o : Outline) (now : Standing) (m : ℕ) (p : Progress) (ordered : IsOrdered o now)
    (stays : (u : ℕ) → is_over (progress_of now.progress u) ≡ true → progress_of (set now.progress m p) u ≡ progress_of now.progress u)
    (begun : is_begun p ≡ true → first_not_built o now.progress m ≡ None) (skipped : is_skipped p ≡ true → is_some (first_lost o now.progress m) ≡ true) where
  -- a module's progress is as before or the new one
  same_progress : (u : ℕ) → (progress_of (set now.progress m p) u ≡ progress_of now.progress u) ⊎ ((u ≡ m) × (progress_of (set now.progress m p) u ≡ p))
  same_progress u = at now.progress u m
    where
      at : (ps : List Progress) (u m : ℕ) → (progress_of (set ps m p) u ≡ progress_of ps u) ⊎ ((u ≡ m) × (progress_of (set ps m p) u ≡ p))
      at [] u m = inl refl
      at (q ∷ ps) zero zero = inr (refl, refl)
      at (q ∷ ps) zero (suc m) = inl refl
      at (q ∷ ps) (suc u) zero = inl refl
      at (q ∷ ps) (suc u) (suc m) = more (at ps u m)
        where
          more : {A B : Type 0} → A ⊎ ((u ≡ m) × B) → A ⊎ ((suc u ≡ suc m) × B)
          more (inl a) = inl a
          more (inr b) = inr (ap suc b.0, b.1)

  -- what has begun behind a change had its upstreams built
  changed_begun : (u : ℕ) → is_begun (progress_of (set now.progress m p) u) ≡ true → first_not_built o (set now.progress m p) u ≡ None
  changed_begun u is = by (same_progress u)
    where
      by : (progress_of (set now.progress m p) u ≡ progress_of now.progress u) ⊎ ((u ≡ m) × (progress_of (set now.progress m p) u ≡ p)) → first_not_built o (set now.progress m p) u ≡ None
      by (inl e) = still_built o now.progress (set now.progress m p) stays u (ordered.begun u (sym (ap is_begun e) ∙ is))
      by (inr e) = still_built o now.progress (set now.progress m p) stays u (subst (λ k. first_not_built o now.progress k ≡ None) (sym e.0) (begun (sym (ap is_begun e.1) ∙ is)))

  -- and what is skipped had one lost
  changed_skipped : (u : ℕ) → is_skipped (progress_of (set now.progress m p) u) ≡ true → is_some (first_lost o (set now.progress m p) u) ≡ true
  changed_skipped u is = by (same_progress u)
    where
      by : (progress_of (set now.progress m p) u ≡ progress_of now.progress u) ⊎ ((u ≡ m) × (progress_of (set now.progress m p) u ≡ p)) → is_some (first_lost o (set now.progress m p) u) ≡ true
      by (inl e) = still_lost o now.progress (set now.progress m p) stays u (ordered.skipped u (sym (ap is_skipped e) ∙ is))
      by (inr e) = still_lost o now.progress (set now.progress m p) stays u (subst (λ k. is_some (first_lost o now.progress k) ≡ true) (sym e.0) (skipped (sym (ap is_skipped e.1) ∙ is)))

-- so it stays behind each event
pub ordered_after : (o : Outline) (now : Standing) (e : Event) → IsStanding o now → IsOrdered o now → IsEnabled o now e → IsOrdered o (after o now e)
unfolding after
ordered_after o now (event.Start w m) s ordered is =
    let stays = set_over now.progress m (Running w) (waits_not (progress_of now.progress m) is.2) in
    record { begun = changed_begun o now m (Running w) ordered stays (λ b. is.3) (λ b. absurd (false≢true b)); skipped = changed_skipped o now m (Running w) ordered stays (λ b. is.3) (λ b. absurd (false≢true b)) }
ordered_after o now (event.Skip m) s ordered is =
    let stays = set_over now.progress m Skipped (waits_not (progress_of now.progress m) is.1) in
    record { begun = changed_begun o now m Skipped ordered stays (λ b. absurd (false≢true b)) (λ b. is.2); skipped = changed_skipped o now m Skipped ordered stays (λ b. absurd (false≢true b)) (λ b. is.2) }
ordered_after o now (event.Take w n mode) s ordered is = record { begun = ordered.begun; skipped = ordered.skipped }
ordered_after o now (event.Free w n) s ordered is = record { begun = ordered.begun; skipped = ordered.skipped }
ordered_after o now (event.Read w f) s ordered is = record { begun = ordered.begun; skipped = ordered.skipped }
ordered_after o now (event.Publish w f) s ordered is = record { begun = ordered.begun; skipped = ordered.skipped }
ordered_after o now (event.Answer w g) s ordered is = record { begun = ordered.begun; skipped = ordered.skipped }
ordered_after o now (event.End w e) s ordered is = by (module_of (course_of now w)) refl
  where
    by : (at : Option ℕ) → module_of (course_of now w) ≡ at → IsOrdered o (record (after o now (event.End w e)) { progress = ended at e now.progress })
    by None at = record { begun = ordered.begun; skipped = ordered.skipped }
    by (Some m) at =
        let stays = set_over now.progress m (Ended e) (λ x. false≢true (sym (ap is_over (s.tied.busy w m at)) ∙ x)) in
        let built = ordered.begun m (ap is_begun (s.tied.busy w m at)) in
        record { begun = changed_begun o now m (Ended e) ordered stays (λ b. built) (λ b. absurd (false≢true b)); skipped = changed_skipped o now m (Ended e) ordered stays (λ b. built) (λ b. absurd (false≢true b)) }

-- at first each module waits
waiting_first : (n m : ℕ) → progress_of (replicate n Waiting) m ≡ Waiting
waiting_first zero m = refl
waiting_first (suc n) zero = refl
waiting_first (suc n) (suc m) = waiting_first n m

-- so it holds where nothing has happened
pub ordered_first : (o : Outline) → IsOrdered o (at_first o)
ordered_first o = record {
  begun = λ m is. absurd (false≢true (sym (ap is_begun (waiting_first (length o.modules) m)) ∙ is));
  skipped = λ m is. absurd (false≢true (sym (ap is_skipped (waiting_first (length o.modules) m)) ∙ is));
}
