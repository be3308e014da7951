-- A run publishes each name once, and its publishes are what it leaves.
use Rattle.std.proofs.Common.{◌≡◌, ◌≢◌, ℕ, ◌<◌, ◌⊎◌, inl, inr, Bool, true, false, ◌||◌, nat_eq, fold, List, [], ◌∷◌, ◌++◌, length, map, Option, Some, None, option_map, arith, refl, sym, ap, subst, ◌∙◌}
use Rattle.std.specs.List.{AllByRecursion, list_any}
use Rattle.std.specs.Ordering.{eq_by_cmp, nat_cmp}
use Rattle.std.specs.Cmp.Lexicographic.{slice_cmp}
use Rattle.std.proofs.lemmas.Bool.{eq-eqb, false≢true}
use Rattle.std.proofs.lemmas.List.{append-nil, map-append}
use Rattle.std.proofs.lemmas.List.Elements.{filter_map-append}
use Rattle.mvn_shared.specs.Files.{Files}
use Rattle.mvn_outside.specs.Shelf.{files_now, with_publish}
use Rattle.mvn_outside.specs.declared.shelf.Published.{Published}
use Rattle.mvn_outside.specs.declared.shelf.ShelfTold.{ShelfTold}
use Rattle.build_core.specs.OneThread.{name_of}
use Rattle.build_core.specs.declared.event.Event.{Event}
use Rattle.build_core.specs.declared.event.Event.TheVariants as event
use Rattle.build_core.specs.declared.plan.Plan.{Plan}
use Rattle.event_core.specs.Enabled.{Enabled, IsEnabled}
use Rattle.scripts.specs.Outlines.{outline_of}
use Rattle.event_core.specs.Runs.{IsRunOf, contents, events_of, put_carried, put_under, standing_of_run, writes_of}
use Rattle.event_core.specs.SoundPlans.{IsSoundPlan}
use Rattle.event_core.specs.Worlds.{publishes, was_published}
use Rattle.event_core.specs.declared.entry.Carried.{Carried}
use Rattle.event_core.specs.declared.entry.Carried.TheVariants as carried
use Rattle.event_core.specs.declared.entry.RunEntry.{RunEntry}
use Rattle.board.specs.Logs.{published_as, publishes_in}
use Rattle.run_law.proofs.Basics.{or_left, or_right}
use Rattle.run_law.proofs.Carried.{name_itself}
use Rattle.run_law.proofs.LaterMoments.{put_stays}
use Rattle.run_law.proofs.PublishedOnce as published
use Rattle.run_law.proofs.Sounds.{sound_fit}
use Rattle.crew.specs.Once.{AreApart}
use Rattle.crew.proofs.Behind.{behind}

-- ---- the run's publishes are what it puts

abbrev more_of : Option Published → List Published → List Published
more_of None ps = ps
more_of (Some p) ps = p ∷ ps

put_one : (plan : Plan) (files : Files) (e : Event) (what : Carried) (ps : List Published) → fold with_publish files (more_of (published_as plan e what) ps) ≡ fold with_publish (put_carried plan files e what) ps
put_one plan files e carried.Nothing ps = by (writes_of plan e)
  where
    by : (name : Option (List ℕ)) → fold with_publish files ps ≡ fold with_publish (put_under files name carried.Nothing) ps
    by None = refl
    by (Some name) = refl
put_one plan files e (carried.Answered answer) ps = by (writes_of plan e)
  where
    by : (name : Option (List ℕ)) → fold with_publish files ps ≡ fold with_publish (put_under files name (carried.Answered answer)) ps
    by None = refl
    by (Some name) = refl
put_one plan files e (carried.Published bytes) ps = by (writes_of plan e)
  where
    by : (name : Option (List ℕ)) → fold with_publish files (more_of (option_map (λ name. record { name = name; bytes = bytes }) name) ps) ≡ fold with_publish (put_under files name (carried.Published bytes)) ps
    by None = refl
    by (Some name) = refl

put_all : (plan : Plan) (files : Files) (run : List RunEntry) → fold with_publish files (publishes_in plan run) ≡ contents plan files run
put_all plan files [] = refl
put_all plan files (x ∷ run) = put_one plan files x.event x.carried (publishes_in plan run) ∙ put_all plan (put_carried plan files x.event x.carried) run

fold_append : {A B : Type 0} (f : B → A → B) (xs ys : List A) (s : B) → fold f s (xs ++ ys) ≡ fold f (fold f s xs) ys
fold_append f [] ys s = refl
fold_append f (x ∷ xs) ys s = fold_append f xs ys (f s x)

-- what a repository tells behind a run has the files that it leaves
pub told_contents : (plan : Plan) (run : List RunEntry) (t : ShelfTold) → files_now (record t { publishes = t.publishes ++ publishes_in plan run }) ≡ contents plan (files_now t) run
told_contents plan run t = fold_append with_publish t.publishes (publishes_in plan run) t.opening ∙ put_all plan (files_now t) run

-- ---- names

abbrev names : List Published → List (List ℕ)
names ps = map (λ (p : Published). p.name) ps

-- an entry whose event writes no name publishes nothing
bare : (plan : Plan) (e : Event) (what : Carried) → writes_of plan e ≡ None → publishes_in plan ((record { event = e; carried = what }) ∷ []) ≡ []
bare plan e carried.Nothing none = refl
bare plan e (carried.Answered answer) none = refl
bare plan e (carried.Published bytes) none = rw none refl

abbrev Adds : Plan → Event → Carried → Type 0
Adds plan e what = (publishes_in plan ((record { event = e; carried = what }) ∷ []) ≡ [])
    ⊎ ((w : ℕ) × (f : ℕ) × (p : Published) × (e ≡ event.Publish w f) × (p.name ≡ name_of plan f) × (publishes_in plan ((record { event = e; carried = what }) ∷ []) ≡ p ∷ []))

-- an entry publishes nothing, or its event's file
adds : (plan : Plan) (e : Event) (what : Carried) → Adds plan e what
adds plan (event.Start w m) what = inl (bare plan (event.Start w m) what refl)
adds plan (event.Skip m) what = inl (bare plan (event.Skip m) what refl)
adds plan (event.Take w n mode) what = inl (bare plan (event.Take w n mode) what refl)
adds plan (event.Free w n) what = inl (bare plan (event.Free w n) what refl)
adds plan (event.Read w f) what = inl (bare plan (event.Read w f) what refl)
adds plan (event.Publish w f) carried.Nothing = inl refl
adds plan (event.Publish w f) (carried.Answered answer) = inl refl
adds plan (event.Publish w f) (carried.Published bytes) = inr (w, f, record { name = name_of plan f; bytes = bytes }, refl, refl, refl)
adds plan (event.Answer w g) what = inl (bare plan (event.Answer w g) what refl)
adds plan (event.End w x) what = inl (bare plan (event.End w x) what refl)

-- ---- lists of names

all_weaker : {A : Type 0} (P Q : A → Type 0) → ((x : A) → P x → Q x) → (xs : List A) → AllByRecursion P xs → AllByRecursion Q xs
all_weaker P Q h [] all = tt
all_weaker P Q h (x ∷ xs) all = (h x all.0, all_weaker P Q h xs all.1)

all_last : {A : Type 0} (P : A → Type 0) (xs : List A) (y : A) → AllByRecursion P xs → P y → AllByRecursion P (xs ++ y ∷ [])
all_last P [] y all last = (last, tt)
all_last P (x ∷ xs) y all last = (all.0, all_last P xs y all.1 last)

-- a name more that differs from all
apart_last : (xs : List (List ℕ)) (y : List ℕ) → AreApart xs → AllByRecursion (λ x. x ≢ y) xs → AreApart (xs ++ y ∷ [])
apart_last [] y apart other = (tt, tt)
apart_last (x ∷ xs) y apart other = (all_last (λ z. x ≢ z) xs y apart.0 other.0, apart_last xs y apart.1 other.1)

-- ---- behind a run

module _ (plan : Plan) (sound : IsSoundPlan plan) where
  -- a name is that of a file that was published
  abbrev IsNamed : List RunEntry → List ℕ → Type 0
  IsNamed past name = (f : ℕ) × (f < length plan.files) × (was_published past f ≡ true) × (name ≡ name_of plan f)

  record AreOnce (past : List RunEntry) : Type 0 where
    apart : AreApart (names (publishes_in plan past))
    named : AllByRecursion (IsNamed past) (names (publishes_in plan past))

  named_more : (past : List RunEntry) (e : RunEntry) (name : List ℕ) → IsNamed past name → IsNamed (past ++ e ∷ []) name
  named_more past e name is = (is.0, is.1, put_stays past (e ∷ []) is.0 is.2, is.3)

  -- the last entry's publish was published
  was_last : (past : List RunEntry) (e : RunEntry) (w f : ℕ) → e.event ≡ event.Publish w f → was_published (past ++ e ∷ []) f ≡ true
  was_last [] e w f is = or_left (publishes f e.event) false (ap (publishes f) is ∙ eq-eqb f f refl)
  was_last (x ∷ past) e w f is = or_right (publishes f x.event) (was_published (past ++ e ∷ []) f) (was_last past e w f is)

  -- a file that wasn't published has another name than those that were
  other_name : (past : List RunEntry) (f : ℕ) → f < length plan.files → was_published past f ≡ false → (name : List ℕ) → IsNamed past name → name ≢ name_of plan f
  other_name past f low not name is same =
      let here : name_of plan is.0 ≡ name_of plan f = sym is.3 ∙ same in
      let equal : is.0 ≡ f = (sound_fit plan sound).differ is.0 f is.1 low (subst (λ n. eq_by_cmp (slice_cmp nat_cmp) (name_of plan is.0) n ≡ true) here (name_itself (name_of plan is.0))) in
      false≢true (sym not ∙ ap (was_published past) (sym equal) ∙ is.2)

  once_more : (past : List RunEntry) (e : RunEntry) → IsRunOf plan past → AreOnce past → IsEnabled (outline_of plan) (standing_of_run plan past) e.event → AreOnce (past ++ e ∷ [])
  unfolding Enabled
  once_more past e run holds is = by (adds plan e.event e.carried)
    where
      split : names (publishes_in plan (past ++ e ∷ [])) ≡ names (publishes_in plan past) ++ names (publishes_in plan (e ∷ []))
      split = ap names (filter_map-append (λ (x : RunEntry). published_as plan x.event x.carried) past (e ∷ [])) ∙ map-append (λ (p : Published). p.name) (publishes_in plan past) (publishes_in plan (e ∷ []))

      later : AllByRecursion (IsNamed (past ++ e ∷ [])) (names (publishes_in plan past))
      later = all_weaker (IsNamed past) (IsNamed (past ++ e ∷ [])) (named_more past e) (names (publishes_in plan past)) holds.named

      by : Adds plan e.event e.carried → AreOnce (past ++ e ∷ [])
      by (inl none) =
          let same : names (publishes_in plan (past ++ e ∷ [])) ≡ names (publishes_in plan past) = split ∙ ap (λ (ps : List Published). names (publishes_in plan past) ++ names ps) none ∙ append-nil (names (publishes_in plan past)) in
          record { apart = subst AreApart (sym same) holds.apart; named = subst (AllByRecursion (IsNamed (past ++ e ∷ []))) (sym same) later }
      by (inr (w, f, p, at, name, one)) =
          let same : names (publishes_in plan (past ++ e ∷ [])) ≡ names (publishes_in plan past) ++ name_of plan f ∷ [] = split ∙ ap (λ (ps : List Published). names (publishes_in plan past) ++ names ps) one ∙ ap (λ n. names (publishes_in plan past) ++ n ∷ []) name in
          let may : IsEnabled (outline_of plan) (standing_of_run plan past) (event.Publish w f) = subst (IsEnabled (outline_of plan) (standing_of_run plan past)) at is in
          let low = may.1 in let sized = sound.present in
          let inside : f < length plan.files = omega (arith, low, sized) in
          let new : was_published past f ≡ false = published.once plan sound past w f run may in
          record {
            apart = subst AreApart (sym same) (apart_last (names (publishes_in plan past)) (name_of plan f) holds.apart (all_weaker (IsNamed past) (λ n. n ≢ name_of plan f) (other_name past f inside new) (names (publishes_in plan past)) holds.named));
            named = subst (AllByRecursion (IsNamed (past ++ e ∷ []))) (sym same) (all_last (IsNamed (past ++ e ∷ [])) (names (publishes_in plan past)) (name_of plan f) later (f, inside, was_last past e w f at, refl));
          }

-- no name is published twice
pub once : (plan : Plan) (run : List RunEntry) → IsSoundPlan plan → IsRunOf plan run → AreApart (names (publishes_in plan run))
once plan run sound is = (behind plan (AreOnce plan sound) (λ past e before s holds may. once_more plan sound past e before holds may) (record { apart = tt; named = tt }) run is).apart
