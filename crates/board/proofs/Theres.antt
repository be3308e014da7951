-- Which files are there is what the repository tells.
use Rattle.std.proofs.Common.{◌≡◌, ℕ, ◌<◌, ◌⊎◌, inl, inr, Bool, true, false, cond, List, [], ◌∷◌, ◌++◌, length, fold, set, Option, Some, None, is_some, option_map, refl, arith, sym, ap, subst, ◌∙◌}
use Rattle.std.specs.List.{list_all}
use Rattle.std.specs.FinMap as finite
use Rattle.std.specs.Ordering.{eq_by_cmp, nat_cmp}
use Rattle.std.specs.Cmp.Lexicographic.{slice_cmp}
use Rattle.std.proofs.lemmas.Bool.{false≢true}
use Rattle.std.proofs.lemmas.List.{append-nil, append_assoc, get_or-set_other, get_or-set_same}
use Rattle.mvn_shared.specs.Files.{Files, file_at}
use Rattle.mvn_outside.specs.Shelf.{files_now, with_publish}
use Rattle.mvn_outside.specs.declared.shelf.Published.{Published}
use Rattle.mvn_outside.specs.declared.shelf.ShelfTold.{ShelfTold}
use Rattle.build_core.specs.OneThread.{name_of}
use Rattle.build_core.specs.declared.event.Event.{Event}
use Rattle.build_core.specs.declared.event.Event.TheVariants as event
use Rattle.build_core.specs.declared.plan.Plan.{Plan}
use Rattle.event_core.specs.Enabled.{Enabled, IsEnabled, IsRun}
use Rattle.scripts.specs.Outlines.{outline_of}
use Rattle.event_core.specs.Runs.{IsRunOf, contents, events_of, put_carried, put_under, standing_of_run, writes_of}
use Rattle.scripts.specs.Scripts.{is_there}
use Rattle.event_core.specs.SoundPlans.{IsSoundPlan}
use Rattle.event_core.specs.Standing.{Standing, after, at_first, standing_of}
use Rattle.event_core.specs.Worlds.{is_told}
use Rattle.event_core.specs.declared.entry.Carried.{Carried}
use Rattle.event_core.specs.declared.entry.Carried.TheVariants as carried
use Rattle.event_core.specs.declared.entry.RunEntry.{RunEntry}
use Rattle.scripts.specs.declared.outline.Outline.{Outline}
use Rattle.event_core.proofs.Fits.{fold_more, one_more, same_or_not}
use Rattle.run_law.specs.Given.{IsPresent}
use Rattle.run_law.proofs.Carried.{at_insert, name_itself}
use Rattle.run_law.proofs.Complete.{events_more}
use Rattle.run_law.proofs.Once.{both}
use Rattle.run_law.proofs.Sounds.{sound_fit}
use Rattle.board.specs.Logs.{AreCarried, published_as, publishes_in}
use Rattle.board.proofs.DueReads.{sized_after}

-- ---- the log's publishes are what it puts

abbrev more_of : Option Published → List Published → List Published
more_of None ps = ps
more_of (Some p) ps = p ∷ ps

put_one : (plan : Plan) (files : Files) (e : Event) (what : Carried) (ps : List Published) → fold with_publish files (more_of (published_as plan e what) ps) ≡ fold with_publish (put_carried plan files e what) ps
put_one plan files e carried.Nothing ps = by (writes_of plan e)
  where
    by : (name : Option (List ℕ)) → fold with_publish files ps ≡ fold with_publish (put_under files name carried.Nothing) ps
    by None = refl
    by (Some name) = refl
put_one plan files e (carried.Answered answer) ps = by (writes_of plan e)
  where
    by : (name : Option (List ℕ)) → fold with_publish files ps ≡ fold with_publish (put_under files name (carried.Answered answer)) ps
    by None = refl
    by (Some name) = refl
put_one plan files e (carried.Published bytes) ps = by (writes_of plan e)
  where
    by : (name : Option (List ℕ)) → fold with_publish files (more_of (option_map (λ name. record { name = name; bytes = bytes }) name) ps) ≡ fold with_publish (put_under files name (carried.Published bytes)) ps
    by None = refl
    by (Some name) = refl

put_all : (plan : Plan) (files : Files) (log : List RunEntry) → fold with_publish files (publishes_in plan log) ≡ contents plan files log
put_all plan files [] = refl
put_all plan files (x ∷ log) = put_one plan files x.event x.carried (publishes_in plan log) ∙ put_all plan (put_carried plan files x.event x.carried) log

fold_append : {A B : Type 0} (f : B → A → B) (xs ys : List A) (s : B) → fold f s (xs ++ ys) ≡ fold f (fold f s xs) ys
fold_append f [] ys s = refl
fold_append f (x ∷ xs) ys s = fold_append f xs ys (f s x)

-- what a repository tells behind a log has the log's contents
pub told_contents : (plan : Plan) (log : List RunEntry) (t : ShelfTold) → files_now (record t { publishes = t.publishes ++ publishes_in plan log }) ≡ contents plan (files_now t) log
told_contents plan log t = fold_append with_publish t.publishes (publishes_in plan log) t.opening ∙ put_all plan (files_now t) log

-- ---- which files are there

module _ (plan : Plan) (sound : IsSoundPlan plan) (start : Files) (present : IsPresent plan start) where
  abbrev o : Outline
  o = outline_of plan

  record Stands (now : Standing) (files : Files) : Type 0 where
    sized : length now.there ≡ length plan.files
    there : (f : ℕ) → f < length plan.files → is_there now.there f ≡ is_some (file_at files (name_of plan f))

  module _ (now : Standing) (files : Files) (f : ℕ) (bytes : List ℕ) (low : f < length plan.files) (s : Stands now files) where
    name_apart : (g : ℕ) → g < length plan.files → (g ≡ f → ⊥) → eq_by_cmp (slice_cmp nat_cmp) (name_of plan g) (name_of plan f) ≡ false
    name_apart g small other = by (eq_by_cmp (slice_cmp nat_cmp) (name_of plan g) (name_of plan f)) refl
      where
        by : (b : Bool) → eq_by_cmp (slice_cmp nat_cmp) (name_of plan g) (name_of plan f) ≡ b → eq_by_cmp (slice_cmp nat_cmp) (name_of plan g) (name_of plan f) ≡ false
        by false e = e
        by true e = absurd (other ((sound_fit plan sound).differ g f small low e))

    put_there : (g : ℕ) → g < length plan.files → (g ≡ f) ⊎ ((g ≡ f) → ⊥) → is_there (set now.there f true) g ≡ is_some (file_at (finite.insert files (name_of plan f) bytes) (name_of plan g))
    put_there g small (inl e) = subst (λ k. is_there (set now.there f true) k ≡ is_some (file_at (finite.insert files (name_of plan f) bytes) (name_of plan k))) (sym e)
        (get_or-set_same now.there f true false (let n = s.sized in omega (arith, low, n)) ∙ sym (ap is_some (at_insert files (name_of plan f) bytes (name_of plan f) ∙ ap (λ b. cond b (Some bytes) (file_at files (name_of plan f))) (name_itself (name_of plan f)))))
    put_there g small (inr other) = get_or-set_other now.there f g true false other ∙ s.there g small
        ∙ sym (ap is_some (at_insert files (name_of plan f) bytes (name_of plan g) ∙ ap (λ b. cond b (Some bytes) (file_at files (name_of plan g))) (name_apart g small other)))

  stays : {now next : Standing} {files : Files} → next.there ≡ now.there → Stands now files → Stands next files
  stays same s = record { sized = ap length same ∙ s.sized; there = λ f low. ap (λ t. is_there t f) same ∙ s.there f low }

  stands_after : (now : Standing) (files : Files) (e : Event) (what : Carried) → Stands now files → IsEnabled o now e → is_told true e what ≡ true → Stands (after o now e) (put_carried plan files e what)
  unfolding after
  stands_after now files (event.Start w m) what s is told = stays refl s
  stands_after now files (event.Skip m) what s is told = stays refl s
  stands_after now files (event.Take w n mode) what s is told = stays refl s
  stands_after now files (event.Free w n) what s is told = stays refl s
  stands_after now files (event.Read w f) what s is told = stays refl s
  stands_after now files (event.Answer w g) what s is told = stays refl s
  stands_after now files (event.End w e) what s is told = stays refl s
  stands_after now files (event.Publish w f) carried.Nothing s is told = absurd (false≢true told)
  stands_after now files (event.Publish w f) (carried.Answered answer) s is told = absurd (false≢true told)
  stands_after now files (event.Publish w f) (carried.Published bytes) s is told =
      let low : f < length plan.files = (let a = is.1 in let b = sound.present in omega (arith, a, b)) in
      record { sized = sized_after o now (event.Publish w f) ∙ s.sized; there = λ g small. put_there now files f bytes low s g small (same_or_not g f) }

  stands_first : Stands (at_first o) start
  stands_first = record { sized = sound.present; there = present }

  stands_all : (past rest : List RunEntry) → Stands (standing_of_run plan past) (contents plan start past) → IsRun o (events_of past) (events_of rest) → AreCarried true rest → Stands (standing_of_run plan (past ++ rest)) (contents plan start (past ++ rest))
  unfolding Enabled
  stands_all past [] s run told = subst (λ es. Stands (standing_of_run plan es) (contents plan start es)) (sym (append-nil past)) s
  stands_all past (e ∷ rest) s run told =
      let parts = both (is_told true e.event e.carried) (list_all (λ (x : RunEntry). is_told true x.event x.carried) rest) told in
      let next : standing_of_run plan (past ++ e ∷ []) ≡ after o (standing_of_run plan past) e.event = ap (standing_of o) (events_more past e) ∙ one_more o (events_of past) e.event in
      let one : Stands (standing_of_run plan (past ++ e ∷ [])) (contents plan start (past ++ e ∷ [])) =
      subst (λ now. Stands now (contents plan start (past ++ e ∷ []))) (sym next)
      (subst (Stands (after o (standing_of_run plan past) e.event)) (sym (fold_more (λ files (x : RunEntry). put_carried plan files x.event x.carried) past start e))
      (stands_after (standing_of_run plan past) (contents plan start past) e.event e.carried s run.0 parts.0)) in
      subst (λ es. Stands (standing_of_run plan es) (contents plan start es)) (append_assoc past (e ∷ []) rest)
      (stands_all (past ++ e ∷ []) rest one (subst (λ es. IsRun o es (events_of rest)) (sym (events_more past e)) run.1) parts.1)

  -- the marks of files are what the contents have
  pub there_is : (log : List RunEntry) → IsRunOf plan log → AreCarried true log → (f : ℕ) → f < length plan.files → is_there (standing_of_run plan log).there f ≡ is_some (file_at (contents plan start log) (name_of plan f))
  there_is log run told f low = (stands_all [] log stands_first run told).there f low
