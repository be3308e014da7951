-- That some worker goes on.
use Rattle.std.proofs.Common.{◌≡◌, ℕ, zero, suc, ◌+◌, ◌<◌, ◌≤◌, ◌⊎◌, inl, inr, Bool, true, false, ◌&&◌, ◌||◌, not, nat_eq, nat_lt, List, [], ◌∷◌, length, map, take, get_or, slice_get, find, Option, Some, None, is_some, is_none, unwrap_or, refl, arith, sym, ap, subst, ◌∙◌, if◌then◌else◌}
use Rattle.std.specs.List.{list_all}
use Rattle.std.specs.Option.{option_map_or, option_or}
use Rattle.std.proofs.lemmas.Bool.{eqb-true, false≢true, ltb-true, lt-ltb}
use Rattle.std.proofs.lemmas.Cmp.{nat_eq_equiv}
use Rattle.std.proofs.lemmas.List.Elements.{All-get_or}
use Rattle.std.proofs.lemmas.List.Folds.{find-append}
use Rattle.build_core.specs.declared.mode.Mode.{Mode}
use Rattle.build_core.specs.declared.mode.Mode.TheVariants.{Shared, Exclusive}
use Rattle.build_core.specs.Locks.{below, blocker, blocks, excludes, hold, workers_of}
use Rattle.build_core.specs.declared.ending.Ending.{Ending}
use Rattle.build_core.specs.declared.ending.Ending.TheVariants.{Built, ClasspathTooLarge, Fault, Goal, Memory, Missing, NoArtifact, OutputTooLarge}
use Rattle.event_core.specs.declared.module_steps.Progress.{Progress}
use Rattle.event_core.specs.declared.module_steps.Progress.TheVariants.{Waiting, Running, Skipped, Ended}
use Rattle.build_core.specs.declared.event.Event.TheVariants as event
use Rattle.scripts.specs.declared.outline.Outline.{Outline}
use Rattle.scripts.specs.declared.outline.ModuleOutline.{ModuleOutline}
use Rattle.scripts.specs.declared.deed.Deed.{Deed}
use Rattle.scripts.specs.declared.deed.Deed.TheVariants as deed
use Rattle.scripts.specs.declared.script_place.ScriptPlace.{ScriptPlace}
use Rattle.scripts.specs.declared.script_place.ScriptPlace.TheVariants as place
use Rattle.event_core.specs.declared.course.Course.{Course as KeptCourse}
use Rattle.event_core.specs.declared.course.Course.TheVariants as kept
use Rattle.scripts.specs.Climbing.{Climbs}
use Rattle.event_core.specs.Enabled.{is_due, may_end_so}
use Rattle.event_core.specs.Fitting.{IsFit, IsTied}
use Rattle.event_core.specs.Holders.{AllHold, CourseHolds}
use Rattle.scripts.specs.HeldAt.{HoldsAt}
use Rattle.scripts.specs.Outlines.{is_empty, is_listed}
use Rattle.event_core.specs.Going.{AreOn, GoesOn, is_on}
use Rattle.scripts.specs.Scripts.{Script, done, same_mode, step, takes, whole}
use Rattle.event_core.specs.Sound.{IsSound, IsSoundModule, are_below}
use Rattle.event_core.specs.Kept.{course_at}
use Rattle.scripts.specs.ScriptPlaces.{IsPlaced, rest_of}
use Rattle.event_core.specs.HowFar.{first_lost, first_not_built, is_done, is_lost, is_over, is_ready, is_skippable, is_waiting, progress_of, upstream_of}
use Rattle.event_core.specs.Standing.{Standing, course_of, goals_of, held_by, idle, is_complete, module_of, on_course}
use Rattle.scripts.proofs.Climbs.{both, get_map, none_beyond}
use Rattle.scripts.proofs.Dues.{answer_yes, below_or_not, fetch_yes, lock_here, lock_yes, not_take, own_freed_none, own_freed_yes, own_here, own_yes, pom_yes, read_yes, share_here, share_yes}
use Rattle.event_core.proofs.Weights.{nothing_is}

-- ---- numbers of lists

same : (n : ℕ) → nat_eq n n ≡ true
same n = nat_eq_equiv.refl n

item_below : (n : ℕ) (xs : List ℕ) (i : ℕ) → are_below n xs ≡ true → i < length xs → get_or xs i 0 < n
item_below n [] i all low = absurd (omega (arith, low))
item_below n (x ∷ xs) zero all low = ltb-true x n (both (nat_lt x n) (are_below n xs) all).0
item_below n (x ∷ xs) (suc i) all low = item_below n xs i (both (nat_lt x n) (are_below n xs) all).1 (omega (arith, low))

-- of numbers that ascend those before one are below it
climbs_item : (xs : List ℕ) (low i : ℕ) → Climbs low xs → i < length xs → low ≤ get_or xs i 0
climbs_item [] low i climbs inside = absurd (omega (arith, inside))
climbs_item (x ∷ xs) low zero climbs inside = climbs.0
climbs_item (x ∷ xs) low (suc i) climbs inside = let more = climbs_item xs (suc x) i climbs.1 (omega (arith, inside)) in omega (arith, more, climbs.0)

front_below : (xs : List ℕ) (low i : ℕ) → Climbs low xs → i < length xs → are_below (get_or xs i 0) (take i xs) ≡ true
front_below [] low i climbs inside = absurd (omega (arith, inside))
front_below (x ∷ xs) low zero climbs inside = refl
front_below (x ∷ xs) low (suc i) climbs inside =
    let more = climbs_item xs (suc x) i climbs.1 (omega (arith, inside)) in
    let first : nat_lt x (get_or xs i 0) ≡ true = lt-ltb x (get_or xs i 0) (omega (arith, more)) in
    rw first (front_below xs (suc x) i climbs.1 (omega (arith, inside)))

-- ---- what a worker's next event is: one that may come, or a name that another holds

pub record IsBlocked (o : Outline) (now : Standing) (v : ℕ) : Type 0 where
  pub name : ℕ
  pub mode : Mode
  pub holder : ℕ
  pub low : name < o.names
  pub above : are_below name (held_by now v) ≡ true
  pub due : is_due (course_of now v) (deed.Take mode name) ≡ true
  pub blocked : blocker now.locks name v mode ≡ Some holder

some_done : (s : Script) (d : Deed) (rest : Script) → Some rest ≡ done s d → is_some (done s d) ≡ true
some_done s d rest e = ap is_some (sym e)

module _ (o : Outline) (now : Standing) (v : ℕ) (inside : v < o.workers) where
  -- a name that is due
  names_on : (n : ℕ) (mode : Mode) → n < o.names → are_below n (held_by now v) ≡ true → is_due (course_of now v) (deed.Take mode n) ≡ true → GoesOn o now v ⊎ IsBlocked o now v
  names_on n mode low above due = by (blocker now.locks n v mode) refl
    where
      by : (found : Option ℕ) → blocker now.locks n v mode ≡ found → GoesOn o now v ⊎ IsBlocked o now v
      by None e = inl (record { next = event.Take v n mode; due = (refl, due); enabled = (inside, low, e, above, due) })
      by (Some h) e = inr (record { name = n; mode = mode; holder = h; low = low; above = above; due = due; blocked = e })

  -- where its course is the rest of a module from a place on
  module _ (number : ℕ) (answered : Option ℕ) (m : ModuleOutline) (s : ScriptPlace) (at : course_of now v ≡ on_course number (rest_of m s) answered) where
    deed_due : (d : Deed) → is_some (done (rest_of m s) d) ≡ true → is_due (course_of now v) d ≡ true
    deed_due d is = ap (λ c. is_due c d) at ∙ is

    deed_some : (d : Deed) (rest : Script) → Some rest ≡ done (rest_of m s) d → is_due (course_of now v) d ≡ true
    deed_some d rest e = deed_due d (some_done (rest_of m s) d rest e)

    read_on : (f : ℕ) → f < length o.present → is_due (course_of now v) (deed.Read f) ≡ true → GoesOn o now v ⊎ IsBlocked o now v
    read_on f low due = inl (record { next = event.Read v f; due = (refl, due); enabled = (inside, low, due) })

    publish_on : (f : ℕ) → f < length o.present → is_due (course_of now v) (deed.Publish f) ≡ true → GoesOn o now v ⊎ IsBlocked o now v
    publish_on f low due = inl (record { next = event.Publish v f; due = (refl, due); enabled = (inside, low, due) })

    free_on : (n : ℕ) → n < o.names → is_some (hold now.locks n v) ≡ true → is_due (course_of now v) deed.Free ≡ true → GoesOn o now v ⊎ IsBlocked o now v
    free_on n low held due = inl (record { next = event.Free v n; due = (refl, due); enabled = (inside, low, held) })

    -- at each place something is due
    module _ (fit : IsFit o now) (tied : IsTied o now) (sound : IsSoundModule o number m) (goals : goals_of o number ≡ m.goals) where
      first_free : (held : List ℕ) → held_by now v ≡ held → is_empty held ≡ false → is_due (course_of now v) deed.Free ≡ true → GoesOn o now v ⊎ IsBlocked o now v
      first_free [] e some_held due = absurd (false≢true (sym some_held))
      first_free (n ∷ held) e some_held due =
          let rows = All-get_or (λ t. list_all (λ h. nat_lt h o.names) t ≡ true) now.held v [] (omega (arith, inside, fit.rows)) fit.low in
          let low = ltb-true n o.names (both (nat_lt n o.names) (are_below o.names held) (subst (λ t. list_all (λ h. nat_lt h o.names) t ≡ true) e rows)).0 in
          let listed : is_listed n (held_by now v) ≡ true = subst (λ t. is_listed n t ≡ true) (sym e) (ap (λ b. b || is_listed n held) (same n)) in
          free_on n low (tied.held v n inside listed) due

      pub at_place : HoldsAt m s (held_by now v) → GoesOn o now v ⊎ IsBlocked o now v
      unfolding rest_of
      at_place = by s refl
        where
          due_at : (t : ScriptPlace) → s ≡ t → (d : Deed) (rest : Script) → Some rest ≡ done (rest_of m t) d → is_due (course_of now v) d ≡ true
          due_at t is d rest e = deed_some d rest (subst (λ u. Some rest ≡ done (rest_of m u) d) (sym is) e)

          by : (t : ScriptPlace) → s ≡ t → HoldsAt m t (held_by now v) → GoesOn o now v ⊎ IsBlocked o now v
          by (place.Sharing i) is holds =
              let n = get_or m.batch i 0 in
              names_on n Shared (item_below o.names m.batch i sound.names holds.0) (subst (λ t. are_below n t ≡ true) (sym holds.1) (front_below m.batch 0 i sound.batch holds.0))
              (due_at (place.Sharing i) is (deed.Take Shared n) (rest_of m (place.Sharing (i + 1))) (share_yes m i n holds.0 (same n)))
          by place.Unsharing is holds = first_free (held_by now v) refl holds (due_at place.Unsharing is deed.Free (rest_of m place.Unsharing) refl)
          by (place.Locking i) is holds =
              let n = get_or m.batch i 0 in
              names_on n Exclusive (item_below o.names m.batch i sound.names holds.0) (subst (λ t. are_below n t ≡ true) (sym holds.1) (front_below m.batch 0 i sound.batch holds.0))
              (due_at (place.Locking i) is (deed.Take Exclusive n) (rest_of m (place.Locking (i + 1))) (lock_yes m i n holds.0 (same n)))
          by (place.Fetching i) is holds =
              let f = get_or m.fetch i 0 in
              publish_on f (item_below (length o.present) m.fetch i sound.fetch holds.0) (due_at (place.Fetching i) is (deed.Publish f) (rest_of m (place.Fetching (i + 1))) (fetch_yes m i f holds.0 (same f)))
          by (place.Reading i) is holds =
              let f = get_or m.reads i 0 in
              read_on f (item_below (length o.present) m.reads i sound.reads holds.0) (due_at (place.Reading i) is (deed.Read f) (rest_of m (place.Reading (i + 1))) (read_yes m i f holds.0 (same f)))
          by place.Releasing is holds = first_free (held_by now v) refl holds (due_at place.Releasing is deed.Free (rest_of m place.Releasing) refl)
          by (place.Answering i) is holds =
              let due = due_at (place.Answering i) is (deed.Answer i) (rest_of m (place.Answering (i + 1))) (answer_yes m i i holds.0 (same i)) in
              let module_is : module_of (course_of now v) ≡ Some number = ap module_of at in
              let range : option_map_or (λ k. nat_lt i (goals_of o k)) (module_of (course_of now v)) true ≡ true = ap (λ k. option_map_or (λ j. nat_lt i (goals_of o j)) k true) module_is ∙ ap (nat_lt i) goals ∙ lt-ltb i m.goals holds.0 in
              inl (record { next = event.Answer v i; due = (refl, due); enabled = (inside, range, due) })
          by place.Securing is holds =
              let n = m.own_name in
              names_on n Exclusive sound.own_name (subst (λ t. are_below n t ≡ true) (sym holds.1) refl) (due_at place.Securing is (deed.Take Exclusive n) (rest_of m (place.Installing 0)) (own_yes m n holds.0 (same n)))
          by (place.Installing i) is holds = installing i is holds (below_or_not 0 i) (below_or_not 0 (length m.own))
            where
              free_own : (next : Script) → held_by now v ≡ m.own_name ∷ [] → Some next ≡ done (rest_of m (place.Installing i)) deed.Free → GoesOn o now v ⊎ IsBlocked o now v
              free_own next holds e = first_free (m.own_name ∷ []) holds refl (due_at (place.Installing i) is deed.Free next e)

              installing : (j : ℕ) → s ≡ place.Installing i → held_by now v ≡ m.own_name ∷ [] → (0 < i) ⊎ (i ≤ 0) → (0 < length m.own) ⊎ (length m.own ≤ 0) → GoesOn o now v ⊎ IsBlocked o now v
              installing j at_i holds (inl above) any = free_own (rest_of m (place.Installing (length m.own))) holds (own_freed_yes m i above)
              installing j at_i holds (inr first) (inr none) = free_own (rest_of m (place.Installing (length m.own))) holds (own_freed_none m i (nil m.own none))
                where
                  nil : (xs : List ℕ) → length xs ≤ 0 → xs ≡ []
                  nil [] low = refl
                  nil (x ∷ xs) low = absurd (omega (arith, low))
              installing j at_i holds (inr first) (inl some_own) =
                  let f = get_or m.own 0 0 in
                  let zero_i : i ≡ 0 = omega (arith, first) in
                  publish_on f (item_below (length o.present) m.own 0 sound.own some_own)
                  (due_at (place.Installing 0) (at_i ∙ ap place.Installing zero_i) (deed.Publish f) (rest_of m (place.Installing 1)) (pom_yes m f some_own (same f)))
          by place.Whole is holds =
              let course : course_of now v ≡ on_course number whole answered = at ∙ ap (λ t. on_course number (rest_of m t) answered) is in
              let may : may_end_so o (course_of now v) Built ≡ true = ap (λ c. may_end_so o c Built) course in
              inl (record { next = event.End v Built; due = (refl, refl, may); enabled = (inside, refl, holds, may) })

-- ---- any worker that runs

-- the module of a number
module_at : (o : Outline) (number : ℕ) → number < length o.modules → (found : Option ModuleOutline) → slice_get o.modules number ≡ found → (m : ModuleOutline) × (slice_get o.modules number ≡ Some m)
module_at o number low None e = absurd (omega (arith, low, none_beyond o.modules number e))
module_at o number low (Some m) e = (m, e)

pub running_on : (o : Outline) (now : Standing) (courses : List KeptCourse) (v number : ℕ) → now.courses ≡ map (course_at o) courses → AllHold o courses now.held → IsFit o now → IsTied o now → IsSound o → AreOn o now → v < o.workers → module_of (course_of now v) ≡ Some number → GoesOn o now v ⊎ IsBlocked o now v
running_on o now courses v number same_courses all fit tied sound on inside runs = by (get_or courses v kept.Idle) refl (all v inside)
  where
    course : (w : KeptCourse) → get_or courses v kept.Idle ≡ w → course_of now v ≡ course_at o w
    course w e = ap (λ cs. get_or cs v idle) same_courses ∙ get_map (course_at o) courses v kept.Idle ∙ ap (course_at o) e

    by : (w : KeptCourse) → get_or courses v kept.Idle ≡ w → CourseHolds o w (held_by now v) → GoesOn o now v ⊎ IsBlocked o now v
    by kept.Idle e holds = absurd (nothing_is number (sym (ap module_of (course kept.Idle e)) ∙ runs))
    by (kept.Off k missing gathered) e holds = absurd (false≢true (sym (ap is_on (course (kept.Off k missing gathered) e)) ∙ on v inside))
    by (kept.On k s answered) e holds =
        let at = course (kept.On k s answered) e in
        let low = tied.real v k (ap module_of at) in
        let found = module_at o k low (slice_get o.modules k) refl in
        let rest : course_of now v ≡ on_course k (rest_of found.0 s) answered = at ∙ ap (λ x. on_course k (option_map_or (λ t. rest_of t s) x whole) answered) found.1 in
        let goals : goals_of o k ≡ found.0.goals = ap (λ x. option_map_or (λ (t : ModuleOutline). t.goals) x 0) found.1 in
        at_place o now v inside k answered found.0 s rest fit tied (sound k found.0 found.1) goals (holds found.0 found.1)

-- ---- what is found below a number

option_of : {A : Type 0} → A → Option A → A
option_of d None = d
option_of d (Some x) = x

pub find_is : (p : ℕ → Bool) (n h : ℕ) → find p (below n) ≡ Some h → (h < n) × (p h ≡ true)
find_is p zero h e = absurd (nothing_is h e)
find_is p (suc n) h e = by (find p (below n)) refl (λ again. find_is p n h again) (sym (find-append p (below n) (n ∷ [])) ∙ e)
  where
    last : (b : Bool) → p n ≡ b → (if b then Some n else None) ≡ Some h → (h < suc n) × (p h ≡ true)
    last true is found = let here : n ≡ h = ap (λ o. unwrap_or o 0) found in (omega (arith, here), subst (λ k. p k ≡ true) here is)
    last false is found = absurd (nothing_is h found)

    by : (found : Option ℕ) → find p (below n) ≡ found → (find p (below n) ≡ Some h → (h < n) × (p h ≡ true)) → option_or found (find p (n ∷ [])) ≡ Some h → (h < suc n) × (p h ≡ true)
    by None none again is = last (p n) refl is
    by (Some k) some again is = let less = again (some ∙ is) in (omega (arith, less.0), less.1)

pub find_none : (p : ℕ → Bool) (n : ℕ) → find p (below n) ≡ None → (k : ℕ) → k < n → p k ≡ false
find_none p zero e k low = absurd (omega (arith, low))
find_none p (suc n) e k low = by (find p (below n)) refl (λ none. find_none p n none k) (sym (find-append p (below n) (n ∷ [])) ∙ e) (below_or_not k n)
  where
    last : (b : Bool) → p n ≡ b → (if b then Some n else None) ≡ None → p n ≡ false
    last true is found = absurd (nothing_is n (sym found))
    last false is found = is

    by : (found : Option ℕ) → find p (below n) ≡ found → (find p (below n) ≡ None → k < n → p k ≡ false) → option_or found (find p (n ∷ [])) ≡ None → (k < n) ⊎ (n ≤ k) → p k ≡ false
    by (Some j) some again is any = absurd (nothing_is j (sym is))
    by None none again is (inl less) = again none less
    by None none again is (inr more) = let here : n ≡ k = omega (arith, more, low) in subst (λ j. p j ≡ false) here (last (p n) refl is)

-- ---- names that are held and wanted

excluded : (held : Option Mode) (mode : Mode) → excludes held mode ≡ true → is_some held ≡ true
excluded None mode e = absurd (false≢true e)
excluded (Some x) mode e = refl

not_true : (b : Bool) → not b ≡ true → b ≡ false
not_true true e = absurd (false≢true e)
not_true false e = refl

pub record IsHolder (o : Outline) (now : Standing) (n v h : ℕ) : Type 0 where
  pub low : h < o.workers
  pub other : nat_eq h v ≡ false
  pub held : is_some (hold now.locks n h) ≡ true

pub holder_is : (o : Outline) (now : Standing) (n v : ℕ) (mode : Mode) (h : ℕ) → IsFit o now → blocker now.locks n v mode ≡ Some h → IsHolder o now n v h
holder_is o now n v mode h fit e =
    let found = find_is (blocks now.locks n v mode) (workers_of now.locks) h e in
    let parts = both (not (nat_eq h v)) (excludes (hold now.locks n h) mode) found.1 in
    record { low = omega (arith, found.0, fit.workers); other = not_true (nat_eq h v) parts.0; held = excluded (hold now.locks n h) mode parts.1 }

listed_below : (n : ℕ) (xs : List ℕ) (k : ℕ) → are_below n xs ≡ true → is_listed k xs ≡ true → k < n
listed_below n [] k all is = absurd (false≢true is)
listed_below n (x ∷ xs) k all is = let parts = both (nat_lt x n) (are_below n xs) all in by (nat_eq x k) refl is (listed_below n xs k parts.1) (ltb-true x n parts.0)
  where
    by : (b : Bool) → nat_eq x k ≡ b → (b || is_listed k xs) ≡ true → (is_listed k xs ≡ true → k < n) → x < n → k < n
    by true e h again less = let here = eqb-true x k e in omega (arith, here, less)
    by false e h again less = again h

-- a worker that holds a name runs
holds_runs : (o : Outline) (now : Standing) (courses : List KeptCourse) (v n : ℕ) → now.courses ≡ map (course_at o) courses → AllHold o courses now.held → v < o.workers → is_listed n (held_by now v) ≡ true → (number : ℕ) × (module_of (course_of now v) ≡ Some number)
holds_runs o now courses v n same_courses all inside listed = by (get_or courses v kept.Idle) refl (all v inside)
  where
    course : (w : KeptCourse) → get_or courses v kept.Idle ≡ w → course_of now v ≡ course_at o w
    course w e = ap (λ cs. get_or cs v idle) same_courses ∙ get_map (course_at o) courses v kept.Idle ∙ ap (course_at o) e

    by : (w : KeptCourse) → get_or courses v kept.Idle ≡ w → CourseHolds o w (held_by now v) → (number : ℕ) × (module_of (course_of now v) ≡ Some number)
    by kept.Idle e holds = absurd (false≢true (ap (is_listed n) (sym holds) ∙ listed))
    by (kept.Off k missing gathered) e holds = (k, ap module_of (course (kept.Off k missing gathered) e))
    by (kept.On k s answered) e holds = (k, ap module_of (course (kept.On k s answered) e))

-- ---- some worker goes on

pub record Witness (o : Outline) (now : Standing) (least : ℕ) : Type 0 where
  pub worker : ℕ
  pub low : worker < o.workers
  pub name : ℕ
  pub listed : is_listed name (held_by now worker) ≡ true
  pub above : least ≤ name
  pub goes : GoesOn o now worker

module _ (o : Outline) (now : Standing) (courses : List KeptCourse) (same_courses : now.courses ≡ map (course_at o) courses) (all : AllHold o courses now.held) (fit : IsFit o now) (tied : IsTied o now) (sound : IsSound o) (on : AreOn o now) where
  low_name : (v n : ℕ) → v < o.workers → is_listed n (held_by now v) ≡ true → n < o.names
  low_name v n inside listed = listed_below o.names (held_by now v) n (All-get_or (λ t. list_all (λ h. nat_lt h o.names) t ≡ true) now.held v [] (omega (arith, inside, fit.rows)) fit.low) listed

  unstuck : (k v n least : ℕ) → v < o.workers → is_listed n (held_by now v) ≡ true → least ≤ n → o.names ≤ n + k → Witness o now least
  unstuck zero v n least inside listed above far = let low = low_name v n inside listed in absurd (omega (arith, low, far))
  unstuck (suc k) v n least inside listed above far =
      let runs = holds_runs o now courses v n same_courses all inside listed in
      by (running_on o now courses v runs.0 same_courses all fit tied sound on inside runs.1) (λ u m. unstuck k u m least)
    where
      by : GoesOn o now v ⊎ IsBlocked o now v → ((u m : ℕ) → u < o.workers → is_listed m (held_by now u) ≡ true → least ≤ m → o.names ≤ m + k → Witness o now least) → Witness o now least
      by (inl goes) again = record { worker = v; low = inside; name = n; listed = listed; above = above; goes = goes }
      by (inr stuck) again =
          let holder = holder_is o now stuck.name v stuck.mode stuck.holder fit stuck.blocked in
          let more = listed_below stuck.name (held_by now v) n stuck.above listed in
          again stuck.holder stuck.name holder.low (fit.listed stuck.holder stuck.name holder.low holder.held) (omega (arith, above, more)) (omega (arith, far, more))

  -- behind a worker that waits for a name, with all its names below that
  pub lock_on : (w n : ℕ) (mode : Mode) (h : ℕ) → are_below n (held_by now w) ≡ true → blocker now.locks n w mode ≡ Some h → (u : ℕ) × ((u ≡ w) → ⊥) × (u < o.workers) × GoesOn o now u
  lock_on w n mode h above blocked =
      let holder = holder_is o now n w mode h fit blocked in
      let found = unstuck o.names h n n holder.low (fit.listed h n holder.low holder.held) (omega arith) (omega arith) in
      (found.worker, λ e. late found e, found.low, found.goes)
    where
      late : (found : Witness o now n) → found.worker ≡ w → ⊥
      late found e = let less = listed_below n (held_by now w) found.name above (subst (λ u. is_listed found.name (held_by now u) ≡ true) e found.listed) in omega (arith, less, found.above)

  -- a worker that runs: it goes on, or another does
  pub some_on : (w number : ℕ) → w < o.workers → module_of (course_of now w) ≡ Some number → (u : ℕ) × (u < o.workers) × GoesOn o now u
  some_on w number inside runs = by (running_on o now courses w number same_courses all fit tied sound on inside runs)
    where
      by : GoesOn o now w ⊎ IsBlocked o now w → (u : ℕ) × (u < o.workers) × GoesOn o now u
      by (inl goes) = (w, inside, goes)
      by (inr stuck) =
          let holder = holder_is o now stuck.name w stuck.mode stuck.holder fit stuck.blocked in
          let found = unstuck o.names stuck.holder stuck.name stuck.name holder.low (fit.listed stuck.holder stuck.name holder.low holder.held) (omega arith) (omega arith) in
          (found.worker, found.low, found.goes)

-- ---- where nothing can begin or be skipped

first_open : {A : Type 0} (p : A → Bool) (xs : List A) (d : A) → list_all p xs ≡ false → (m : ℕ) × (m < length xs) × (p (get_or xs m d) ≡ false) × ((k : ℕ) → k < m → p (get_or xs k d) ≡ true)
first_open p [] d e = absurd (false≢true (sym e))
first_open p (x ∷ xs) d e = by (p x) refl e (λ again. first_open p xs d again)
  where
    before : (m k : ℕ) → ((j : ℕ) → j < m → p (get_or xs j d) ≡ true) → p x ≡ true → k < suc m → p (get_or (x ∷ xs) k d) ≡ true
    before m zero rest is low = is
    before m (suc k) rest is low = rest k (omega (arith, low))

    by : (b : Bool) → p x ≡ b → (b && list_all p xs) ≡ false → (list_all p xs ≡ false → (m : ℕ) × (m < length xs) × (p (get_or xs m d) ≡ false) × ((k : ℕ) → k < m → p (get_or xs k d) ≡ true)) → (m : ℕ) × (m < length (x ∷ xs)) × (p (get_or (x ∷ xs) m d) ≡ false) × ((k : ℕ) → k < m → p (get_or (x ∷ xs) k d) ≡ true)
    by false is h again = (zero, omega arith, is, λ k low. absurd (omega (arith, low)))
    by true is h again = let rest = again h in (suc rest.0, omega (arith, rest.1), rest.2, λ k low. before rest.0 k rest.3 is low)

found_in : (p : ℕ → Bool) (n : ℕ) (xs : List ℕ) (u : ℕ) → are_below n xs ≡ true → find p xs ≡ Some u → (u < n) × (p u ≡ true)
found_in p n [] u all e = absurd (nothing_is u e)
found_in p n (x ∷ xs) u all e = let parts = both (nat_lt x n) (are_below n xs) all in by (p x) refl e (λ again. found_in p n xs u parts.1 again) (ltb-true x n parts.0)
  where
    by : (b : Bool) → p x ≡ b → (if b then Some x else find p xs) ≡ Some u → (find p xs ≡ Some u → (u < n) × (p u ≡ true)) → x < n → (u < n) × (p u ≡ true)
    by true is found again less = let here : x ≡ u = ap (λ o. unwrap_or o 0) found in (omega (arith, less, here), subst (λ k. p k ≡ true) here is)
    by false is found again less = again found

found_too : (p q : ℕ → Bool) (xs : List ℕ) (u : ℕ) → find p xs ≡ Some u → q u ≡ true → is_some (find q xs) ≡ true
found_too p q [] u e is = absurd (nothing_is u e)
found_too p q (x ∷ xs) u e is = by (p x) e (q x) refl (λ again. found_too p q xs u again is)
  where
    by : (b : Bool) → (if b then Some x else find p xs) ≡ Some u → (c : Bool) → q x ≡ c → (find p xs ≡ Some u → is_some (find q xs) ≡ true) → is_some (if c then Some x else find q xs) ≡ true
    by b found true at again = refl
    by true found false at again = let here : x ≡ u = ap (λ o. unwrap_or o 0) found in absurd (false≢true (sym at ∙ ap q here ∙ is))
    by false found false at again = again found

lost_of : (p : Progress) → is_over p ≡ true → is_done p ≡ false → is_lost p ≡ true
lost_of Waiting over isnt = absurd (false≢true over)
lost_of (Running w) over isnt = absurd (false≢true over)
lost_of Skipped over isnt = refl
lost_of (Ended e) over isnt = by e isnt
  where
    by : (e : Ending) → is_done (Ended e) ≡ false → is_lost (Ended e) ≡ true
    by Built isnt = absurd (false≢true (sym isnt))
    by (Goal i) isnt = refl
    by (Missing f) isnt = refl
    by NoArtifact isnt = refl
    by (OutputTooLarge i) isnt = refl
    by ClasspathTooLarge isnt = refl
    by (Fault d) isnt = refl
    by Memory isnt = refl

upstream_low : (o : Outline) (m : ℕ) → IsSound o → are_below m (upstream_of o m) ≡ true
upstream_low o m sound = by (slice_get o.modules m) refl
  where
    by : (found : Option ModuleOutline) → slice_get o.modules m ≡ found → are_below m (option_map_or (λ (x : ModuleOutline). x.upstream) found []) ≡ true
    by None e = refl
    by (Some x) e = (sound m x e).upstream

module _ (o : Outline) (now : Standing) (courses : List KeptCourse) (same_courses : now.courses ≡ map (course_at o) courses) (all : AllHold o courses now.held) (fit : IsFit o now) (tied : IsTied o now) (sound : IsSound o) (on : AreOn o now) where
  pub wait_on : is_complete now ≡ false → find (is_ready o now.progress) (below (length o.modules)) ≡ None → find (is_skippable o now.progress) (below (length o.modules)) ≡ None → (u : ℕ) × (u < o.workers) × GoesOn o now u
  wait_on open_one unready unskipped =
      let found = first_open is_over now.progress Waiting open_one in
      by found.0 found.1 found.3 (progress_of now.progress found.0) refl found.2
    where
      waits : (m : ℕ) → m < length now.progress → ((k : ℕ) → k < m → is_over (progress_of now.progress k) ≡ true) → progress_of now.progress m ≡ Waiting → (first : Option ℕ) → first_not_built o now.progress m ≡ first → ⊥
      waits m low before e None none =
          let ready : is_ready o now.progress m ≡ true = ap (λ p. is_waiting p && is_none (first_not_built o now.progress m)) e ∙ ap is_none none in
          false≢true (sym (find_none (is_ready o now.progress) (length o.modules) unready m (omega (arith, low, fit.modules))) ∙ ready)
      waits m low before e (Some u) some =
          let at = found_in (λ k. not (is_done (progress_of now.progress k))) m (upstream_of o m) u (upstream_low o m sound) some in
          let lost = lost_of (progress_of now.progress u) (before u at.0) (not_true (is_done (progress_of now.progress u)) at.1) in
          let too = found_too (λ k. not (is_done (progress_of now.progress k))) (λ k. is_lost (progress_of now.progress k)) (upstream_of o m) u some lost in
          let skips : is_skippable o now.progress m ≡ true = ap (λ p. is_waiting p && is_some (first_lost o now.progress m)) e ∙ too in
          false≢true (sym (find_none (is_skippable o now.progress) (length o.modules) unskipped m (omega (arith, low, fit.modules))) ∙ skips)

      by : (m : ℕ) → m < length now.progress → ((k : ℕ) → k < m → is_over (progress_of now.progress k) ≡ true) → (p : Progress) → progress_of now.progress m ≡ p → is_over (progress_of now.progress m) ≡ false → (u : ℕ) × (u < o.workers) × GoesOn o now u
      by m low before Waiting e isnt = absurd (waits m low before e (first_not_built o now.progress m) refl)
      by m low before (Running w) e isnt = let runs = tied.running m w e in some_on o now courses same_courses all fit tied sound on w m runs.0 runs.1
      by m low before Skipped e isnt = absurd (false≢true (sym isnt ∙ ap is_over e))
      by m low before (Ended x) e isnt = absurd (false≢true (sym isnt ∙ ap is_over e))

-- ---- a name that is due is above all that its worker holds

placed_of : (m : ModuleOutline) (s : ScriptPlace) (held : List ℕ) → HoldsAt m s held → IsPlaced m s
placed_of m (place.Sharing i) held h = tt
placed_of m place.Unsharing held h = tt
placed_of m (place.Locking i) held h = h.0
placed_of m (place.Fetching i) held h = h.0
placed_of m (place.Reading i) held h = h.0
placed_of m place.Releasing held h = tt
placed_of m (place.Answering i) held h = h.0
placed_of m place.Securing held h = h.0
placed_of m (place.Installing i) held h = tt
placed_of m place.Whole held h = tt

wanted_name : (stage : ℕ) (mode want : Mode) (n b : ℕ) (rest : Script) → is_some (done (step stage (takes want b) rest) (deed.Take mode n)) ≡ true → n ≡ b
wanted_name stage mode want n b rest is = by (same_mode mode want && nat_eq n b) refl is
  where
    by : (c : Bool) → (same_mode mode want && nat_eq n b) ≡ c → is_some (if c then Some rest else None) ≡ true → n ≡ b
    by true e h = eqb-true n b (both (same_mode mode want) (nat_eq n b) e).1
    by false e h = absurd (false≢true h)

no_take : {A : Type 0} (found : Option A) → None ≡ found → is_some found ≡ true → ⊥
no_take found e is = false≢true (ap is_some e ∙ is)

abbrev takes_at : ScriptPlace → Bool
takes_at (place.Sharing i) = true
takes_at (place.Locking i) = true
takes_at place.Securing = true
takes_at other = false

other_above : (m : ModuleOutline) (s : ScriptPlace) (held : List ℕ) (mode : Mode) (n : ℕ) → takes_at s ≡ false → HoldsAt m s held → is_some (done (rest_of m s) (deed.Take mode n)) ≡ true → are_below n held ≡ true
other_above m s held mode n off holds is =
    absurd (no_take (done (rest_of m s) (deed.Take mode n)) (not_take m mode n s (placed_of m s held holds) (λ k e. false≢true (sym off ∙ ap takes_at e)) (λ k e. false≢true (sym off ∙ ap takes_at e)) (λ e. false≢true (sym off ∙ ap takes_at e))) is)

take_above : (o : Outline) (number : ℕ) (m : ModuleOutline) (s : ScriptPlace) (held : List ℕ) (mode : Mode) (n : ℕ) → IsSoundModule o number m → HoldsAt m s held → is_some (done (rest_of m s) (deed.Take mode n)) ≡ true → are_below n held ≡ true
take_above o number m (place.Sharing i) held mode n sound holds is =
    let here = wanted_name 2 mode Shared n (get_or m.batch i 0) (rest_of m (place.Sharing (i + 1))) (ap is_some (sym (share_here m i (deed.Take mode n) holds.0)) ∙ is) in
    subst (λ k. are_below k held ≡ true) (sym here) (subst (λ t. are_below (get_or m.batch i 0) t ≡ true) (sym holds.1) (front_below m.batch 0 i sound.batch holds.0))
take_above o number m (place.Locking i) held mode n sound holds is =
    let here = wanted_name 3 mode Exclusive n (get_or m.batch i 0) (rest_of m (place.Locking (i + 1))) (ap is_some (sym (lock_here m i (deed.Take mode n) holds.0)) ∙ is) in
    subst (λ k. are_below k held ≡ true) (sym here) (subst (λ t. are_below (get_or m.batch i 0) t ≡ true) (sym holds.1) (front_below m.batch 0 i sound.batch holds.0))
take_above o number m place.Securing held mode n sound holds is = subst (λ t. are_below n t ≡ true) (sym holds.1) refl
take_above o number m place.Unsharing held mode n sound holds is = other_above m place.Unsharing held mode n refl holds is
take_above o number m (place.Fetching i) held mode n sound holds is = other_above m (place.Fetching i) held mode n refl holds is
take_above o number m (place.Reading i) held mode n sound holds is = other_above m (place.Reading i) held mode n refl holds is
take_above o number m place.Releasing held mode n sound holds is = other_above m place.Releasing held mode n refl holds is
take_above o number m (place.Answering i) held mode n sound holds is = other_above m (place.Answering i) held mode n refl holds is
take_above o number m (place.Installing i) held mode n sound holds is = other_above m (place.Installing i) held mode n refl holds is
take_above o number m place.Whole held mode n sound holds is = other_above m place.Whole held mode n refl holds is

pub due_above : (o : Outline) (now : Standing) (courses : List KeptCourse) (v n : ℕ) (mode : Mode) → now.courses ≡ map (course_at o) courses → AllHold o courses now.held → IsTied o now → IsSound o → v < o.workers → is_due (course_of now v) (deed.Take mode n) ≡ true → are_below n (held_by now v) ≡ true
due_above o now courses v n mode same_courses all tied sound inside due = by (get_or courses v kept.Idle) refl (all v inside)
  where
    course : (w : KeptCourse) → get_or courses v kept.Idle ≡ w → course_of now v ≡ course_at o w
    course w e = ap (λ cs. get_or cs v idle) same_courses ∙ get_map (course_at o) courses v kept.Idle ∙ ap (course_at o) e

    by : (w : KeptCourse) → get_or courses v kept.Idle ≡ w → CourseHolds o w (held_by now v) → are_below n (held_by now v) ≡ true
    by kept.Idle e holds = absurd (false≢true (ap (λ c. is_due c (deed.Take mode n)) (sym (course kept.Idle e)) ∙ due))
    by (kept.Off k missing gathered) e holds = absurd (false≢true (ap (λ c. is_due c (deed.Take mode n)) (sym (course (kept.Off k missing gathered) e)) ∙ due))
    by (kept.On k s answered) e holds =
        let at = course (kept.On k s answered) e in
        let low = tied.real v k (ap module_of at) in
        let found = module_at o k low (slice_get o.modules k) refl in
        let rest : course_of now v ≡ on_course k (rest_of found.0 s) answered = at ∙ ap (λ x. on_course k (option_map_or (λ t. rest_of t s) x whole) answered) found.1 in
        take_above o k found.0 s (held_by now v) mode n (sound k found.0 found.1) (holds found.0 found.1) (ap (λ c. is_due c (deed.Take mode n)) (sym rest) ∙ due)

-- ---- a name that is due is in range

other_low : (m : ModuleOutline) (s : ScriptPlace) (held : List ℕ) (mode : Mode) (n top : ℕ) → takes_at s ≡ false → HoldsAt m s held → is_some (done (rest_of m s) (deed.Take mode n)) ≡ true → n < top
other_low m s held mode n top off holds is =
    absurd (no_take (done (rest_of m s) (deed.Take mode n)) (not_take m mode n s (placed_of m s held holds) (λ k e. false≢true (sym off ∙ ap takes_at e)) (λ k e. false≢true (sym off ∙ ap takes_at e)) (λ e. false≢true (sym off ∙ ap takes_at e))) is)

take_low : (o : Outline) (number : ℕ) (m : ModuleOutline) (s : ScriptPlace) (held : List ℕ) (mode : Mode) (n : ℕ) → IsSoundModule o number m → HoldsAt m s held → is_some (done (rest_of m s) (deed.Take mode n)) ≡ true → n < o.names
take_low o number m (place.Sharing i) held mode n sound holds is =
    let here = wanted_name 2 mode Shared n (get_or m.batch i 0) (rest_of m (place.Sharing (i + 1))) (ap is_some (sym (share_here m i (deed.Take mode n) holds.0)) ∙ is) in
    subst (λ k. k < o.names) (sym here) (item_below o.names m.batch i sound.names holds.0)
take_low o number m (place.Locking i) held mode n sound holds is =
    let here = wanted_name 3 mode Exclusive n (get_or m.batch i 0) (rest_of m (place.Locking (i + 1))) (ap is_some (sym (lock_here m i (deed.Take mode n) holds.0)) ∙ is) in
    subst (λ k. k < o.names) (sym here) (item_below o.names m.batch i sound.names holds.0)
take_low o number m place.Securing held mode n sound holds is =
    let here = wanted_name 6 mode Exclusive n m.own_name (rest_of m (place.Installing 0)) (ap is_some (sym (own_here m (deed.Take mode n) holds.0)) ∙ is) in
    subst (λ k. k < o.names) (sym here) sound.own_name
take_low o number m place.Unsharing held mode n sound holds is = other_low m place.Unsharing held mode n o.names refl holds is
take_low o number m (place.Fetching i) held mode n sound holds is = other_low m (place.Fetching i) held mode n o.names refl holds is
take_low o number m (place.Reading i) held mode n sound holds is = other_low m (place.Reading i) held mode n o.names refl holds is
take_low o number m place.Releasing held mode n sound holds is = other_low m place.Releasing held mode n o.names refl holds is
take_low o number m (place.Answering i) held mode n sound holds is = other_low m (place.Answering i) held mode n o.names refl holds is
take_low o number m (place.Installing i) held mode n sound holds is = other_low m (place.Installing i) held mode n o.names refl holds is
take_low o number m place.Whole held mode n sound holds is = other_low m place.Whole held mode n o.names refl holds is

pub due_low : (o : Outline) (now : Standing) (courses : List KeptCourse) (v n : ℕ) (mode : Mode) → now.courses ≡ map (course_at o) courses → AllHold o courses now.held → IsTied o now → IsSound o → v < o.workers → is_due (course_of now v) (deed.Take mode n) ≡ true → n < o.names
due_low o now courses v n mode same_courses all tied sound inside due = by (get_or courses v kept.Idle) refl (all v inside)
  where
    course : (w : KeptCourse) → get_or courses v kept.Idle ≡ w → course_of now v ≡ course_at o w
    course w e = ap (λ cs. get_or cs v idle) same_courses ∙ get_map (course_at o) courses v kept.Idle ∙ ap (course_at o) e

    by : (w : KeptCourse) → get_or courses v kept.Idle ≡ w → CourseHolds o w (held_by now v) → n < o.names
    by kept.Idle e holds = absurd (false≢true (ap (λ c. is_due c (deed.Take mode n)) (sym (course kept.Idle e)) ∙ due))
    by (kept.Off k missing gathered) e holds = absurd (false≢true (ap (λ c. is_due c (deed.Take mode n)) (sym (course (kept.Off k missing gathered) e)) ∙ due))
    by (kept.On k s answered) e holds =
        let at = course (kept.On k s answered) e in
        let low = tied.real v k (ap module_of at) in
        let found = module_at o k low (slice_get o.modules k) refl in
        let rest : course_of now v ≡ on_course k (rest_of found.0 s) answered = at ∙ ap (λ x. on_course k (option_map_or (λ t. rest_of t s) x whole) answered) found.1 in
        take_low o k found.0 s (held_by now v) mode n (sound k found.0 found.1) (holds found.0 found.1) (ap (λ c. is_due c (deed.Take mode n)) (sym rest) ∙ due)
