-- What is there, with which bytes, behind every run.
use Rattle.std.proofs.Common.{◌≡◌, ℕ, zero, suc, ◌<◌, ◌⊎◌, inl, inr, Bool, true, false, cond, List, [], ◌∷◌, ◌++◌, length, map, set, slice_get, Option, Some, None, is_some, IfSome, unwrap_or, refl, arith, sym, ap, subst, ◌∙◌}
use Rattle.std.specs.Option.{option_or}
use Rattle.std.specs.FinMap as finite
use Rattle.std.specs.Ordering.{eq_by_cmp, nat_cmp}
use Rattle.std.specs.Cmp.Lexicographic.{slice_cmp}
use Rattle.std.proofs.lemmas.Bool.{false≢true}
use Rattle.std.proofs.lemmas.List.{get_or-set_other, get_or-set_same, length-set}
use Rattle.mvn_shared.specs.Files.{Files, file_at}
use Rattle.event_core.specs.declared.entry.Carried.{Carried}
use Rattle.event_core.specs.declared.entry.Carried.TheVariants as carried
use Rattle.scripts.specs.declared.deed.Deed.{Deed}
use Rattle.scripts.specs.declared.deed.Deed.TheVariants as deed
use Rattle.build_core.specs.declared.event.Event.{Event}
use Rattle.build_core.specs.declared.event.Event.TheVariants as event
use Rattle.scripts.specs.declared.outline.Outline.{Outline}
use Rattle.build_core.specs.declared.plan.OwnFile.{OwnFile}
use Rattle.build_core.specs.declared.plan.Plan.{Plan}
use Rattle.build_core.specs.declared.plan.PlanModule.{PlanModule}
use Rattle.event_core.specs.declared.entry.RunEntry.{RunEntry}
use Rattle.run_law.specs.Closed.{available}
use Rattle.event_core.specs.Enabled.{Enabled, IsEnabled, is_due}
use Rattle.run_law.proofs.Invariants.{AreCoursesFit, FilesDiffer, IsCourseFit, IsFetchFile, IsStored, OwnApart}
use Rattle.run_law.specs.Given.{IsPresent}
use Rattle.build_core.specs.OneThread.{Supply, name_of, remote_bytes}
use Rattle.scripts.specs.Outlines.{is_listed, module_outline, outline_of}
use Rattle.event_core.specs.Runs.{IsRunOf, contents, events_of, put_carried, standing_of_run}
use Rattle.scripts.specs.Scripts.{Script, is_there, wanted}
use Rattle.event_core.specs.Standing.{Course, Standing, after, at_first, course_of, idle, module_of, off_course, on_course, standing_of}
use Rattle.event_core.specs.Worlds.{AllFit, Fits, FitsBehind, FitsBytes, FitsPublish, HandTold, TellsBytes, is_published, is_told, stood}
use Rattle.run_law.proofs.Carried.{at_insert, name_itself}
use Rattle.run_law.proofs.Courses.{courses_after, courses_first, due_file}
use Rattle.run_law.proofs.Complete.{IsStanding, by_entries, events_more, standing_after, standing_first}
use Rattle.event_core.proofs.Fits.{fold_more, one_more, same_or_not}
use Rattle.event_core.proofs.Weights.{nothing_is}

-- an option without a value is none
pub none_is : {X : Type 0} (o : Option X) → is_some o ≡ false → o ≡ None
none_is None e = refl
none_is (Some x) e = absurd (false≢true (sym e))

-- there is an item at each place below the length
pub get_in : {X : Type 0} (xs : List X) (i : ℕ) → i < length xs → (x : X) × (slice_get xs i ≡ Some x)
get_in [] i low = absurd (omega (arith, low))
get_in (x ∷ xs) zero low = (x, refl)
get_in (x ∷ xs) (suc i) low = get_in xs i (omega (arith, low))

-- what stands at a place of a mapped list
pub get_map : {X Y : Type 0} (f : X → Y) (xs : List X) (i : ℕ) (x : X) → slice_get xs i ≡ Some x → slice_get (map f xs) i ≡ Some (f x)
get_map f [] i x is = absurd (nothing_is x is)
get_map f (y ∷ xs) zero x is = ap (λ o. Some (f (unwrap_or o y))) is
get_map f (y ∷ xs) (suc i) x is = get_map f xs i x is

-- mapping leaves the length
pub length_map : {X Y : Type 0} (f : X → Y) (xs : List X) → length (map f xs) ≡ length xs
length_map f [] = refl
length_map f (x ∷ xs) = ap suc (length_map f xs)

-- a course that a deed is due of
pub due_on : (c : Course) (d : Deed) → is_due c d ≡ true → (number : ℕ) × (script : Script) × (last : Option ℕ) × (c ≡ on_course number script last)
due_on idle d is = absurd (false≢true is)
due_on (off_course m file gathered) d is = absurd (false≢true is)
due_on (on_course m script last) d is = (m, script, last, refl)

module _ (plan : Plan) (supply : Supply) (differ : FilesDiffer plan) (own : OwnApart plan) (present : IsPresent plan supply.start) where
  abbrev o : Outline
  o = outline_of plan

  -- a publish that is due
  module _ (now : Standing) (files : Files) (w f : ℕ) (bytes : List ℕ) (low : f < length plan.files) (stored : IsStored plan supply now files) where
    -- another file has another name
    name_apart : (g : ℕ) → g < length plan.files → (g ≡ f → ⊥) → eq_by_cmp (slice_cmp nat_cmp) (name_of plan g) (name_of plan f) ≡ false
    name_apart g small other = by (eq_by_cmp (slice_cmp nat_cmp) (name_of plan g) (name_of plan f)) refl
      where
        by : (b : Bool) → eq_by_cmp (slice_cmp nat_cmp) (name_of plan g) (name_of plan f) ≡ b → eq_by_cmp (slice_cmp nat_cmp) (name_of plan g) (name_of plan f) ≡ false
        by false e = e
        by true e = absurd (other (differ g f small low e))

    -- a put file is there
    file_here : file_at (finite.insert files (name_of plan f) bytes) (name_of plan f) ≡ Some bytes
    file_here = at_insert files (name_of plan f) bytes (name_of plan f) ∙ ap (λ b. cond b (Some bytes) (file_at files (name_of plan f))) (name_itself (name_of plan f))

    -- other names stay
    file_there : (q : List ℕ) → eq_by_cmp (slice_cmp nat_cmp) q (name_of plan f) ≡ false → file_at (finite.insert files (name_of plan f) bytes) q ≡ file_at files q
    file_there q e = at_insert files (name_of plan f) bytes q ∙ ap (λ b. cond b (Some bytes) (file_at files q)) e

    -- its mark is set
    set_here : is_there (set now.there f true) f ≡ true
    set_here = get_or-set_same now.there f true false (omega (arith, low, stored.sized))

    -- so the repository stands as it is marked
    pub stored_more : (IsFetchFile plan f → available plan supply f ≡ Some bytes) → (next : Standing) → next.there ≡ set now.there f true → IsStored plan supply next (finite.insert files (name_of plan f) bytes)
    stored_more had next same = record {
      sized = ap length same ∙ length-set now.there f true ∙ stored.sized;
      there = λ g small. ap (λ t. is_there t g) same ∙ there g small (same_or_not g f);
      bytes = λ g fetch small is. by g fetch small (sym (ap (λ t. is_there t g) same) ∙ is) (same_or_not g f);
      other = λ q apart. file_there q (apart f low) ∙ stored.other q apart;
    }
      where
        there : (g : ℕ) → g < length plan.files → (g ≡ f) ⊎ ((g ≡ f) → ⊥) → is_there (set now.there f true) g ≡ is_some (file_at (finite.insert files (name_of plan f) bytes) (name_of plan g))
        there g small (inl e) = subst (λ k. is_there (set now.there f true) k ≡ is_some (file_at (finite.insert files (name_of plan f) bytes) (name_of plan k))) (sym e) (set_here ∙ sym (ap is_some file_here))
        there g small (inr other) = get_or-set_other now.there f g true false other ∙ stored.there g small ∙ sym (ap is_some (file_there (name_of plan g) (name_apart g small other)))

        by : (g : ℕ) → IsFetchFile plan g → g < length plan.files → is_there (set now.there f true) g ≡ true → (g ≡ f) ⊎ ((g ≡ f) → ⊥) → file_at (finite.insert files (name_of plan f) bytes) (name_of plan g) ≡ available plan supply g
        by g fetch small is (inl e) = subst (λ k. file_at (finite.insert files (name_of plan f) bytes) (name_of plan k) ≡ available plan supply k) (sym e) (file_here ∙ sym (had (subst (IsFetchFile plan) e fetch)))
        by g fetch small is (inr other) = file_there (name_of plan g) (name_apart g small other) ∙ stored.bytes g fetch small (sym (get_or-set_other now.there f g true false other) ∙ is)

  -- the bytes that are published are those that can be had, where they are the remote's
  pub fetch_had : (now : Standing) (w f : ℕ) (bytes : List ℕ) → f < length plan.files → IsStanding o now → AreCoursesFit o now → is_due (course_of now w) (deed.Publish f) ≡ true
      → ((number : ℕ) (m : PlanModule) (script : Script) (last : Option ℕ) → course_of now w ≡ on_course number script last → slice_get plan.modules number ≡ Some m → is_listed f m.fetch ≡ true → remote_bytes supply.remote (name_of plan f) ≡ Some bytes)
      → IsFetchFile plan f → available plan supply f ≡ Some bytes
  fetch_had now w f bytes low standing courses due fits fetch = by (due_on (course_of now w) (deed.Publish f) due)
    where
      by : (number : ℕ) × (script : Script) × (last : Option ℕ) × (course_of now w ≡ on_course number script last) → available plan supply f ≡ Some bytes
      by on =
          let fit : IsCourseFit o (on_course on.0 on.1 on.2) = subst (IsCourseFit o) on.3 (courses.courses w) in
          let long = length_map module_outline plan.modules in
          let real = standing.tied.real w on.0 (ap module_of on.3) in
          let found = get_in plan.modules on.0 (omega (arith, long, real)) in
          split found.0 found.1 (due_file found.0.fetch (map (λ (x : OwnFile). x.file) found.0.own) on.1 f (fit.0 (module_outline found.0) (get_map module_outline plan.modules on.0 found.0 found.1)) (subst (λ c. is_due c (deed.Publish f) ≡ true) on.3 due))
        where
          split : (m : PlanModule) → slice_get plan.modules on.0 ≡ Some m → ((wanted on.1 ≡ Some f) × (is_listed f m.fetch ≡ true)) ⊎ (is_listed f (map (λ (x : OwnFile). x.file) m.own) ≡ true) → available plan supply f ≡ Some bytes
          split m at (inl here) =
              let gone = none_is (file_at supply.start (name_of plan f)) (sym (present f low) ∙ fit_of.1 f here.0) in
              ap (λ x. option_or x (remote_bytes supply.remote (name_of plan f))) gone ∙ fits on.0 m on.1 on.2 on.3 at here.1
            where
              fit_of : IsCourseFit o (on_course on.0 on.1 on.2)
              fit_of = subst (IsCourseFit o) on.3 (courses.courses w)
          split m at (inr mine) = absurd (own f fetch (on.0, m, at, mine))

  -- any other event leaves the files
  stays : (now next : Standing) (files : Files) → next.there ≡ now.there → IsStored plan supply now files → IsStored plan supply next files
  stays now next files same stored = record {
    sized = ap length same ∙ stored.sized;
    there = λ f low. ap (λ t. is_there t f) same ∙ stored.there f low;
    bytes = λ f fetch low is. stored.bytes f fetch low (sym (ap (λ t. is_there t f) same) ∙ is);
    other = stored.other;
  }

  -- what an entry that publishes has to carry
  abbrev pub Brings : Standing → Event → Carried → Type 0
  Brings now (event.Publish w f) what = (bytes : List ℕ) × (what ≡ carried.Published bytes)
      × ((number : ℕ) (m : PlanModule) (script : Script) (last : Option ℕ) → course_of now w ≡ on_course number script last → slice_get plan.modules number ≡ Some m → is_listed f m.fetch ≡ true → remote_bytes supply.remote (name_of plan f) ≡ Some bytes)
  Brings now other what = Unit {0}

  -- so behind each event
  pub stored_after : (now : Standing) (files : Files) (e : Event) (what : Carried) → IsStanding o now → AreCoursesFit o now → length plan.present ≡ length plan.files → IsStored plan supply now files → IsEnabled o now e → Brings now e what → IsStored plan supply (after o now e) (put_carried plan files e what)
  unfolding after
  stored_after now files (event.Start w m) what standing courses sized stored is brings = stays now (after o now (event.Start w m)) files refl stored
  stored_after now files (event.Skip m) what standing courses sized stored is brings = stays now (after o now (event.Skip m)) files refl stored
  stored_after now files (event.Take w n mode) what standing courses sized stored is brings = stays now (after o now (event.Take w n mode)) files refl stored
  stored_after now files (event.Free w n) what standing courses sized stored is brings = stays now (after o now (event.Free w n)) files refl stored
  stored_after now files (event.Read w f) what standing courses sized stored is brings = stays now (after o now (event.Read w f)) files refl stored
  stored_after now files (event.Answer w g) what standing courses sized stored is brings = stays now (after o now (event.Answer w g)) files refl stored
  stored_after now files (event.End w e) what standing courses sized stored is brings = stays now (after o now (event.End w e)) files refl stored
  stored_after now files (event.Publish w f) what standing courses sized stored is brings =
      let low : f < length plan.files = omega (arith, is.1, sized) in
      subst (λ c. IsStored plan supply (after o now (event.Publish w f)) (put_carried plan files (event.Publish w f) c)) (sym brings.1)
      (stored_more now files w f brings.0 low stored (λ fetch. fetch_had now w f brings.0 low standing courses is.2 brings.2 fetch) (after o now (event.Publish w f)) refl)

  -- and where nothing has happened
  pub stored_first : length plan.present ≡ length plan.files → IsStored plan supply (at_first o) supply.start
  stored_first sized = record {
    sized = sized;
    there = present;
    bytes = λ f fetch low is. had (file_at supply.start (name_of plan f)) (remote_bytes supply.remote (name_of plan f)) (sym (present f low) ∙ is);
    other = λ q apart. refl;
  }
    where
      had : (a b : Option (List ℕ)) → is_some a ≡ true → a ≡ option_or a b
      had (Some x) b is = refl
      had None b is = absurd (false≢true is)

  -- ---- of runs

  -- all that a run's invariants say together
  pub record HoldsBehind (past : List RunEntry) : Type 0 where
    pub standing : IsStanding o (standing_of_run plan past)
    pub courses : AreCoursesFit o (standing_of_run plan past)
    pub stored : IsStored plan supply (standing_of_run plan past) (contents plan supply.start past)

  -- each hand tells all
  abbrev pub AllTell : (ℕ → HandTold) → Type 0
  AllTell hands = (w : ℕ) → ((hands w).area ≡ true) × ((hands w).remote ≡ Some supply.remote)

  -- what an entry that fits brings
  pub brings_of : (hands : ℕ → HandTold) → AllTell hands → (past : List RunEntry) (e : Event) (what : Carried) → Fits plan (Some supply.start) hands past (record { event = e; carried = what }) → Brings (standing_of_run plan past) e what
  brings_of hands tell past (event.Start w m) what fits = tt
  brings_of hands tell past (event.Skip m) what fits = tt
  brings_of hands tell past (event.Take w n mode) what fits = tt
  brings_of hands tell past (event.Free w n) what fits = tt
  brings_of hands tell past (event.Read w f) what fits = tt
  brings_of hands tell past (event.Answer w g) what fits = tt
  brings_of hands tell past (event.End w e) what fits = tt
  brings_of hands tell past (event.Publish w f) what fits = by what (subst (λ b. is_told b (event.Publish w f) what ≡ true) (tell w).0 fits.0) fits.1
    where
      by : (what : Carried) → is_published what ≡ true → FitsBehind plan (Some supply.start) hands past (record { event = event.Publish w f; carried = what }) (Some w) → Brings (standing_of_run plan past) (event.Publish w f) what
      by carried.Nothing is behind = absurd (false≢true is)
      by (carried.Answered answer) is behind = absurd (false≢true is)
      by (carried.Published bytes) is behind = (
        bytes,
        refl,
        λ number m script last at here listed.
            let one = subst (λ x. IfSome x (λ number. IfSome (slice_get plan.modules number) (λ m. FitsPublish (stood plan (Some supply.start) past number m) (hands w) f (carried.Published bytes)))) (ap module_of at) behind in
            let two = subst (λ x. IfSome x (λ m. FitsPublish (stood plan (Some supply.start) past number m) (hands w) f (carried.Published bytes))) here one in
            let three = subst (λ b. FitsBytes b (is_listed f m.fetch) (stood plan (Some supply.start) past number m) (hands w) f (carried.Published bytes)) (tell w).0 two in
            let four = subst (λ b. FitsBytes true b (stood plan (Some supply.start) past number m) (hands w) f (carried.Published bytes)) listed three in
            subst (λ x. IfSome x (λ remote. TellsBytes (carried.Published bytes) (remote_bytes remote (name_of plan f)))) (tell w).1 four,
      )

  -- so behind one entry more
  more_behind : (hands : ℕ → HandTold) → AllTell hands → length plan.present ≡ length plan.files → (past : List RunEntry) (e : RunEntry) → HoldsBehind past → Enabled o (events_of past) e.event → Fits plan (Some supply.start) hands past e → HoldsBehind (past ++ e ∷ [])
  unfolding Enabled
  more_behind hands tell sized past e holds is fits =
      let next : standing_of_run plan (past ++ e ∷ []) ≡ after o (standing_of_run plan past) e.event = ap (standing_of o) (events_more past e) ∙ one_more o (events_of past) e.event in
      record {
        standing = subst (IsStanding o) (sym next) (standing_after o (standing_of_run plan past) e.event holds.standing is);
        courses = subst (AreCoursesFit o) (sym next) (courses_after o (standing_of_run plan past) e.event holds.courses);
        stored = subst (λ now. IsStored plan supply now (contents plan supply.start (past ++ e ∷ []))) (sym next)
            (subst (IsStored plan supply (after o (standing_of_run plan past) e.event)) (sym (fold_more (λ files (x : RunEntry). put_carried plan files x.event x.carried) past supply.start e))
            (stored_after (standing_of_run plan past) (contents plan supply.start past) e.event e.carried holds.standing holds.courses sized holds.stored is (brings_of hands tell past e.event e.carried fits)));
      }

  -- so behind every fitting run
  pub holds_behind : (hands : ℕ → HandTold) → AllTell hands → length plan.present ≡ length plan.files → (entries : List RunEntry) → IsRunOf plan entries → AllFit plan (Some supply.start) hands [] entries → HoldsBehind entries
  holds_behind hands tell sized entries run fits =
      by_entries plan supply.start hands HoldsBehind (more_behind hands tell sized) [] entries
      (record { standing = standing_first o; courses = courses_first o; stored = stored_first sized }) run fits
