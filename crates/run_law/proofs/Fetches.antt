-- Which fetched files are there behind a run.
use Rattle.std.proofs.Common.{◌≡◌, ℕ, zero, suc, ◌<◌, ◌⊎◌, inl, inr, Bool, true, false, ◌||◌, nat_eq, nat_lt, set, List, [], ◌∷◌, ◌++◌, length, map, slice_get, Option, Some, None, is_some, IfSome, unwrap_or, refl, arith, sym, ap, subst, ◌∙◌, if◌then◌else◌}
use Rattle.std.specs.List.{list_all}
use Rattle.std.specs.Option.{option_or}
use Rattle.std.proofs.lemmas.Bool.{false≢true}
use Rattle.mvn_shared.specs.Files.{Files, file_at}
use Rattle.event_core.specs.declared.entry.Carried.{Carried}
use Rattle.scripts.specs.declared.deed.Deed.TheVariants as deed
use Rattle.build_core.specs.declared.ending.Ending.{Ending}
use Rattle.build_core.specs.declared.ending.Ending.TheVariants as ending
use Rattle.build_core.specs.declared.event.Event.{Event}
use Rattle.build_core.specs.declared.event.Event.TheVariants as event
use Rattle.scripts.specs.declared.outline.Outline.{Outline}
use Rattle.build_core.specs.declared.plan.OwnFile.{OwnFile}
use Rattle.build_core.specs.declared.plan.Plan.{Plan}
use Rattle.build_core.specs.declared.plan.PlanModule.{PlanModule}
use Rattle.event_core.specs.declared.module_steps.Progress.TheVariants.{Ended}
use Rattle.event_core.specs.declared.entry.RunEntry.{RunEntry}
use Rattle.run_law.specs.Closed.{available, had_prefix}
use Rattle.event_core.specs.Enabled.{Enabled, IsEnabled, ending_in_range, is_due, may_end_so, needs_artifact, off_ends, on_ends}
use Rattle.run_law.proofs.Invariants.{IsCourseFit, IsFetchFile, IsGathering, IsPassed, IsShaped, IsWanting, is_begun, is_quiet_end, pending, supply_of}
use Rattle.run_law.specs.Given.{IsPresent}
use Rattle.build_core.specs.OneThread.{Supply, name_of, remote_bytes}
use Rattle.scripts.specs.Outlines.{is_listed, module_outline, outline_of}
use Rattle.event_core.specs.Runs.{IsRunOf, events_of, standing_of_run}
use Rattle.scripts.specs.Scripts.{Script, answers_left, is_there, is_to_install, stage_of, wanted}
use Rattle.event_core.specs.HowFar.{progress_of}
use Rattle.event_core.specs.Standing.{Course, Standing, after, at_first, course_of, ended, goals_of, idle, module_of, off_course, on_course, standing_of}
use Rattle.event_core.specs.Worlds.{AllFit, Fits, FitsEnd, HandTold, stood}
use Rattle.run_law.proofs.Complete.{by_entries, events_more}
use Rattle.run_law.proofs.JudgedRuns.{IsFitPlan, behind_first, behind_more, ended_or, ending_of, waits_on}
use Rattle.run_law.proofs.Courses.{due_file, there_grows}
use Rattle.run_law.proofs.Ended.{Behind, begun_stays, end_none, install_late, listed_front, lt_is, set_cases, this_is}
use Rattle.event_core.proofs.Fits.{one_more}
use Rattle.run_law.proofs.RunGathering.{all_here, late_none, wanted_head}
use Rattle.run_law.proofs.Once.{both, listed_first, listed_later}
use Rattle.run_law.proofs.Ready.{all_listed, file_had}
use Rattle.run_law.proofs.Step.{behind_of, end_on, place_of}
use Rattle.run_law.proofs.Stored.{AllTell, brings_of, fetch_had, due_on, get_map, none_is}
use Rattle.event_core.proofs.Weights.{nothing_is}

module _ (plan : Plan) (supply : Supply) where
  -- what is in the prefix is listed
  pub prefix_listed : (x : ℕ) (xs : List ℕ) → is_listed x (had_prefix plan supply xs) ≡ true → is_listed x xs ≡ true
  prefix_listed x [] l = l
  prefix_listed x (y ∷ xs) l = by (is_some (available plan supply y)) l (nat_eq y x) (prefix_listed x xs)
    where
      by : (b : Bool) → is_listed x (if b then y ∷ had_prefix plan supply xs else []) ≡ true → (c : Bool) → (is_listed x (had_prefix plan supply xs) ≡ true → is_listed x xs ≡ true) → (nat_eq y x || is_listed x xs) ≡ true
      by false l c again = absurd (false≢true l)
      by true l c again = or_more (nat_eq y x) (is_listed x (had_prefix plan supply xs)) (is_listed x xs) l again
        where
          or_more : (a b c : Bool) → (a || b) ≡ true → (b ≡ true → c ≡ true) → (a || c) ≡ true
          or_more true b c h f = refl
          or_more false b c h f = f h

  -- what stands before the first that can't be had
  pub prefix_before : (x f : ℕ) (passed behind : List ℕ) → is_some (available plan supply f) ≡ false → is_listed x (had_prefix plan supply (passed ++ f ∷ behind)) ≡ true → is_listed x passed ≡ true
  prefix_before x f [] behind none l = absurd (false≢true (subst (λ b. is_listed x (if b then f ∷ had_prefix plan supply behind else []) ≡ true) none l))
  prefix_before x f (y ∷ passed) behind none l = by (is_some (available plan supply y)) l (prefix_before x f passed behind none)
    where
      or_more : (a b c : Bool) → (a || b) ≡ true → (b ≡ true → c ≡ true) → (a || c) ≡ true
      or_more true b c h f = refl
      or_more false b c h f = f h

      by : (b : Bool) → is_listed x (if b then y ∷ had_prefix plan supply (passed ++ f ∷ behind) else []) ≡ true → (is_listed x (had_prefix plan supply (passed ++ f ∷ behind)) ≡ true → is_listed x passed ≡ true) → (nat_eq y x || is_listed x passed) ≡ true
      by false l again = absurd (false≢true l)
      by true l again = or_more (nat_eq y x) (is_listed x (had_prefix plan supply (passed ++ f ∷ behind))) (is_listed x passed) l again

  -- a file that can be had, behind others that can
  pub prefix_in : (f : ℕ) (passed behind : List ℕ) → ((x : ℕ) → is_listed x passed ≡ true → is_some (available plan supply x) ≡ true) → is_some (available plan supply f) ≡ true → is_listed f (had_prefix plan supply (passed ++ f ∷ behind)) ≡ true
  prefix_in f [] behind all had = subst (λ b. is_listed f (if b then f ∷ had_prefix plan supply behind else []) ≡ true) (sym had) (listed_first f (had_prefix plan supply behind))
  prefix_in f (y ∷ passed) behind all had =
      subst (λ b. is_listed f (if b then y ∷ had_prefix plan supply (passed ++ f ∷ behind) else []) ≡ true) (sym (all y (listed_first y passed)))
      (listed_later y f (had_prefix plan supply (passed ++ f ∷ behind)) (prefix_in f passed behind (λ x l. all x (listed_later y x passed l)) had))

-- a file that is there behind a publish was there, or is this
pub set_there : (there : List Bool) (f g : ℕ) → is_there (set there f true) g ≡ true → (is_there there g ≡ true) ⊎ (g ≡ f)
set_there [] f g is = inl is
set_there (b ∷ there) zero zero is = inr refl
set_there (b ∷ there) zero (suc g) is = inl is
set_there (b ∷ there) (suc f) zero is = inl is
set_there (b ∷ there) (suc f) (suc g) is = by (set_there there f g is)
  where
    by : (is_there there g ≡ true) ⊎ (g ≡ f) → (is_there there g ≡ true) ⊎ (suc g ≡ suc f)
    by (inl a) = inl a
    by (inr e) = inr (ap suc e)

-- ---- how a module ends, and what was there

module _ (plan : Plan) (start remote : Files) (fit : IsFitPlan plan) (present : IsPresent plan start) (hands : ℕ → HandTold) (tell : AllTell plan (supply_of start remote []) fit.differ fit.own present hands) where
  abbrev o : Outline
  o = outline_of plan

  abbrev base : Supply
  base = supply_of start remote []

  abbrev IsBehind : List RunEntry → Type 0
  IsBehind past = Behind plan start remote fit.apart present fit.backed past

  -- all were there, or it ended for the first that wasn't
  abbrev AllOrFirst : List Bool → List ℕ → Ending → Type 0
  AllOrFirst there fetch e = (list_all (is_there there) fetch ≡ true) ⊎ ((f : ℕ) × IsWanting o there fetch f × (e ≡ ending.Missing f))

  -- where a module ends quietly, all its files are there or one is missing
  ends_so : (there : List Bool) (number : ℕ) (m : PlanModule) → slice_get plan.modules number ≡ Some m → (c : Course) → IsCourseFit o c → IsGathering o there c → module_of c ≡ Some number → (e : Ending) → is_quiet_end e ≡ true → may_end_so o c e ≡ true → AllOrFirst there m.fetch e
  ends_so there number m at idle fits gather is e quiet may = absurd (nothing_is number is)
  ends_so there number m at (off_course n file gathered) fits gather is e quiet may = by e quiet may
    where
      same : n ≡ number
      same = ap (λ x. unwrap_or x 0) is

      g : ((f : ℕ) → file ≡ Some f → IsWanting o there m.fetch f) × (gathered ≡ true → list_all (is_there there) m.fetch ≡ true)
      g = gather (module_outline m) (get_map module_outline plan.modules n m (subst (λ k. slice_get plan.modules k ≡ Some m) (sym same) at))

      by : (e : Ending) → is_quiet_end e ≡ true → off_ends file gathered e ≡ true → AllOrFirst there m.fetch e
      by ending.ClasspathTooLarge quiet may = inl (g.1 may)
      by (ending.Missing f) quiet may = inr (f, g.0 f (this_is file f may), refl)
      by ending.Built quiet may = absurd (false≢true may)
      by ending.NoArtifact quiet may = absurd (false≢true may)
      by (ending.Goal i) quiet may = absurd (false≢true may)
      by (ending.OutputTooLarge i) quiet may = absurd (false≢true may)
      by (ending.Fault device) quiet may = absurd (false≢true quiet)
      by ending.Memory quiet may = absurd (false≢true quiet)
  ends_so there number m at (on_course n script last) fits gather is e quiet may = by e quiet may
    where
      same : n ≡ number
      same = ap (λ x. unwrap_or x 0) is

      g : IsShaped m.fetch script × IsPassed there m.fetch (pending script) × (is_some last ≡ true → pending script ≡ [])
      g = gather (module_outline m) (get_map module_outline plan.modules n m (subst (λ k. slice_get plan.modules k ≡ Some m) (sym same) at))

      by : (e : Ending) → is_quiet_end e ≡ true → on_ends o n script last e ≡ true → AllOrFirst there m.fetch e
      by ending.Built quiet may = inl (all_here there m.fetch (pending script) g.1 (end_none script may))
      by ending.NoArtifact quiet may = inl (all_here there m.fetch (pending script) g.1 (late_none m.fetch script g.0 (install_late script (both (is_to_install script) (needs_artifact o n) may).0)))
      by (ending.Goal i) quiet may = inl (all_here there m.fetch (pending script) g.1 (g.2 (ap is_some (this_is last i may))))
      by (ending.OutputTooLarge i) quiet may = inl (all_here there m.fetch (pending script) g.1 (g.2 (ap is_some (this_is last i may))))
      by ending.ClasspathTooLarge quiet may = inl (all_here there m.fetch (pending script) g.1 (late_none m.fetch script g.0 (both (nat_lt 3 (stage_of script)) (nat_eq (answers_left script) (goals_of o n)) may).0))
      by (ending.Missing f) quiet may =
          let want = this_is (wanted script) f may in
          let head = wanted_head script f want in
          inr (f, record { behind = head.0; before = subst (IsPassed there m.fetch) head.1 g.1; fresh = fits.1 f want }, refl)
      by (ending.Fault device) quiet may = absurd (false≢true quiet)
      by ending.Memory quiet may = absurd (false≢true quiet)

  -- ---- which fetched files are there

  abbrev Reason : Standing → ℕ → Type 0
  Reason now f = (number : ℕ) × (m : PlanModule) × (slice_get plan.modules number ≡ Some m) × (is_begun (progress_of now.progress number) ≡ true) × (is_listed f (had_prefix plan base m.fetch) ≡ true)

  -- a fetched file that is there was there at the start, or a module that has begun fetches it and all before it can be had; where a module
  -- ended, all that it could have is there
  pub record IsFetchedSo (now : Standing) : Type 0 where
    pub reason : (f : ℕ) → IsFetchFile plan f → is_there now.there f ≡ true → (is_there plan.present f ≡ true) ⊎ Reason now f
    pub had : (number : ℕ) (m : PlanModule) (e : Ending) → slice_get plan.modules number ≡ Some m → progress_of now.progress number ≡ Ended e → is_quiet_end e ≡ true → (f : ℕ) → is_listed f (had_prefix plan base m.fetch) ≡ true → is_there now.there f ≡ true

  abbrev pub is_end : Event → Bool
  is_end (event.End w e) = true
  is_end other = false

  module _ (past : List RunEntry) (behind : IsBehind past) (so : IsFetchedSo (standing_of_run plan past)) where
    abbrev now : Standing
    now = standing_of_run plan past

    -- an event that neither publishes nor ends
    quiet_so : (e : Event) → IsEnabled o now e → is_end e ≡ false → (after o now e).there ≡ now.there → IsFetchedSo (after o now e)
    quiet_so e is isnt same = record {
      reason = λ f fetch there. by f (so.reason f fetch (sym (ap (λ t. is_there t f) same) ∙ there));
      had = λ number m x at ended quiet f l. ap (λ t. is_there t f) same ∙ old number m x at quiet f l (ended_or o now e number x ended);
    }
      where
        by : (f : ℕ) → (is_there plan.present f ≡ true) ⊎ Reason now f → (is_there plan.present f ≡ true) ⊎ Reason (after o now e) f
        by f (inl p) = inl p
        by f (inr r) = inr (r.0, r.1, r.2, begun_stays o now e is r.0 r.3, r.4)

        old : (number : ℕ) (m : PlanModule) (x : Ending) → slice_get plan.modules number ≡ Some m → is_quiet_end x ≡ true → (f : ℕ) → is_listed f (had_prefix plan base m.fetch) ≡ true → (progress_of now.progress number ≡ Ended x) ⊎ ((w : ℕ) × (e ≡ event.End w x)) → is_there now.there f ≡ true
        old number m x at quiet f l (inl is') = so.had number m x at is' quiet f l
        old number m x at quiet f l (inr new) = absurd (false≢true (sym isnt ∙ ap is_end new.1))

    -- behind a publish each file that is there has its reason
    published_so : (w f : ℕ) (what : Carried) → IsEnabled o now (event.Publish w f) → Fits plan (Some start) hands past (record { event = event.Publish w f; carried = what }) → IsFetchedSo (after o now (event.Publish w f))
    unfolding after
    published_so w f what is fits = record {
      reason = λ g fetch there. by g fetch (set_there now.there f g there);
      had = λ number m x at ended quiet g l. there_grows now.there f g (so.had number m x at ended quiet g l);
    }
      where
        by : (g : ℕ) → IsFetchFile plan g → (is_there now.there g ≡ true) ⊎ (g ≡ f) → (is_there plan.present g ≡ true) ⊎ Reason now g
        by g fetch (inl old) = so.reason g fetch old
        by g fetch (inr e) = inr (subst (Reason now) (sym e) (why (due_on (course_of now w) (deed.Publish f) is.2)))
          where
            low : f < length plan.files
            low = let sized = fit.sized in omega (arith, is.1, sized)

            had : is_some (available plan base f) ≡ true
            had =
                let b = brings_of plan base fit.differ fit.own present hands tell past (event.Publish w f) what fits in
                ap is_some (fetch_had plan base fit.differ fit.own present now w f b.0 low behind.standing behind.courses is.2 b.2 (subst (IsFetchFile plan) e fetch))

            why : (number : ℕ) × (script : Script) × (last : Option ℕ) × (course_of now w ≡ on_course number script last) → Reason now f
            why on =
                let place = place_of plan start remote fit.apart present fit.backed fit.sized hands (λ w. (tell w).1) past behind w on.0 (ap module_of on.3) in
                let fits' : IsCourseFit o (on_course on.0 on.1 on.2) = subst (IsCourseFit o) on.3 (behind.courses.courses w) in
                let out = get_map module_outline plan.modules on.0 place.0 place.1 in
                split place.0 place.1 (due_file place.0.fetch (map (λ (x : OwnFile). x.file) place.0.own) on.1 f (fits'.0 (module_outline place.0) out) (subst (λ c. is_due c (deed.Publish f) ≡ true) on.3 is.2))
              where
                split : (m : PlanModule) → slice_get plan.modules on.0 ≡ Some m → ((wanted on.1 ≡ Some f) × (is_listed f m.fetch ≡ true)) ⊎ (is_listed f (map (λ (x : OwnFile). x.file) m.own) ≡ true) → Reason now f
                split m at (inl here) =
                    let gather : IsGathering o now.there (on_course on.0 on.1 on.2) = subst (IsGathering o now.there) on.3 (behind.gathering w) in
                    let g = gather (module_outline m) (get_map module_outline plan.modules on.0 m at) in
                    let head = wanted_head on.1 f here.0 in
                    let passed : IsPassed now.there m.fetch (f ∷ head.0) = subst (IsPassed now.there m.fetch) head.1 g.1 in (
                      on.0,
                      m,
                      at,
                      ap is_begun (behind.standing.tied.busy w on.0 (ap module_of on.3)),
                      subst (λ t. is_listed f (had_prefix plan base t) ≡ true) (sym passed.split)
                          (prefix_in plan base f passed.passed head.0
                          (λ x l. (file_had plan start remote fit.apart on.0 m at (fit.backed on.0 m at) past behind.stored x (subst (λ t. is_listed x t ≡ true) (sym passed.split) (listed_front x passed.passed (f ∷ head.0) l)) (all_listed (is_there now.there) passed.passed passed.here x l)).1) had),
                    )
                split m at (inr mine) = absurd (fit.own f (subst (IsFetchFile plan) e fetch) (on.0, m, at, mine))

    -- and behind an end
    ended_so : (w : ℕ) (e : Ending) (what : Carried) → IsEnabled o now (event.End w e) → Fits plan (Some start) hands past (record { event = event.End w e; carried = what }) → IsFetchedSo (after o now (event.End w e))
    unfolding after
    ended_so w e what is fits = record {
      reason = λ f fetch there. by f (so.reason f fetch there);
      had = λ number m x at ended quiet f l. at_end number m x at ended quiet f l;
    }
      where
        by : (f : ℕ) → (is_there plan.present f ≡ true) ⊎ Reason now f → (is_there plan.present f ≡ true) ⊎ Reason (after o now (event.End w e)) f
        by f (inl p) = inl p
        by f (inr r) = inr (r.0, r.1, r.2, begun_stays o now (event.End w e) is r.0 r.3, r.4)

        sub : (number : ℕ) (m : PlanModule) (f : ℕ) → is_listed f (had_prefix plan base m.fetch) ≡ true → AllOrFirst now.there m.fetch e → (e ≡ ending.Missing f → ⊥) ⊎ (Unit {0}) → FitsEnd (stood plan (Some start) past number m) (hands w) e → is_there now.there f ≡ true
        sub number m f l (inl all) any fit' = all_listed (is_there now.there) m.fetch all f (prefix_listed plan base f m.fetch l)
        sub number m f l (inr first) any fit' =
            let p = first.1.before in
            let range : first.0 < length plan.files = low_first first.0 first.2 in
            let away = gone first.0 (subst (λ y. FitsEnd (stood plan (Some start) past number m) (hands w) y) first.2 fit') in
            let none : is_some (available plan base first.0) ≡ false = ap is_some (ap (λ x. option_or x (remote_bytes remote (name_of plan first.0))) (none_is (file_at start (name_of plan first.0)) (sym (present first.0 range) ∙ first.1.fresh)) ∙ away) in
            all_listed (is_there now.there) p.passed p.here f (prefix_before plan base f first.0 p.passed first.1.behind none (subst (λ t. is_listed f (had_prefix plan base t) ≡ true) p.split l))
          where
            low_first : (f : ℕ) → e ≡ ending.Missing f → f < length plan.files
            low_first f same = let sized = fit.sized in let small = lt_is f (length plan.present) (range_of (course_of now w) f (subst (λ y. ending_in_range o (course_of now w) y ≡ true) same is.1)) in omega (arith, small, sized)
              where
                range_of : (c : Course) (f : ℕ) → ending_in_range o c (ending.Missing f) ≡ true → nat_lt f (length plan.present) ≡ true
                range_of c f r = r

            gone : (f : ℕ) → FitsEnd (stood plan (Some start) past number m) (hands w) (ending.Missing f) → remote_bytes remote (name_of plan f) ≡ None
            gone f x = subst (λ r. IfSome r (λ remote. remote_bytes remote (name_of plan f) ≡ None)) (tell w).1 x

        at_end : (number : ℕ) (m : PlanModule) (x : Ending) → slice_get plan.modules number ≡ Some m → progress_of (ended (module_of (course_of now w)) e now.progress) number ≡ Ended x → is_quiet_end x ≡ true → (f : ℕ) → is_listed f (had_prefix plan base m.fetch) ≡ true → is_there now.there f ≡ true
        at_end number m x at is' quiet f l =
            let who = end_on plan start remote fit.apart present fit.backed fit.sized hands (λ w. (tell w).1) past behind (course_of now w) e is.3 in
            split who.0 who.1 (set_cases now.progress who.0 (Ended e) number) (subst (λ found. progress_of (ended found e now.progress) number ≡ Ended x) who.1 is')
          where
            split : (k : ℕ) → module_of (course_of now w) ≡ Some k → (progress_of (set now.progress k (Ended e)) number ≡ progress_of now.progress number) ⊎ ((number ≡ k) × (progress_of (set now.progress k (Ended e)) number ≡ Ended e)) → progress_of (set now.progress k (Ended e)) number ≡ Ended x → is_there now.there f ≡ true
            split k whose (inl same) was = so.had number m x at (sym same ∙ was) quiet f l
            split k whose (inr here) was =
                let mine : module_of (course_of now w) ≡ Some number = whose ∙ ap (λ j. Some j) (sym here.0) in
                let alike : x ≡ e = ap ending_of (sym was ∙ here.1) in
                let fit' : FitsEnd (stood plan (Some start) past number m) (hands w) e = behind_of plan start remote fit.apart present fit.backed fit.sized hands (λ w. (tell w).1) past behind w number m (event.End w e) what mine at fits.1 in
                sub number m f l (ends_so now.there number m at (course_of now w) (behind.courses.courses w) (behind.gathering w) mine e (subst (λ y. is_quiet_end y ≡ true) alike quiet) is.3) (inr tt) fit'

    -- and behind each event
    so_after : (e : Event) (what : Carried) → IsEnabled o now e → Fits plan (Some start) hands past (record { event = e; carried = what }) → IsFetchedSo (after o now e)
    unfolding after
    so_after (event.Start w m) what is fits = quiet_so (event.Start w m) is refl refl
    so_after (event.Skip m) what is fits = quiet_so (event.Skip m) is refl refl
    so_after (event.Take w n mode) what is fits = quiet_so (event.Take w n mode) is refl refl
    so_after (event.Free w n) what is fits = quiet_so (event.Free w n) is refl refl
    so_after (event.Read w f) what is fits = quiet_so (event.Read w f) is refl refl
    so_after (event.Answer w g) what is fits = quiet_so (event.Answer w g) is refl refl
    so_after (event.Publish w f) what is fits = published_so w f what is fits
    so_after (event.End w e) what is fits = ended_so w e what is fits

  abbrev IsBoth : List RunEntry → Type 0
  IsBoth past = IsBehind past × IsFetchedSo (standing_of_run plan past)

  -- so behind one entry more
  both_more : (past : List RunEntry) (e : RunEntry) → IsBoth past → Enabled o (events_of past) e.event → Fits plan (Some start) hands past e → IsBoth (past ++ e ∷ [])
  unfolding Enabled
  both_more past e holds is fits =
      let next : standing_of_run plan (past ++ e ∷ []) ≡ after o (standing_of_run plan past) e.event = ap (standing_of o) (events_more past e) ∙ one_more o (events_of past) e.event in
      (behind_more plan start remote fit present hands tell past e holds.0 is fits, subst IsFetchedSo (sym next) (so_after past holds.0 holds.1 e.event e.carried is fits))

  -- it holds where nothing has happened
  so_first : IsFetchedSo (at_first o)
  so_first = record { reason = λ f fetch there. inl there; had = λ number m e at is quiet f l. absurd (waits_on (length o.modules) number e is) }

  -- so it holds behind every fitting run
  pub fetched_so : (entries : List RunEntry) → IsRunOf plan entries → AllFit plan (Some start) hands [] entries → IsBehind entries × IsFetchedSo (standing_of_run plan entries)
  fetched_so entries run fits = by_entries plan start hands IsBoth both_more [] entries (behind_first plan start remote fit present hands tell, so_first) run fits
