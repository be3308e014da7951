-- The repository behind the sequential build stands as the closed form says.
use Rattle.std.proofs.Common.{◌≡◌, ℕ, zero, suc, ◌+◌, ◌<◌, ◌⊎◌, inl, inr, Bool, true, false, not, ◌||◌, ◌&&◌, nat_eq, nat_lt, cond, find, fold, List, [], ◌∷◌, ◌++◌, length, get_or, map, slice_get, Option, Some, None, is_some, option_and_then, option_map, unwrap_or, refl, arith, sym, ap, subst, ◌∙◌, if◌then◌else◌}
use Rattle.std.specs.List.{AllByRecursion, IsDistinct}
use Rattle.std.specs.Option.{option_or}
use Rattle.std.specs.FinMap as finite
use Rattle.std.specs.Ordering.{eq_by_cmp, nat_cmp}
use Rattle.std.specs.Cmp.Lexicographic.{slice_cmp}
use Rattle.std.proofs.lemmas.Bool.{eq-eqb, eqb-true, false≢true}
use Rattle.std.proofs.lemmas.List.{append-nil, append_assoc, get_or_push, length-append}
use Rattle.mvn_shared.specs.Files.{Files, file_at}
use Rattle.goal_types.specs.declared.goal.OwnBytes.{OwnBytes}
use Rattle.build_core.specs.declared.plan.OwnFile.{OwnFile}
use Rattle.build_core.specs.declared.plan.Plan.{Plan}
use Rattle.build_core.specs.declared.plan.PlanModule.{PlanModule}
use Rattle.build_core.specs.declared.ending.State.TheVariants.{Waiting, Skipped, Ended}
use Rattle.build_core.specs.declared.ending.Ending.TheVariants as ending
use Rattle.build_core.specs.Slots.{GoalsEnd, all_answered, goal_failed, output_too_large, run_goals}
use Rattle.build_core.specs.OneThread.{Fetched, Progress, Supply, after_answers, after_fetch, after_goals, beginning, ends, fetched, first_unbuilt, installed, is_built, lacks_artifact, most_classpath, name_of, next_module, one_module, one_thread, own_bytes, put_own, remote_bytes, with_fetched}
use Rattle.run_law.specs.Closed.{Verdict, available, had_prefix, judge, missing_of, outputs_at, state_at, total_len, verdict_of_fetch, verdict_of_goals, verdict_of_install, verdict_of_upstream}
use Rattle.run_law.proofs.Invariants.{FilesDiffer, IsFetchFile, IsOwnFile}
use Rattle.scripts.specs.Outlines.{is_listed}
use Rattle.run_law.proofs.Carried.{IsFetched, Puts, at_insert, fetch_all, had, name_itself, put}
use Rattle.run_law.proofs.JudgedRuns.{IsFitPlan}
use Rattle.run_law.proofs.Fetches.{prefix_listed}
use Rattle.event_core.proofs.Fits.{same_or_not}
use Rattle.run_law.proofs.Fold.{IsSoFar, at_middle, fold_judged, in_list, one_further}
use Rattle.run_law.proofs.Hand.{IsNext, len_is, next_is}
use Rattle.run_law.proofs.Once.{find_same, listed_first, listed_later}
use Rattle.run_law.proofs.ClosedFiles.{AreOwnsFit, HandLeft, IsLeft, is_skipped_state, own_at}

-- whether two names are one
abbrev Same : List ℕ → List ℕ → Bool
Same q name = eq_by_cmp (slice_cmp nat_cmp) q name

-- ---- fetching

module _ (remote : Files) where
  abbrev PutsApart : Files → List ℕ → Option Files → Type 0
  PutsApart files name None = Unit {0}
  PutsApart files name (Some more) = (q : List ℕ) → Same q name ≡ false → file_at more q ≡ file_at files q

  -- fetching a name leaves the others
  puts_apart : (files : Files) (name : List ℕ) → PutsApart files name (with_fetched remote name files)
  puts_apart files name = by (file_at files name) (remote_bytes remote name)
    where
      by : (a b : Option (List ℕ)) → PutsApart files name (if is_some a then Some files else option_map (finite.insert files name) b)
      by (Some bytes) b = λ q e. refl
      by None (Some bytes) = λ q e. at_insert files name bytes q ∙ ap (λ b. cond b (Some bytes) (file_at files q)) e
      by None None = tt

module _ (plan : Plan) (supply : Supply) where
  record IsReached (list : List ℕ) (files : Files) (got : Fetched) : Type 0 where
    reached : (f : ℕ) → is_listed f (had_prefix plan supply list) ≡ true → is_some (file_at got.files (name_of plan f)) ≡ true
    apart : (q : List ℕ) → ((f : ℕ) → is_listed f (had_prefix plan supply list) ≡ true → Same q (name_of plan f) ≡ false) → file_at got.files q ≡ file_at files q

  -- fetching a list brings the files before the first that can't be had
  reach_all : (list : List ℕ) (files : Files) → ((f : ℕ) → is_listed f list ≡ true → had supply.remote files (name_of plan f) ≡ available plan supply f) → IsReached list files (fetched plan supply.remote list files)
  reach_all [] files answers = record { reached = λ f l. absurd (false≢true l); apart = λ q e. refl }
  reach_all (file ∷ list) files answers =
      by (with_fetched supply.remote (name_of plan file) files) (put supply.remote files (name_of plan file)) (puts_apart supply.remote files (name_of plan file)) (λ more same. reach_all list more same)
    where
      name : List ℕ
      name = name_of plan file

      mine : had supply.remote files name ≡ available plan supply file
      mine = answers file (listed_first file list)

      by : (found : Option Files) → Puts supply.remote files (name_of plan file) found → PutsApart supply.remote files (name_of plan file) found
          → ((more : Files) → ((f : ℕ) → is_listed f list ≡ true → had supply.remote more (name_of plan f) ≡ available plan supply f) → IsReached list more (fetched plan supply.remote list more))
          → IsReached (file ∷ list) files (elim found [ None ↦ record { files = files; missing = Some file } | Some more ↦ fetched plan supply.remote list more ])
      by None none any rest = record {
        reached = λ f l. absurd (false≢true (subst (λ b. is_listed f (if b then file ∷ had_prefix plan supply list else []) ≡ true) (ap is_some (sym mine ∙ none)) l));
        apart = λ q e. refl;
      }
      by (Some more) is others rest =
          let again = rest more (λ f l. is.alike (name_of plan f) ∙ answers f (listed_later file f list l)) in
          let all = fetch_all supply.remote plan list more in
          let can : is_some (available plan supply file) ≡ true = ap is_some (sym mine ∙ sym is.here) ∙ is.is in
          record {
            reached = λ f l. whose f (nat_eq file f) refl (subst (λ b. is_listed f (if b then file ∷ had_prefix plan supply list else []) ≡ true) can l) (ap is_some (all.kept name is.is) ∙ is.is) (again.reached f);
            apart = λ q e.
                let e' : (f : ℕ) → is_listed f (file ∷ had_prefix plan supply list) ≡ true → Same q (name_of plan f) ≡ false = subst (λ b. (f : ℕ) → is_listed f (if b then file ∷ had_prefix plan supply list else []) ≡ true → Same q (name_of plan f) ≡ false) can e in
                again.apart q (λ f l. e' f (listed_later file f (had_prefix plan supply list) l)) ∙ others q (e' file (listed_first file (had_prefix plan supply list)));
          }
        where
          whose : (f : ℕ) (b : Bool) → nat_eq file f ≡ b → (b || is_listed f (had_prefix plan supply list)) ≡ true → is_some (file_at (fetched plan supply.remote list more).files name) ≡ true
              → (is_listed f (had_prefix plan supply list) ≡ true → is_some (file_at (fetched plan supply.remote list more).files (name_of plan f)) ≡ true) → is_some (file_at (fetched plan supply.remote list more).files (name_of plan f)) ≡ true
          whose f true e l here later = subst (λ x. is_some (file_at (fetched plan supply.remote list more).files (name_of plan x)) ≡ true) (eqb-true file f e) here
          whose f false e l here later = later l

-- ---- installing

module _ (plan : Plan) (m : PlanModule) (own : List OwnBytes) where
  -- putting an own file leaves other names
  put_other : (files : Files) (o : OwnFile) (q : List ℕ) → Same q (name_of plan o.file) ≡ false → file_at (put_own plan m own files o) q ≡ file_at files q
  put_other files o q e = by (own_bytes m own o.slot)
    where
      by : (bytes : Option (List ℕ)) → file_at (unwrap_or (option_map (finite.insert files (name_of plan o.file)) bytes) files) q ≡ file_at files q
      by None = refl
      by (Some bytes) = at_insert files (name_of plan o.file) bytes q ∙ ap (λ b. cond b (Some bytes) (file_at files q)) e

  -- and puts its bytes, where it has some
  put_here : (files : Files) (o : OwnFile) → file_at (put_own plan m own files o) (name_of plan o.file) ≡ option_or (own_bytes m own o.slot) (file_at files (name_of plan o.file))
  put_here files o = by (own_bytes m own o.slot)
    where
      by : (bytes : Option (List ℕ)) → file_at (unwrap_or (option_map (finite.insert files (name_of plan o.file)) bytes) files) (name_of plan o.file) ≡ option_or bytes (file_at files (name_of plan o.file))
      by None = refl
      by (Some bytes) = at_insert files (name_of plan o.file) bytes (name_of plan o.file) ∙ ap (λ b. cond b (Some bytes) (file_at files (name_of plan o.file))) (name_itself (name_of plan o.file))

  -- installing leaves other names
  install_other : (list : List OwnFile) (files : Files) (q : List ℕ) → ((f : ℕ) → is_listed f (map (λ (x : OwnFile). x.file) list) ≡ true → Same q (name_of plan f) ≡ false) → file_at (fold (put_own plan m own) files list) q ≡ file_at files q
  install_other [] files q e = refl
  install_other (o ∷ list) files q e =
      install_other list (put_own plan m own files o) q (λ f l. e f (listed_later o.file f (map (λ (x : OwnFile). x.file) list) l))
      ∙ put_other files o q (e o.file (listed_first o.file (map (λ (x : OwnFile). x.file) list)))

  -- what isn't listed differs from each item
  not_in : (g : ℕ) (xs : List ℕ) → AllByRecursion (λ y. nat_eq g y ≡ false) xs → (f : ℕ) → is_listed f xs ≡ true → nat_eq g f ≡ false
  not_in g [] all f l = absurd (false≢true l)
  not_in g (x ∷ xs) all f l = by (nat_eq x f) refl l (not_in g xs all.1 f)
    where
      by : (b : Bool) → nat_eq x f ≡ b → (b || is_listed f xs) ≡ true → (is_listed f xs ≡ true → nat_eq g f ≡ false) → nat_eq g f ≡ false
      by true e l again = subst (λ y. nat_eq g y ≡ false) (eqb-true x f e) all.0
      by false e l again = again l

  module _ (differ : FilesDiffer plan) where
    -- different files have different names
    names_apart : (f g : ℕ) → f < length plan.files → g < length plan.files → (f ≡ g → ⊥) → Same (name_of plan f) (name_of plan g) ≡ false
    names_apart f g a b other = by (Same (name_of plan f) (name_of plan g)) refl
      where
        by : (c : Bool) → Same (name_of plan f) (name_of plan g) ≡ c → Same (name_of plan f) (name_of plan g) ≡ false
        by false e = e
        by true e = absurd (other (differ f g a b e))

    -- installing puts each own file that has bytes
    install_here : (list : List OwnFile) (files : Files) → IsDistinct nat_eq (map (λ (x : OwnFile). x.file) list) → ((f : ℕ) → is_listed f (map (λ (x : OwnFile). x.file) list) ≡ true → f < length plan.files) → (f : ℕ) → is_listed f (map (λ (x : OwnFile). x.file) list) ≡ true
        → file_at (fold (put_own plan m own) files list) (name_of plan f) ≡ option_or (option_and_then (λ (o : OwnFile). own_bytes m own o.slot) (find (λ (o : OwnFile). nat_eq o.file f) list)) (file_at files (name_of plan f))
    unfolding IsDistinct
    install_here [] files distinct low f l = absurd (false≢true l)
    install_here (o ∷ list) files distinct low f l = by (nat_eq o.file f) refl l (install_here list (put_own plan m own files o) distinct.1 (λ g l. low g (listed_later o.file g (map (λ (x : OwnFile). x.file) list) l)) f)
      where
        rest : List ℕ
        rest = map (λ (x : OwnFile). x.file) list

        first_low : o.file < length plan.files
        first_low = low o.file (listed_first o.file rest)

        by : (b : Bool) → nat_eq o.file f ≡ b → (b || is_listed f (map (λ (x : OwnFile). x.file) list)) ≡ true
            → (is_listed f (map (λ (x : OwnFile). x.file) list) ≡ true → file_at (fold (put_own plan m own) (put_own plan m own files o) list) (name_of plan f) ≡ option_or (option_and_then (λ (o : OwnFile). own_bytes m own o.slot) (find (λ (o : OwnFile). nat_eq o.file f) list)) (file_at (put_own plan m own files o) (name_of plan f)))
            → file_at (fold (put_own plan m own) (put_own plan m own files o) list) (name_of plan f) ≡ option_or (option_and_then (λ (o : OwnFile). own_bytes m own o.slot) (if b then Some o else find (λ (o : OwnFile). nat_eq o.file f) list)) (file_at files (name_of plan f))
        by true e l again =
            subst (λ x. file_at (fold (put_own plan m own) (put_own plan m own files o) list) (name_of plan x) ≡ option_or (own_bytes m own o.slot) (file_at files (name_of plan x))) (eqb-true o.file f e)
            (install_other list (put_own plan m own files o) (name_of plan o.file)
            (λ g l. names_apart o.file g first_low (low g (listed_later o.file g rest l)) (λ same. false≢true (sym (not_in o.file rest distinct.0 g l) ∙ eq-eqb o.file g same)))
            ∙ put_here files o)
        by false e l again =
            again l ∙ ap (option_or (option_and_then (λ (o : OwnFile). own_bytes m own o.slot) (find (λ (o : OwnFile). nat_eq o.file f) list)))
            (put_other files o (name_of plan f) (names_apart f o.file (low f (listed_later o.file f rest l)) first_low (λ same. false≢true (sym e ∙ eq-eqb o.file f (sym same)))))

-- ---- a module

-- what the files are behind a module
record IsNextFiles (plan : Plan) (supply : Supply) (m : PlanModule) (installs : Bool) (before after : Files) (v : Verdict) : Type 0 where
  had : is_skipped_state v.state ≡ false → (f : ℕ) → is_listed f (had_prefix plan supply m.fetch) ≡ true → is_some (file_at after (name_of plan f)) ≡ true
  grows : (f : ℕ) → IsFetchFile plan f → is_some (file_at before (name_of plan f)) ≡ true → is_some (file_at after (name_of plan f)) ≡ true
  same : (f : ℕ) → IsFetchFile plan f → is_listed f (had_prefix plan supply m.fetch) ≡ false → file_at after (name_of plan f) ≡ file_at before (name_of plan f)
  skips : is_skipped_state v.state ≡ true → (q : List ℕ) → file_at after q ≡ file_at before q
  own : (f : ℕ) → is_listed f (map (λ (x : OwnFile). x.file) m.own) ≡ true → file_at after (name_of plan f) ≡ option_or (if is_built v.state && installs then own_at m v.outputs f else None) (file_at before (name_of plan f))
  other : (q : List ℕ) → ((f : ℕ) → is_listed f m.fetch ≡ true → Same q (name_of plan f) ≡ false) → ((f : ℕ) → is_listed f (map (λ (x : OwnFile). x.file) m.own) ≡ true → Same q (name_of plan f) ≡ false) → file_at after q ≡ file_at before q

module _ (plan : Plan) (supply : Supply) (fit : IsFitPlan plan) (owns : AreOwnsFit plan) where
  -- no file is both fetched and own
  apart_own : (f g : ℕ) → IsFetchFile plan f → IsOwnFile plan g → f ≡ g → ⊥
  apart_own f g fetch own same = fit.own f fetch (subst (IsOwnFile plan) (sym same) own)

  module _ (number : ℕ) (m : PlanModule) (at : slice_get plan.modules number ≡ Some m) (before : Files) (answers : (f : ℕ) → IsFetchFile plan f → had supply.remote before (name_of plan f) ≡ available plan supply f) where
    -- what is fetched for the module
    got : Fetched
    got = fetched plan supply.remote m.fetch before

    abbrev files : Files
    files = (fetched plan supply.remote m.fetch before).files

    -- what fetching leaves as it was
    all : IsFetched supply.remote plan m.fetch before (fetched plan supply.remote m.fetch before)
    all = fetch_all supply.remote plan m.fetch before

    -- and what it brings
    reach : IsReached plan supply m.fetch before (fetched plan supply.remote m.fetch before)
    reach = reach_all plan supply m.fetch before (λ f l. answers f (number, m, at, l))

    -- a fetched file that the module doesn't reach stays
    fetch_same : (f : ℕ) → IsFetchFile plan f → is_listed f (had_prefix plan supply m.fetch) ≡ false → file_at files (name_of plan f) ≡ file_at before (name_of plan f)
    fetch_same f fetch not_l = reach.apart (name_of plan f) (λ g l. names_apart plan m [] fit.differ f g (owns.fetched f fetch) (owns.fetched g (number, m, at, prefix_listed plan supply g m.fetch l)) (λ same. false≢true (sym not_l ∙ subst (λ x. is_listed x (had_prefix plan supply m.fetch) ≡ true) (sym same) l)))

    -- its own files stay while it fetches
    own_same : (f : ℕ) → is_listed f (map (λ (x : OwnFile). x.file) m.own) ≡ true → file_at files (name_of plan f) ≡ file_at before (name_of plan f)
    own_same f mine = reach.apart (name_of plan f) (λ g l.
        let fetch : IsFetchFile plan g = (number, m, at, prefix_listed plan supply g m.fetch l) in
        names_apart plan m [] fit.differ f g (owns.low f (number, m, at, mine)) (owns.fetched g fetch) (λ same. apart_own g f fetch (number, m, at, mine) (sym same)))

    -- where it is skipped
    skipped_files : (u : ℕ) → IsNextFiles plan supply m m.installs before before (record { state = Skipped u; outputs = [] })
    skipped_files u = record { had = λ e. absurd (false≢true (sym e)); grows = λ f fetch is. is; same = λ f fetch e. refl; skips = λ e q. refl; own = λ f mine. refl; other = λ q a b. refl }

    -- where it is not installed
    plain_files : (installs : Bool) (v : Verdict) → is_skipped_state v.state ≡ false → (is_built v.state && installs) ≡ false → IsNextFiles plan supply m installs before files v
    plain_files installs v not_skipped not_built = record {
      had = λ e f l. reach.reached f l;
      grows = λ f fetch is. ap is_some (all.kept (name_of plan f) is) ∙ is;
      same = fetch_same;
      skips = λ e. absurd (false≢true (sym not_skipped ∙ e));
      own = λ f mine. own_same f mine ∙ sym (ap (λ b. option_or (if b then own_at m v.outputs f else None) (file_at before (name_of plan f))) not_built);
      other = λ q a b. reach.apart q (λ f l. a f (prefix_listed plan supply f m.fetch l));
    }

    -- and where it is
    installed_files : (own : List OwnBytes) → IsNextFiles plan supply m true before (installed plan m own files) (record { state = Ended ending.Built; outputs = own })
    installed_files own = record {
      had = λ e f l. ap is_some (stays f (number, m, at, prefix_listed plan supply f m.fetch l)) ∙ reach.reached f l;
      grows = λ f fetch is. ap is_some (stays f fetch ∙ all.kept (name_of plan f) is) ∙ is;
      same = λ f fetch e. stays f fetch ∙ fetch_same f fetch e;
      skips = λ e. absurd (false≢true e);
      own = λ f mine. install_here plan m own fit.differ m.own files (owns.distinct number m at) (λ g l. owns.low g (number, m, at, l)) f mine ∙ ap (option_or (own_at m own f)) (own_same f mine);
      other = λ q a b. install_other plan m own m.own files q b ∙ reach.apart q (λ f l. a f (prefix_listed plan supply f m.fetch l));
    }
      where
        stays : (f : ℕ) → IsFetchFile plan f → file_at (installed plan m own files) (name_of plan f) ≡ file_at files (name_of plan f)
        stays f fetch = install_other plan m own m.own files (name_of plan f) (λ g l. names_apart plan m own fit.differ f g (owns.fetched f fetch) (owns.low g (number, m, at, l)) (apart_own f g fetch (number, m, at, l)))

  module _ (number : ℕ) (m : PlanModule) (at : slice_get plan.modules number ≡ Some m) (progress : Progress) (count : length progress.states ≡ number) (answers : (f : ℕ) → IsFetchFile plan f → had supply.remote progress.files (name_of plan f) ≡ available plan supply f) where
    abbrev after_list : Files
    after_list = (fetched plan supply.remote m.fetch progress.files).files

    abbrev missing_then : Option ℕ → Progress
    missing_then missing = elim missing [ Some file ↦ ends (Ended (ending.Missing file)) [] after_list progress | None ↦ after_fetch plan supply (length progress.states) m after_list progress ]

    abbrev unbuilt_then : Option ℕ → Progress
    unbuilt_then unbuilt = elim unbuilt [ Some u ↦ ends (Skipped u) [] progress.files progress | None ↦ one_module plan supply (length progress.states) m progress ]

    abbrev len_then : Bool → Progress
    len_then b = if b then ends (Ended ending.ClasspathTooLarge) [] after_list progress else after_goals plan m after_list progress (run_goals m.budget (supply.answers number) 0 m.goals [])

    -- the files behind its goals
    goals_files : (end : GoalsEnd) → IsNextFiles plan supply m m.installs progress.files (after_goals plan m after_list progress end).files (verdict_of_goals m end)
    goals_files (goal_failed i own) = plain_files number m at progress.files answers m.installs (record { state = Ended (ending.Goal i); outputs = own }) refl refl
    goals_files (output_too_large i own) = plain_files number m at progress.files answers m.installs (record { state = Ended (ending.OutputTooLarge i); outputs = own }) refl refl
    goals_files (all_answered own) = by m.installs (lacks_artifact m own)
      where
        by : (installs lacks : Bool) → IsNextFiles plan supply m installs progress.files (after_answers installs lacks plan m own after_list progress).files (verdict_of_install installs lacks own)
        by false lacks = plain_files number m at progress.files answers false (record { state = Ended ending.Built; outputs = own }) refl refl
        by true true = plain_files number m at progress.files answers true (record { state = Ended ending.NoArtifact; outputs = own }) refl refl
        by true false = installed_files number m at progress.files answers own

    -- the files behind the module
    next_files : IsNextFiles plan supply m m.installs progress.files (next_module first_unbuilt plan supply progress m).files (judge plan supply (state_at progress) (outputs_at progress) number m)
    unfolding judge one_module
    next_files = by (first_unbuilt progress m)
      where
        is : IsFetched supply.remote plan m.fetch progress.files (fetched plan supply.remote m.fetch progress.files)
        is = fetch_all supply.remote plan m.fetch progress.files

        missing_is : (fetched plan supply.remote m.fetch progress.files).missing ≡ missing_of plan supply m.fetch
        missing_is = is.missing ∙ find_same (λ f. not (is_some (had supply.remote progress.files (name_of plan f)))) (λ f. not (is_some (available plan supply f))) m.fetch (λ f l. ap (λ o. not (is_some o)) (answers f (number, m, at, l)))

        entries : (missing : Option ℕ) → (fetched plan supply.remote m.fetch progress.files).missing ≡ missing → IsNextFiles plan supply m m.installs progress.files (missing_then missing).files (verdict_of_fetch plan supply number m (outputs_at progress) missing)
        entries (Some f) e = plain_files number m at progress.files answers m.installs (record { state = Ended (ending.Missing f); outputs = [] }) refl refl
        entries None e = rw (count, len_is plan supply fit.apart number m at progress after_list there m.entries (fit.backed number m at)) (by_len (nat_lt most_classpath (total_len plan supply (outputs_at progress) m.entries)))
          where
            there : (f : ℕ) → is_listed f m.fetch ≡ true → file_at after_list (name_of plan f) ≡ available plan supply f
            there f l = is.there e f l ∙ answers f (number, m, at, l)

            by_len : (b : Bool) → IsNextFiles plan supply m m.installs progress.files (len_then b).files (if b then record { state = Ended ending.ClasspathTooLarge; outputs = [] } else verdict_of_goals m (run_goals m.budget (supply.answers number) 0 m.goals []))
            by_len true = plain_files number m at progress.files answers m.installs (record { state = Ended ending.ClasspathTooLarge; outputs = [] }) refl refl
            by_len false = goals_files (run_goals m.budget (supply.answers number) 0 m.goals [])

        by : (unbuilt : Option ℕ) → IsNextFiles plan supply m m.installs progress.files (unbuilt_then unbuilt).files (verdict_of_upstream plan supply number m (outputs_at progress) unbuilt)
        by (Some u) = skipped_files number m at progress.files answers u
        by None = subst (λ o. IsNextFiles plan supply m m.installs progress.files (one_module plan supply (length progress.states) m progress).files (verdict_of_fetch plan supply number m (outputs_at progress) o)) missing_is (entries (fetched plan supply.remote m.fetch progress.files).missing refl)

  -- ---- the fold

  -- an item at the end leaves the other places
  get_other : {X : Type 0} (xs : List X) (y d : X) (i : ℕ) → (i ≡ length xs → ⊥) → get_or (xs ++ y ∷ []) i d ≡ get_or xs i d
  get_other [] y d zero other = absurd (other refl)
  get_other [] y d (suc i) other = refl
  get_other (x ∷ xs) y d zero other = refl
  get_other (x ∷ xs) y d (suc i) other = get_other xs y d i (λ e. other (ap suc e))

  -- beyond a list stands the default
  get_last : {X : Type 0} (xs : List X) (d : X) → get_or xs (length xs) d ≡ d
  get_last [] d = refl
  get_last (x ∷ xs) d = get_last xs d

  -- what the files are behind the first modules
  record IsLeftFar (done : List PlanModule) (progress : Progress) : Type 0 where
    other : (q : List ℕ) → ((f : ℕ) → IsFetchFile plan f → Same q (name_of plan f) ≡ false) → ((f : ℕ) → IsOwnFile plan f → Same q (name_of plan f) ≡ false) → file_at progress.files q ≡ file_at supply.start q
    had : (number f : ℕ) (m : PlanModule) → slice_get plan.modules number ≡ Some m → number < length done → is_skipped_state (state_at progress number) ≡ false → is_listed f (had_prefix plan supply m.fetch) ≡ true → is_some (file_at progress.files (name_of plan f)) ≡ true
    reason : (f : ℕ) → IsFetchFile plan f → is_some (file_at progress.files (name_of plan f)) ≡ true
        → (is_some (file_at supply.start (name_of plan f)) ≡ true) ⊎ ((number : ℕ) × (m : PlanModule) × (slice_get plan.modules number ≡ Some m) × (number < length done) × (is_skipped_state (state_at progress number) ≡ false) × (is_listed f (had_prefix plan supply m.fetch) ≡ true))
    kept : (f : ℕ) → IsFetchFile plan f → is_some (file_at supply.start (name_of plan f)) ≡ true → is_some (file_at progress.files (name_of plan f)) ≡ true
    own : (number f : ℕ) (m : PlanModule) → slice_get plan.modules number ≡ Some m → is_listed f (map (λ (o : OwnFile). o.file) m.own) ≡ true
        → file_at progress.files (name_of plan f) ≡ option_or (if is_built (state_at progress number) && m.installs then own_at m (outputs_at progress number) f else None) (file_at supply.start (name_of plan f))

  module _ (done : List PlanModule) (m : PlanModule) (progress after : Progress) (at : slice_get plan.modules (length done) ≡ Some m) (so : IsSoFar plan supply fit.apart fit.low fit.backed done progress) (left : IsLeftFar done progress) (v : Verdict)
      (next : IsNext plan supply m progress after v) (nf : IsNextFiles plan supply m m.installs progress.files after.files v) where
    -- the list of done modules is one longer
    long : length (done ++ m ∷ []) ≡ length done + 1
    long = length-append done (m ∷ [])

    -- the others stand as they did
    old_state : (u : ℕ) → (u ≡ length done → ⊥) → state_at after u ≡ state_at progress u
    old_state u other = ap (λ xs. get_or xs u Waiting) next.states ∙ get_other progress.states v.state Waiting u (λ e. other (e ∙ so.states))

    -- and keep the same
    old_outputs : (u : ℕ) → (u ≡ length done → ⊥) → outputs_at after u ≡ outputs_at progress u
    old_outputs u other = ap (λ xs. get_or xs u []) next.outputs ∙ get_other progress.outputs v.outputs [] u (λ e. other (e ∙ so.outputs))

    -- the new one stands as judged
    new_state : state_at after (length done) ≡ v.state
    new_state = ap (λ xs. get_or xs (length done) Waiting) next.states ∙ get_or_push progress.states v.state Waiting (length done) so.states

    -- and keeps what is judged
    new_outputs : outputs_at after (length done) ≡ v.outputs
    new_outputs = ap (λ xs. get_or xs (length done) []) next.outputs ∙ get_or_push progress.outputs v.outputs [] (length done) so.outputs

    -- it waited before
    waits : state_at progress (length done) ≡ Waiting
    waits = ap (λ n. get_or progress.states n Waiting) (sym so.states) ∙ get_last progress.states Waiting

    -- what a module could have is there, with one module more
    far_had : (number f : ℕ) (n : PlanModule) → slice_get plan.modules number ≡ Some n → number < length (done ++ m ∷ []) → is_skipped_state (state_at after number) ≡ false → is_listed f (had_prefix plan supply n.fetch) ≡ true → is_some (file_at after.files (name_of plan f)) ≡ true
    far_had number f n here less not_skipped l = by (same_or_not number (length done))
      where
        by : (number ≡ length done) ⊎ ((number ≡ length done) → ⊥) → is_some (file_at after.files (name_of plan f)) ≡ true
        by (inl e) =
            let same : n ≡ m = ap (λ o. unwrap_or o n) (sym here ∙ subst (λ k. slice_get plan.modules k ≡ Some m) (sym e) at) in
            nf.had (sym (ap is_skipped_state new_state) ∙ subst (λ k. is_skipped_state (state_at after k) ≡ false) e not_skipped) f (subst (λ x. is_listed f (had_prefix plan supply x.fetch) ≡ true) same l)
        by (inr other) =
            nf.grows f (number, n, here, prefix_listed plan supply f n.fetch l) (left.had number f n here (below other) (sym (ap is_skipped_state (old_state number other)) ∙ not_skipped) l)
          where
            below : (number ≡ length done → ⊥) → number < length done
            below other = at_most number (length done) (let e = long in omega (arith, less, e)) other
              where
                at_most : (a b : ℕ) → a < b + 1 → (a ≡ b → ⊥) → a < b
                at_most zero zero l other = absurd (other refl)
                at_most zero (suc b) l other = omega arith
                at_most (suc a) zero l other = absurd (omega (arith, l))
                at_most (suc a) (suc b) l other = let again = at_most a b (omega (arith, l)) (λ e. other (ap suc e)) in omega (arith, again)

    abbrev Why : List PlanModule → Progress → ℕ → Type 0
    Why upto p f = (is_some (file_at supply.start (name_of plan f)) ≡ true) ⊎ ((number : ℕ) × (m : PlanModule) × (slice_get plan.modules number ≡ Some m) × (number < length upto) × (is_skipped_state (state_at p number) ≡ false) × (is_listed f (had_prefix plan supply m.fetch) ≡ true))

    -- and what is there has its reason
    far_reason : (f : ℕ) → IsFetchFile plan f → is_some (file_at after.files (name_of plan f)) ≡ true → Why (done ++ m ∷ []) after f
    far_reason f fetch is = by (is_skipped_state v.state) refl (is_listed f (had_prefix plan supply m.fetch)) refl
      where
        lift : Why done progress f → Why (done ++ m ∷ []) after f
        lift (inl a) = inl a
        lift (inr r) =
            let less = r.3 in let e = long in
            inr (r.0, r.1, r.2, omega (arith, less, e), ap is_skipped_state (old_state r.0 (λ same. absurd (omega (arith, less, same)))) ∙ r.4, r.5)

        by : (b : Bool) → is_skipped_state v.state ≡ b → (c : Bool) → is_listed f (had_prefix plan supply m.fetch) ≡ c → Why (done ++ m ∷ []) after f
        by true e c l = lift (left.reason f fetch (ap is_some (sym (nf.skips e (name_of plan f))) ∙ is))
        by false e true l = inr (length done, m, at, (let e = long in omega (arith, e)), ap is_skipped_state new_state ∙ e, l)
        by false e false l = lift (left.reason f fetch (ap is_some (sym (nf.same f fetch l)) ∙ is))

    -- and own files are as judged
    far_own : (number f : ℕ) (n : PlanModule) → slice_get plan.modules number ≡ Some n → is_listed f (map (λ (o : OwnFile). o.file) n.own) ≡ true
        → file_at after.files (name_of plan f) ≡ option_or (if is_built (state_at after number) && n.installs then own_at n (outputs_at after number) f else None) (file_at supply.start (name_of plan f))
    far_own number f n here mine = by (same_or_not number (length done))
      where
        last : is_listed f (map (λ (o : OwnFile). o.file) m.own) ≡ true → file_at after.files (name_of plan f) ≡ option_or (if is_built (state_at after (length done)) && m.installs then own_at m (outputs_at after (length done)) f else None) (file_at supply.start (name_of plan f))
        last mine =
            nf.own f mine
            ∙ ap (option_or (if is_built v.state && m.installs then own_at m v.outputs f else None)) (left.own (length done) f m at mine ∙ ap (λ s. option_or (if is_built s && m.installs then own_at m (outputs_at progress (length done)) f else None) (file_at supply.start (name_of plan f))) waits)
            ∙ sym (ap (λ s. option_or (if is_built s && m.installs then own_at m (outputs_at after (length done)) f else None) (file_at supply.start (name_of plan f))) new_state
            ∙ ap (λ own. option_or (if is_built v.state && m.installs then own_at m own f else None) (file_at supply.start (name_of plan f))) new_outputs)

        by : (number ≡ length done) ⊎ ((number ≡ length done) → ⊥) → file_at after.files (name_of plan f) ≡ option_or (if is_built (state_at after number) && n.installs then own_at n (outputs_at after number) f else None) (file_at supply.start (name_of plan f))
        by (inl e) =
            let same : m ≡ n = ap (λ o. unwrap_or o n) (sym (subst (λ k. slice_get plan.modules k ≡ Some m) (sym e) at) ∙ here) in
            subst (λ k. file_at after.files (name_of plan f) ≡ option_or (if is_built (state_at after k) && n.installs then own_at n (outputs_at after k) f else None) (file_at supply.start (name_of plan f))) (sym e)
            (subst (λ (x : PlanModule). file_at after.files (name_of plan f) ≡ option_or (if is_built (state_at after (length done)) && x.installs then own_at x (outputs_at after (length done)) f else None) (file_at supply.start (name_of plan f))) same
            (last (subst (λ (x : PlanModule). is_listed f (map (λ (o : OwnFile). o.file) x.own) ≡ true) (sym same) mine)))
        by (inr other) =
            nf.other (name_of plan f)
            (λ g l. let fetch : IsFetchFile plan g = (length done, m, at, l) in names_apart plan m [] fit.differ f g (owns.low f (number, n, here, mine)) (owns.fetched g fetch) (λ same. apart_own g f fetch (number, n, here, mine) (sym same)))
            (λ g l. names_apart plan m [] fit.differ f g (owns.low f (number, n, here, mine)) (owns.low g (length done, m, at, l)) (λ same. other (owns.owner f number (length done) n m here at mine (subst (λ x. is_listed x (map (λ (o : OwnFile). o.file) m.own) ≡ true) (sym same) l))))
            ∙ left.own number f n here mine
            ∙ sym (ap (λ s. option_or (if is_built s && n.installs then own_at n (outputs_at after number) f else None) (file_at supply.start (name_of plan f))) (old_state number other)
            ∙ ap (λ own. option_or (if is_built (state_at progress number) && n.installs then own_at n own f else None) (file_at supply.start (name_of plan f))) (old_outputs number other))

    -- so files stay in the closed form with one module more
    left_further : IsLeftFar (done ++ m ∷ []) after
    left_further = record {
      other = λ q a b. nf.other q (λ f l. a f (length done, m, at, l)) (λ f l. b f (length done, m, at, l)) ∙ left.other q a b;
      had = far_had;
      reason = far_reason;
      kept = λ f fetch is. nf.grows f fetch (left.kept f fetch is);
      own = far_own;
    }

  -- and with all that follow
  fold_left : (done rest : List PlanModule) (progress : Progress) → plan.modules ≡ done ++ rest → IsSoFar plan supply fit.apart fit.low fit.backed done progress → IsLeftFar done progress → IsLeftFar plan.modules (fold (next_module first_unbuilt plan supply) progress rest)
  fold_left done [] progress e so left = subst (λ ms. IsLeftFar ms progress) (sym (e ∙ append-nil done)) left
  fold_left done (m ∷ rest) progress e so left =
      let at : slice_get plan.modules (length done) ≡ Some m = ap (λ ms. slice_get ms (length done)) e ∙ at_middle done rest m in
      let next = next_is plan supply fit.apart (length done) m at progress (fit.backed (length done) m at) so.states so.answers in
      fold_left (done ++ m ∷ []) rest (next_module first_unbuilt plan supply progress m) (e ∙ sym (append_assoc done (m ∷ []) rest))
      (one_further plan supply fit.apart fit.low fit.backed done m progress (next_module first_unbuilt plan supply progress m) at so next)
      (left_further done m progress (next_module first_unbuilt plan supply progress m) at so left (judge plan supply (state_at progress) (outputs_at progress) (length done) m) next (next_files (length done) m at progress so.states so.answers))

  -- what is there stands before a default
  some_same : (x y : Option (List ℕ)) → is_some x ≡ true → x ≡ option_or x y
  some_same (Some b) y is = refl
  some_same None y is = absurd (false≢true is)

  -- it holds before the first module
  so_first : IsSoFar plan supply fit.apart fit.low fit.backed [] (beginning supply)
  so_first = record { states = refl; outputs = refl; answers = λ f fetch. refl; judged = λ k n here less. absurd (omega (arith, less)) }

  -- and so do the files
  left_first : IsLeftFar [] (beginning supply)
  left_first = record { other = λ q a b. refl; had = λ number f m at less. absurd (omega (arith, less)); reason = λ f fetch is. inl is; kept = λ f fetch is. is; own = λ number f m at mine. refl }

  -- so the files of the sequential build are in the closed form
  pub left_hand : IsLeft plan supply (state_at (one_thread plan supply)) (outputs_at (one_thread plan supply)) (one_thread plan supply).files
  left_hand =
      let so = fold_judged plan supply fit.apart fit.low fit.backed [] plan.modules (beginning supply) refl so_first in
      let left = fold_left [] plan.modules (beginning supply) refl so_first left_first in
      record {
        other = λ q apart. left.other q (λ f fetch. apart f (owns.fetched f fetch)) (λ f own. apart f (owns.low f own));
        neither = λ f low unfetched unowned. left.other (name_of plan f)
            (λ g fetch. names_of f g low (owns.fetched g fetch) (λ same. unfetched (subst (IsFetchFile plan) (sym same) fetch)))
            (λ g own. names_of f g low (owns.low g own) (λ same. unowned (subst (IsOwnFile plan) (sym same) own)));
        bytes = λ f fetch is. some_same (file_at (one_thread plan supply).files (name_of plan f)) (remote_bytes supply.remote (name_of plan f)) is ∙ so.answers f fetch;
        had = λ number f m at not_skipped l. left.had number f m at (in_list plan.modules number m at) not_skipped l;
        reason = λ f fetch is. why f (left.reason f fetch is);
        kept = left.kept;
        own = left.own;
      }
    where
      names_of : (f g : ℕ) → f < length plan.files → g < length plan.files → (f ≡ g → ⊥) → Same (name_of plan f) (name_of plan g) ≡ false
      names_of f g a b other = by (Same (name_of plan f) (name_of plan g)) refl
        where
          by : (c : Bool) → Same (name_of plan f) (name_of plan g) ≡ c → Same (name_of plan f) (name_of plan g) ≡ false
          by false e = e
          by true e = absurd (other (fit.differ f g a b e))

      why : (f : ℕ) → (is_some (file_at supply.start (name_of plan f)) ≡ true) ⊎ ((number : ℕ) × (m : PlanModule) × (slice_get plan.modules number ≡ Some m) × (number < length plan.modules) × (is_skipped_state (state_at (one_thread plan supply) number) ≡ false) × (is_listed f (had_prefix plan supply m.fetch) ≡ true))
          → (is_some (file_at supply.start (name_of plan f)) ≡ true) ⊎ ((number : ℕ) × (m : PlanModule) × (slice_get plan.modules number ≡ Some m) × (is_skipped_state (state_at (one_thread plan supply) number) ≡ false) × (is_listed f (had_prefix plan supply m.fetch) ≡ true))
      why f (inl is) = inl is
      why f (inr r) = inr (r.0, r.1, r.2, r.4, r.5)

-- the files of the sequential build are those of the closed form
pub hand_left : HandLeft
hand_left plan supply fit owns = left_hand plan supply fit owns
