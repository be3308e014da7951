-- The sequential build is judged: it ends as the closed form says.
use Rattle.std.proofs.Common.{◌≡◌, ℕ, ◌+◌, Bool, true, false, not, nat_lt, cond, List, [], ◌∷◌, ◌++◌, fold, length, map, slice_get, Option, Some, None, is_some, option_map, unwrap_or, refl, ap, subst, ◌∙◌, if◌then◌else◌}
use Rattle.std.specs.List.{list_all}
use Rattle.std.specs.Option.{option_or}
use Rattle.std.specs.FinMap as finite
use Rattle.std.specs.Ordering.{eq_by_cmp, nat_cmp}
use Rattle.std.specs.Cmp.Lexicographic.{slice_cmp}
use Rattle.mvn_shared.specs.Files.{Files, file_at}
use Rattle.goal_types.specs.declared.goal.OwnBytes.{OwnBytes}
use Rattle.build_core.specs.declared.plan.OwnFile.{OwnFile}
use Rattle.build_core.specs.declared.plan.Plan.{Plan}
use Rattle.build_core.specs.declared.plan.PlanModule.{PlanModule}
use Rattle.build_core.specs.declared.plan.Entry.{Entry}
use Rattle.build_core.specs.declared.plan.Origin.{Origin}
use Rattle.build_core.specs.declared.plan.Origin.TheVariants as origin
use Rattle.build_core.specs.declared.ending.State.TheVariants.{Skipped, Ended}
use Rattle.build_core.specs.declared.ending.Ending.TheVariants as ending
use Rattle.build_core.specs.Slots.{GoalsEnd, all_answered, goal_failed, output_too_large, run_goals}
use Rattle.build_core.specs.OneThread.{Fetched, Progress, Supply, after_answers, after_fetch, after_goals, bytes_len, ends, entries_len, fetched, first_unbuilt, lacks_artifact, most_classpath, name_of, next_module, one_module, origin_bytes, own_bytes, path_entry, put_own, remote_bytes}
use Rattle.run_law.specs.Closed.{Verdict, available, judge, missing_of, origin_len, outputs_at, state_at, total_len, verdict_of_fetch, verdict_of_goals, verdict_of_install, verdict_of_upstream}
use Rattle.scripts.specs.Outlines.{is_listed}
use Rattle.event_core.specs.SoundPlans.{is_backed}
use Rattle.run_law.proofs.Carried.{IsFetched, at_insert, fetch_all, had}
use Rattle.run_law.proofs.Once.{both, find_same, listed_first, listed_later}

-- a file that some module fetches
abbrev pub IsFetchFile : Plan → ℕ → Type 0
IsFetchFile plan f = (number : ℕ) × (m : PlanModule) × (slice_get plan.modules number ≡ Some m) × (is_listed f m.fetch ≡ true)

-- what is asked of a plan: own files have other names than those that are fetched
abbrev pub AreApart : Plan → Type 0
AreApart plan = (f o : ℕ) → IsFetchFile plan f → ((number : ℕ) × (m : PlanModule) × (slice_get plan.modules number ≡ Some m) × (is_listed o (map (λ (x : OwnFile). x.file) m.own) ≡ true)) → eq_by_cmp (slice_cmp nat_cmp) (name_of plan f) (name_of plan o) ≡ false

-- what the fold is behind a module
pub record IsNext (plan : Plan) (supply : Supply) (m : PlanModule) (before after : Progress) (v : Verdict) : Type 0 where
  pub states : after.states ≡ before.states ++ v.state ∷ []
  pub outputs : after.outputs ≡ before.outputs ++ v.outputs ∷ []
  pub alike : (f : ℕ) → IsFetchFile plan f → had supply.remote after.files (name_of plan f) ≡ had supply.remote before.files (name_of plan f)

module _ (plan : Plan) (supply : Supply) (apart : AreApart plan) (number : ℕ) (m : PlanModule) (at : slice_get plan.modules number ≡ Some m) where
  -- installing touches no fetched name
  put_apart : (own : List OwnBytes) (f : ℕ) → IsFetchFile plan f → (files : Files) (o : OwnFile) → is_listed o.file (map (λ (x : OwnFile). x.file) m.own) ≡ true → file_at (put_own plan m own files o) (name_of plan f) ≡ file_at files (name_of plan f)
  put_apart own f fetch files o is = by (own_bytes m own o.slot)
    where
      by : (bytes : Option (List ℕ)) → file_at (unwrap_or (option_map (finite.insert files (name_of plan o.file)) bytes) files) (name_of plan f) ≡ file_at files (name_of plan f)
      by None = refl
      by (Some bytes) = at_insert files (name_of plan o.file) bytes (name_of plan f) ∙ ap (λ b. cond b (Some bytes) (file_at files (name_of plan f))) (apart f o.file fetch (number, m, at, is))

  -- installing leaves fetched files as they are
  install_apart : (own : List OwnBytes) (f : ℕ) → IsFetchFile plan f → (list : List OwnFile) → ((o : ℕ) → is_listed o (map (λ (x : OwnFile). x.file) list) ≡ true → is_listed o (map (λ (x : OwnFile). x.file) m.own) ≡ true) → (files : Files) → file_at (fold (put_own plan m own) files list) (name_of plan f) ≡ file_at files (name_of plan f)
  install_apart own f fetch [] sub files = refl
  install_apart own f fetch (o ∷ list) sub files =
      install_apart own f fetch list (λ x is. sub x (listed_later o.file x (map (λ (x : OwnFile). x.file) list) is)) (put_own plan m own files o)
      ∙ put_apart own f fetch files o (sub o.file (listed_first o.file (map (λ (x : OwnFile). x.file) list)))

  -- the entries' bytes are those that can be had
  pub len_is : (progress : Progress) (files : Files) → ((f : ℕ) → is_listed f m.fetch ≡ true → file_at files (name_of plan f) ≡ available plan supply f) → (entries : List Entry) → list_all (λ (e : Entry). is_backed m e.origin) entries ≡ true → entries_len (map (path_entry plan files progress.outputs) entries) ≡ total_len plan supply (outputs_at progress) entries
  len_is progress files there [] is = refl
  len_is progress files there (e ∷ entries) is =
      let parts = both (is_backed m e.origin) (list_all (λ (e : Entry). is_backed m e.origin) entries) is in
      ap (λ n. n + entries_len (map (path_entry plan files progress.outputs) entries)) (one e.origin parts.0) ∙ ap (λ n. origin_len plan supply (outputs_at progress) e.origin + n) (len_is progress files there entries parts.1)
    where
      one : (o : Origin) → is_backed m o ≡ true → bytes_len (origin_bytes plan files progress.outputs o) ≡ origin_len plan supply (outputs_at progress) o
      one (origin.File f) is = ap bytes_len (there f is)
      one (origin.Module u s) is = refl
      one origin.Nothing is = refl

  -- how a module goes on whose goals ended
  next_goals : (progress : Progress) (files : Files) → ((f : ℕ) → IsFetchFile plan f → had supply.remote files (name_of plan f) ≡ had supply.remote progress.files (name_of plan f)) → (end : GoalsEnd) → IsNext plan supply m progress (after_goals plan m files progress end) (verdict_of_goals m end)
  next_goals progress files alike (goal_failed i own) = record { states = refl; outputs = refl; alike = alike }
  next_goals progress files alike (output_too_large i own) = record { states = refl; outputs = refl; alike = alike }
  next_goals progress files alike (all_answered own) = by m.installs (lacks_artifact m own)
    where
      by : (installs lacks : Bool) → IsNext plan supply m progress (after_answers installs lacks plan m own files progress) (verdict_of_install installs lacks own)
      by false lacks = record { states = refl; outputs = refl; alike = alike }
      by true true = record { states = refl; outputs = refl; alike = alike }
      by true false = record { states = refl; outputs = refl; alike = λ f fetch. ap (λ o. option_or o (remote_bytes supply.remote (name_of plan f))) (install_apart own f fetch m.own (λ o is. is) files) ∙ alike f fetch }

  -- so a module that comes next stands as judged, and fetched files can be had as before
  pub next_is : (progress : Progress) → list_all (λ (e : Entry). is_backed m e.origin) m.entries ≡ true → length progress.states ≡ number → ((f : ℕ) → IsFetchFile plan f → had supply.remote progress.files (name_of plan f) ≡ available plan supply f)
      → IsNext plan supply m progress (next_module first_unbuilt plan supply progress m) (judge plan supply (state_at progress) (outputs_at progress) number m)
  unfolding judge one_module
  next_is progress backed count answers = by (first_unbuilt progress m)
    where
      got : Fetched
      got = fetched plan supply.remote m.fetch progress.files

      is : IsFetched supply.remote plan m.fetch progress.files got
      is = fetch_all supply.remote plan m.fetch progress.files

      fetch_here : (f : ℕ) → is_listed f m.fetch ≡ true → IsFetchFile plan f
      fetch_here f l = (number, m, at, l)

      missing_is : got.missing ≡ missing_of plan supply m.fetch
      missing_is = is.missing ∙ find_same (λ f. not (is_some (had supply.remote progress.files (name_of plan f)))) (λ f. not (is_some (available plan supply f))) m.fetch (λ f l. ap (λ o. not (is_some o)) (answers f (fetch_here f l)))

      entries : (missing : Option ℕ) → got.missing ≡ missing → IsNext plan supply m progress (elim missing [ Some file ↦ ends (Ended (ending.Missing file)) [] got.files progress | None ↦ after_fetch plan supply (length progress.states) m got.files progress ]) (verdict_of_fetch plan supply number m (outputs_at progress) missing)
      entries (Some f) e = record { states = refl; outputs = refl; alike = λ f fetch. is.alike (name_of plan f) }
      entries None e = rw (count, len_is progress got.files there m.entries backed) (by_len (nat_lt most_classpath (total_len plan supply (outputs_at progress) m.entries)))
        where
          there : (f : ℕ) → is_listed f m.fetch ≡ true → file_at got.files (name_of plan f) ≡ available plan supply f
          there f l = is.there e f l ∙ answers f (fetch_here f l)

          by_len : (b : Bool) → IsNext plan supply m progress (if b then ends (Ended ending.ClasspathTooLarge) [] got.files progress else after_goals plan m got.files progress (run_goals m.budget (supply.answers number) 0 m.goals [])) (if b then record { state = Ended ending.ClasspathTooLarge; outputs = [] } else verdict_of_goals m (run_goals m.budget (supply.answers number) 0 m.goals []))
          by_len true = record { states = refl; outputs = refl; alike = λ f fetch. is.alike (name_of plan f) }
          by_len false = next_goals progress got.files (λ f fetch. is.alike (name_of plan f)) (run_goals m.budget (supply.answers number) 0 m.goals [])

      by : (unbuilt : Option ℕ) → IsNext plan supply m progress (elim unbuilt [ Some u ↦ ends (Skipped u) [] progress.files progress | None ↦ one_module plan supply (length progress.states) m progress ]) (verdict_of_upstream plan supply number m (outputs_at progress) unbuilt)
      by (Some u) = record { states = refl; outputs = refl; alike = λ f fetch. refl }
      by None = subst (λ o. IsNext plan supply m progress (one_module plan supply (length progress.states) m progress) (verdict_of_fetch plan supply number m (outputs_at progress) o)) missing_is (entries got.missing refl)
