-- Runs on the sample plan that end otherwise than built, each beside one that must not fit, though its events may come.
use Rattle.std.proofs.Common.{◌≡◌, ℕ, ◌+◌, nat_le, true, false, List, [], ◌∷◌, length, replicate, Option, Some, None, is_some, refl, sym, ap, ◌∙◌}
use Rattle.std.proofs.lemmas.Bool.{false≢true}
use Rattle.std.proofs.lemmas.List.{length-replicate}
use Rattle.mvn_shared.specs.Files.{Files, file_at}
use Rattle.build_core.specs.declared.mode.Mode.TheVariants.{Shared, Exclusive}
use Rattle.goal_types.specs.declared.goal.GoalAnswer.{GoalAnswer}
use Rattle.goal_types.specs.declared.goal.GoalAnswer.TheVariants.{Done, Failed, Produced}
use Rattle.build_core.specs.declared.event.Event.{Event}
use Rattle.build_core.specs.declared.event.Event.TheVariants as event
use Rattle.build_core.specs.declared.ending.Ending.TheVariants as ending
use Rattle.event_core.specs.declared.entry.RunEntry.{RunEntry}
use Rattle.event_core.specs.Causes.{cause_now}
use Rattle.build_core.specs.OneThread.{bytes_len, most_classpath, most_fetched, remote_bytes}
use Rattle.scripts.specs.Outlines.{outline_of}
use Rattle.event_core.specs.Runs.{IsComplete, IsQuiet, IsRunOf, events_of}
use Rattle.event_core.specs.Standing.{after}
use Rattle.event_core.specs.Worlds.{AllFit, HandTold}
use Rattle.run_law.specs.SamplePlan.{plan}
use Rattle.run_law.proofs.Checks.{run_is}
use Rattle.run_law.proofs.PlanRuns.{plain, says}

abbrev not_none : {X : Type 0} (x : X) → ◌≡◌ {A = Option X} (Some x) None → ⊥
not_none x e = false≢true (sym (ap is_some e))

-- a complete run where the file is nowhere to be had
abbrev missing : List RunEntry
missing =
    plain (event.Start 0 0) ∷ plain (event.Take 0 0 Shared) ∷ plain (event.Free 0 0) ∷ plain (event.Take 0 0 Exclusive) ∷ plain (event.Free 0 0) ∷ plain (event.End 0 (ending.Missing 0))
    ∷ plain (event.Start 1 1) ∷ plain (event.Take 1 0 Shared) ∷ plain (event.Free 1 0) ∷ plain (event.Take 1 0 Exclusive) ∷ plain (event.Free 1 0) ∷ plain (event.End 1 (ending.Missing 0))
    ∷ plain (event.Skip 2) ∷ []

-- it is a run
missing_runs : IsRunOf (plan false 100) missing
unfolding after cause_now
missing_runs = run_is (outline_of (plan false 100)) (events_of missing) refl

-- and complete
missing_ends : IsComplete (plan false 100) missing
unfolding after
missing_ends = refl

-- and quiet
missing_quiet : IsQuiet missing
missing_quiet = refl

-- the file is there at the start: one goal, answered so, and an end
abbrev asked : GoalAnswer → Event → List RunEntry
asked answer e = plain (event.Start 0 0) ∷ plain (event.Take 0 0 Shared) ∷ plain (event.Read 0 0) ∷ plain (event.Free 0 0) ∷ says 0 0 answer ∷ plain e ∷ []

abbrev unasked : Event → List RunEntry
unasked e = plain (event.Start 0 0) ∷ plain (event.Take 0 0 Shared) ∷ plain (event.Read 0 0) ∷ plain (event.Free 0 0) ∷ plain e ∷ []

-- each of these is a run, whatever fits
asked_runs : (answer : GoalAnswer) (budget : ℕ) → IsRunOf (plan true budget) (asked answer (event.End 0 (ending.Goal 0))) × IsRunOf (plan true budget) (asked answer (event.End 0 (ending.OutputTooLarge 0)))
    × IsRunOf (plan true budget) (asked answer (event.End 0 ending.NoArtifact)) × IsRunOf (plan true budget) (asked answer (event.Take 0 1 Exclusive))
unfolding after cause_now
asked_runs answer budget = (
  run_is (outline_of (plan true budget)) (events_of (asked answer (event.End 0 (ending.Goal 0)))) refl,
  run_is (outline_of (plan true budget)) (events_of (asked answer (event.End 0 (ending.OutputTooLarge 0)))) refl,
  run_is (outline_of (plan true budget)) (events_of (asked answer (event.End 0 ending.NoArtifact))) refl,
  run_is (outline_of (plan true budget)) (events_of (asked answer (event.Take 0 1 Exclusive))) refl,
)

-- so are those without an answer
unasked_runs : (budget : ℕ) → IsRunOf (plan true budget) (unasked (event.End 0 ending.ClasspathTooLarge)) × IsRunOf (plan true budget) (asked Done (event.End 0 ending.NoArtifact))
unfolding after cause_now
unasked_runs budget = (run_is (outline_of (plan true budget)) (events_of (unasked (event.End 0 ending.ClasspathTooLarge))) refl, run_is (outline_of (plan true budget)) (events_of (asked Done (event.End 0 ending.NoArtifact))) refl)

-- there are texts of any length
long : (n : ℕ) → (bytes : List ℕ) × (length bytes ≡ n)
long n = (replicate n 0, length-replicate n 0)

module _ (start remote : Files) where
  abbrev hands : ℕ → HandTold
  hands w = record { remote = Some remote; area = true; gate = None }

  module _ (none : file_at remote (65 ∷ []) ≡ None) where
    -- the remote doesn't have the file
    away : remote_bytes remote (65 ∷ []) ≡ None
    away = simp none

    -- the run fits
    missing_fits : AllFit (plan false 100) (Some start) hands [] missing
    unfolding after
    missing_fits = ((refl, tt), ((refl, tt), ((refl, tt), ((refl, tt), ((refl, tt), ((refl, away), ((refl, tt), ((refl, tt), ((refl, tt), ((refl, tt), ((refl, tt), ((refl, away), ((refl, tt), tt)))))))))))))

  -- one that is larger than the limit is as if it weren't there
  module _ (bytes : List ℕ) (here : file_at remote (65 ∷ []) ≡ Some bytes) where
    -- a file above the limit counts as absent
    large_away : nat_le (length bytes) most_fetched ≡ false → remote_bytes remote (65 ∷ []) ≡ None
    large_away large = simp (here, large)

    -- so the run fits then too
    large_fits : nat_le (length bytes) most_fetched ≡ false → AllFit (plan false 100) (Some start) hands [] missing
    unfolding after
    large_fits large = ((refl, tt), ((refl, tt), ((refl, tt), ((refl, tt), ((refl, tt), ((refl, large_away large), ((refl, tt), ((refl, tt), ((refl, tt), ((refl, tt), ((refl, tt), ((refl, large_away large), ((refl, tt), tt)))))))))))))

    -- one within the limit is had
    small_here : nat_le (length bytes) most_fetched ≡ true → remote_bytes remote (65 ∷ []) ≡ Some bytes
    small_here small = simp (here, small)

    -- but where it can be had, none is missing
    small_unfit : nat_le (length bytes) most_fetched ≡ true → AllFit (plan false 100) (Some start) hands [] missing → ⊥
    unfolding after
    small_unfit small fits = not_none bytes (sym (small_here small) ∙ fits.1.1.1.1.1.0.1)

  module _ (bytes : List ℕ) (here : file_at start (65 ∷ []) ≡ Some bytes) where
    -- a file within the limit leaves the classpath within it
    entries_within : nat_le (length bytes + 0) most_classpath ≡ true → nat_le (bytes_len (file_at start (65 ∷ [])) + 0) most_classpath ≡ true
    entries_within small = ap (λ o. nat_le (bytes_len o + 0) most_classpath) here ∙ small

    -- one beyond it doesn't
    entries_beyond : nat_le (length bytes + 0) most_classpath ≡ false → nat_le (bytes_len (file_at start (65 ∷ [])) + 0) most_classpath ≡ false
    entries_beyond large = ap (λ o. nat_le (bytes_len o + 0) most_classpath) here ∙ large

    -- ---- too large a classpath

    module _ (large : nat_le (length bytes + 0) most_classpath ≡ false) where
      -- then the end fits
      beyond_fits : AllFit (plan true 100) (Some start) hands [] (unasked (event.End 0 ending.ClasspathTooLarge))
      unfolding after
      beyond_fits = ((refl, tt), ((refl, tt), ((refl, tt), ((refl, tt), ((refl, entries_beyond large), tt)))))

      -- no goal is asked then
      beyond_unfit : (answer : GoalAnswer) (e : Event) → AllFit (plan true 100) (Some start) hands [] (asked answer e) → ⊥
      unfolding after
      beyond_unfit answer e fits = false≢true (sym (entries_beyond large) ∙ fits.1.1.1.1.0.1.0)

    module _ (small : nat_le (length bytes + 0) most_classpath ≡ true) where
      -- within the limit it doesn't
      within_unfit : AllFit (plan true 100) (Some start) hands [] (unasked (event.End 0 ending.ClasspathTooLarge)) → ⊥
      unfolding after
      within_unfit fits = false≢true (sym fits.1.1.1.1.0.1 ∙ entries_within small)

      -- ---- a goal that failed

      -- behind a failure the end fits
      failed_fits : (text : List ℕ) → AllFit (plan true 100) (Some start) hands [] (asked (Failed text) (event.End 0 (ending.Goal 0)))
      unfolding after
      failed_fits text = ((refl, tt), ((refl, tt), ((refl, tt), ((refl, tt), ((refl, (entries_within small, refl, tt)), ((refl, refl), tt))))))

      -- behind a good answer it doesn't
      done_unfit : AllFit (plan true 100) (Some start) hands [] (asked Done (event.End 0 (ending.Goal 0))) → ⊥
      unfolding after
      done_unfit fits = false≢true fits.1.1.1.1.1.0.1

      -- and no installing behind it
      failed_unfit : (text : List ℕ) → AllFit (plan true 100) (Some start) hands [] (asked (Failed text) (event.Take 0 1 Exclusive)) → ⊥
      unfolding after
      failed_unfit text fits = false≢true fits.1.1.1.1.1.0.1.1

      -- ---- too large an output

      -- an output over the budget ends so
      large_output_fits : AllFit (plan true 2) (Some start) hands [] (asked (Produced (7 ∷ 7 ∷ 7 ∷ [])) (event.End 0 (ending.OutputTooLarge 0)))
      unfolding after
      large_output_fits = ((refl, tt), ((refl, tt), ((refl, tt), ((refl, tt), ((refl, (entries_within small, refl, tt)), ((refl, refl), tt))))))

      -- one within it doesn't
      small_output_unfit : AllFit (plan true 3) (Some start) hands [] (asked (Produced (7 ∷ 7 ∷ 7 ∷ [])) (event.End 0 (ending.OutputTooLarge 0))) → ⊥
      unfolding after
      small_output_unfit fits = false≢true fits.1.1.1.1.1.0.1

      -- and no installing behind it
      large_output_unfit : AllFit (plan true 2) (Some start) hands [] (asked (Produced (7 ∷ 7 ∷ 7 ∷ [])) (event.Take 0 1 Exclusive)) → ⊥
      unfolding after
      large_output_unfit fits = false≢true fits.1.1.1.1.1.0.1.1

      -- ---- nothing to be installed

      -- without the artifact the end fits
      no_artifact_fits : AllFit (plan true 100) (Some start) hands [] (asked Done (event.End 0 ending.NoArtifact))
      unfolding after
      no_artifact_fits = ((refl, tt), ((refl, tt), ((refl, tt), ((refl, tt), ((refl, (entries_within small, refl, tt)), ((refl, (entries_within small, refl, refl)), tt))))))

      -- with it it doesn't
      artifact_unfit : AllFit (plan true 100) (Some start) hands [] (asked (Produced (7 ∷ [])) (event.End 0 ending.NoArtifact)) → ⊥
      unfolding after
      artifact_unfit fits = false≢true fits.1.1.1.1.1.0.1.2

      -- and no installing without it
      no_artifact_unfit : AllFit (plan true 100) (Some start) hands [] (asked Done (event.Take 0 1 Exclusive)) → ⊥
      unfolding after
      no_artifact_unfit fits = false≢true (sym fits.1.1.1.1.1.0.1.2)
