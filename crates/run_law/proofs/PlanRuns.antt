-- Runs on the sample plan, which the checker computes: two workers fetch, read, answer and install; each fits.
use Rattle.std.proofs.Common.{Bool, List, None, Option, Some, ℕ, [], ap, false, nat_eq, nat_le, refl, sym, take, true, ◌+◌, ◌∙◌, ◌∷◌, ◌≡◌}
use Rattle.mvn_shared.specs.Files.{Files, file_at}
use Rattle.build_core.specs.declared.mode.Mode.TheVariants.{Shared, Exclusive}
use Rattle.goal_types.specs.declared.goal.GoalAnswer.{GoalAnswer}
use Rattle.goal_types.specs.declared.goal.GoalAnswer.TheVariants.{Done, Produced}
use Rattle.build_core.specs.declared.event.Event.{Event}
use Rattle.build_core.specs.declared.event.Event.TheVariants as event
use Rattle.build_core.specs.declared.ending.Ending.TheVariants as ending
use Rattle.event_core.specs.declared.entry.Carried.TheVariants as carried
use Rattle.event_core.specs.declared.entry.RunEntry.{RunEntry}
use Rattle.event_core.specs.Causes.{cause_now}
use Rattle.event_core.specs.Runs.{IsComplete, IsQuiet, IsRunOf, contents, events_of}
use Rattle.std.specs.FinMap as finite
use Rattle.build_core.specs.OneThread.{bytes_len, most_classpath, remote_bytes}
use Rattle.run_law.proofs.Carried.{at_insert}
use Rattle.scripts.specs.Outlines.{outline_of}
use Rattle.event_core.specs.Standing.{after}
use Rattle.event_core.specs.Worlds.{AllFit, Fits, HandTold}
use Rattle.run_law.specs.SamplePlan.{plan}
use Rattle.run_law.proofs.Checks.{run_is}
use Rattle.build_core.specs.declared.ending.Device.TheVariants.{Gate}
use Rattle.goal_types.specs.declared.goal.PathEntry.{PathEntry}
use Rattle.std.proofs.lemmas.Bool.{false≢true}

abbrev pub plain : Event → RunEntry
plain e = record { event = e; carried = carried.Nothing }

abbrev pub puts : ℕ → ℕ → List ℕ → RunEntry
puts w file bytes = record { event = event.Publish w file; carried = carried.Published bytes }

abbrev pub says : ℕ → ℕ → GoalAnswer → RunEntry
says w goal answer = record { event = event.Answer w goal; carried = carried.Answered answer }

-- both fetch the one file: who comes second finds it there
abbrev pub whole : List RunEntry
whole =
    plain (event.Start 0 0) ∷ plain (event.Start 1 1) ∷ plain (event.Take 0 0 Shared) ∷ plain (event.Take 1 0 Shared)
    ∷ plain (event.Free 0 0) ∷ plain (event.Free 1 0) ∷ plain (event.Take 0 0 Exclusive) ∷ puts 0 0 (5 ∷ []) ∷ plain (event.Read 0 0) ∷ plain (event.Free 0 0)
    ∷ plain (event.Take 1 0 Exclusive) ∷ plain (event.Read 1 0) ∷ says 0 0 (Produced (7 ∷ [])) ∷ plain (event.Free 1 0) ∷ says 1 0 Done
    ∷ plain (event.Take 0 1 Exclusive) ∷ plain (event.End 1 ending.Built) ∷ puts 0 1 (1 ∷ []) ∷ puts 0 2 (7 ∷ []) ∷ plain (event.Free 0 1) ∷ plain (event.End 0 ending.Built)
    ∷ plain (event.Start 1 2) ∷ plain (event.Take 1 0 Shared) ∷ plain (event.Read 1 0) ∷ plain (event.Free 1 0) ∷ says 1 0 (Produced (8 ∷ 9 ∷ []))
    ∷ plain (event.Take 1 3 Exclusive) ∷ puts 1 4 (3 ∷ []) ∷ puts 1 5 (8 ∷ 9 ∷ []) ∷ plain (event.Free 1 3) ∷ plain (event.End 1 ending.Built) ∷ []

-- it is a run
pub whole_runs : IsRunOf (plan false 100) whole
unfolding after cause_now
whole_runs = run_is (outline_of (plan false 100)) (events_of whole) refl

-- and complete
pub whole_ends : IsComplete (plan false 100) whole
unfolding after
whole_ends = refl

-- and quiet
pub whole_quiet : IsQuiet whole
whole_quiet = refl

-- one worker builds the first and the third; the other's gate fails in the second
abbrev pub faulty : List RunEntry
faulty =
    plain (event.Start 0 0) ∷ plain (event.Start 1 1) ∷ plain (event.End 1 (ending.Fault Gate)) ∷ plain (event.Take 0 0 Shared) ∷ plain (event.Free 0 0)
    ∷ plain (event.Take 0 0 Exclusive) ∷ puts 0 0 (5 ∷ []) ∷ plain (event.Read 0 0) ∷ plain (event.Free 0 0) ∷ says 0 0 (Produced (7 ∷ []))
    ∷ plain (event.Take 0 1 Exclusive) ∷ puts 0 1 (1 ∷ []) ∷ puts 0 2 (7 ∷ []) ∷ plain (event.Free 0 1) ∷ plain (event.End 0 ending.Built)
    ∷ plain (event.Start 1 2) ∷ plain (event.Take 1 0 Shared) ∷ plain (event.Read 1 0) ∷ plain (event.Free 1 0) ∷ says 1 0 (Produced (8 ∷ 9 ∷ []))
    ∷ plain (event.Take 1 3 Exclusive) ∷ puts 1 4 (3 ∷ []) ∷ puts 1 5 (8 ∷ 9 ∷ []) ∷ plain (event.Free 1 3) ∷ plain (event.End 1 ending.Built) ∷ []

-- it is a run
pub faulty_runs : IsRunOf (plan false 100) faulty
unfolding after cause_now
faulty_runs = run_is (outline_of (plan false 100)) (events_of faulty) refl

-- and complete
pub faulty_ends : IsComplete (plan false 100) faulty
unfolding after
faulty_ends = refl

module _ (start remote : Files) (none : file_at start (65 ∷ []) ≡ None) (here : file_at remote (65 ∷ []) ≡ Some (5 ∷ [])) where
  abbrev hands : ℕ → HandTold
  hands w = record { remote = Some remote; area = true; gate = None }

  -- the repository from the fetch on
  abbrev one : Files
  one = finite.insert start (65 ∷ []) (5 ∷ [])

  abbrev two : Files
  two = finite.insert one (66 ∷ []) (1 ∷ [])

  abbrev three : Files
  three = finite.insert two (67 ∷ []) (7 ∷ [])

  abbrev four : Files
  four = finite.insert three (69 ∷ []) (3 ∷ [])

  abbrev five : Files
  five = finite.insert four (70 ∷ []) (8 ∷ 9 ∷ [])

  -- the fetched file is there from the fetch on
  one_has : file_at one (65 ∷ []) ≡ Some (5 ∷ [])
  one_has = at_insert start (65 ∷ []) (5 ∷ []) (65 ∷ [])

  -- and behind the first module's POM
  two_has : file_at two (65 ∷ []) ≡ Some (5 ∷ [])
  two_has = at_insert one (66 ∷ []) (1 ∷ []) (65 ∷ []) ∙ one_has

  -- and behind its jar
  three_has : file_at three (65 ∷ []) ≡ Some (5 ∷ [])
  three_has = at_insert two (67 ∷ []) (7 ∷ []) (65 ∷ []) ∙ two_has

  -- and behind the third module's POM
  four_has : file_at four (65 ∷ []) ≡ Some (5 ∷ [])
  four_has = at_insert three (69 ∷ []) (3 ∷ []) (65 ∷ []) ∙ three_has

  -- and behind its jar
  five_has : file_at five (65 ∷ []) ≡ Some (5 ∷ [])
  five_has = at_insert four (70 ∷ []) (8 ∷ 9 ∷ []) (65 ∷ []) ∙ four_has

  -- the remote has it
  got : remote_bytes remote (65 ∷ []) ≡ Some (5 ∷ [])
  got = simp here

  -- so the first's classpath is within the limit
  lib_within : (files : Files) → file_at files (65 ∷ []) ≡ Some (5 ∷ []) → nat_le (bytes_len (file_at files (65 ∷ [])) + 0) most_classpath ≡ true
  lib_within files has = ap (λ o. nat_le (bytes_len o + 0) most_classpath) has

  -- and the third's
  app_within : (files : Files) → file_at files (65 ∷ []) ≡ Some (5 ∷ []) → nat_le (bytes_len (file_at files (65 ∷ [])) + 1) most_classpath ≡ true
  app_within files has = ap (λ o. nat_le (bytes_len o + 1) most_classpath) has

  -- the files behind the run
  whole_contents : contents (plan false 100) start whole ≡ five
  whole_contents = refl

  -- each entry fits
  pub whole_fits : AllFit (plan false 100) (Some start) hands [] whole
  unfolding after
  whole_fits = ((refl, tt), ((refl, tt), ((refl, tt), ((refl, tt), ((refl, tt), ((refl, tt), ((refl, tt), ((refl, got), ((refl, tt), ((refl, tt), ((refl, tt), ((refl, tt), ((refl, (lib_within one one_has, refl, tt)), ((refl, tt), ((refl, (lib_within one one_has, refl, tt)), ((refl, (lib_within one one_has, refl, refl)), ((refl, (lib_within one one_has, refl, refl, refl)), ((refl, ((lib_within one one_has, refl, refl), refl)), ((refl, ((lib_within two two_has, refl, refl), refl)), ((refl, tt), ((refl, (lib_within three three_has, refl, refl, refl)), ((refl, tt), ((refl, tt), ((refl, tt), ((refl, tt), ((refl, (app_within three three_has, refl, tt)), ((refl, (app_within three three_has, refl, refl)), ((refl, ((app_within three three_has, refl, refl), refl)), ((refl, ((app_within four four_has, refl, refl), refl)), ((refl, tt), ((refl, (app_within five five_has, refl, refl, refl)), tt)))))))))))))))))))))))))))))))

  -- ---- beside them, what doesn't fit

  abbrev first_is : ℕ → Option (List ℕ) → Bool
  first_is n (Some (x ∷ xs)) = nat_eq x n
  first_is n other = false

  -- other bytes than the remote's
  other_fetch : Fits (plan false 100) (Some start) hands (take 7 whole) (puts 0 0 (6 ∷ [])) → ⊥
  unfolding after
  other_fetch fits = false≢true (ap (first_is 6) (sym got ∙ fits.1))

  -- the third's goal is asked with the first's jar, whose bytes are [7]: a gate that answers such a request alone fits, and one that
  -- answers with another jar alone doesn't
  abbrev asked_with : ℕ → List PathEntry → Bool
  asked_with n (file ∷ jar ∷ rest) = first_is n jar.bytes
  asked_with n other = false

  abbrev gates : ℕ → ℕ → HandTold
  gates n w = record { remote = Some remote; area = true; gate = Some (λ asked answer. asked_with n asked.classpath) }

  -- the first gate's answer fits
  asked_fits : Fits (plan false 100) (Some start) (gates 7) (take 25 whole) (says 1 0 (Produced (8 ∷ 9 ∷ [])))
  unfolding after
  asked_fits = (refl, (app_within three three_has, refl, refl))

  -- the second's doesn't
  asked_unfit : Fits (plan false 100) (Some start) (gates 8) (take 25 whole) (says 1 0 (Produced (8 ∷ 9 ∷ []))) → ⊥
  unfolding after
  asked_unfit fits = false≢true fits.1.2

  -- ---- a run with a fault fits too

  -- each entry fits
  pub faulty_fits : AllFit (plan false 100) (Some start) hands [] faulty
  unfolding after
  faulty_fits = ((refl, tt), ((refl, tt), ((refl, tt), ((refl, tt), ((refl, tt), ((refl, tt), ((refl, got), ((refl, tt), ((refl, tt), ((refl, (lib_within one one_has, refl, tt)), ((refl, (lib_within one one_has, refl, refl)), ((refl, ((lib_within one one_has, refl, refl), refl)), ((refl, ((lib_within two two_has, refl, refl), refl)), ((refl, tt), ((refl, (lib_within three three_has, refl, refl, refl)), ((refl, tt), ((refl, tt), ((refl, tt), ((refl, tt), ((refl, (app_within three three_has, refl, tt)), ((refl, (app_within three three_has, refl, refl)), ((refl, ((app_within three three_has, refl, refl), refl)), ((refl, ((app_within four four_has, refl, refl), refl)), ((refl, tt), ((refl, (app_within five five_has, refl, refl, refl)), tt)))))))))))))))))))))))))
