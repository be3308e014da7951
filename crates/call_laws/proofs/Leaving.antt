-- What a call leaves at any status, and what a stop leaves of it.
use Rattle.std.proofs.Common.{◌≡◌, ◌⊎◌, inl, inr, ℕ, List, ◌++◌, Some, Result, Ok, IfSome, refl, sym, ap, subst, ◌∙◌}
use Rattle.mvn_shared.specs.Files.{Files, file_at}
use Rattle.mvn_base.specs.declared.machine.Machine.{Machine}
use Rattle.mvn_outside.specs.Shelf.{Between, MaySettle, files_now}
use Rattle.mvn_outside.specs.declared.shelf.ShelfTold.{ShelfTold}
use Rattle.board.specs.Logs.{publishes_in, told_after}
use Rattle.build_core.specs.declared.event.Answered.{Answered}
use Rattle.build_core.specs.declared.event.Event.{Event}
use Rattle.build_plan.specs.Planning.{IsPlan, KnowsFiles, Plans}
use Rattle.cli_words.specs.declared.command_line.CommandLine.{CommandLine}
use Rattle.build_outcome.specs.Left.{IsCallRun}
use Rattle.build_outcome.specs.declared.outcome.Outcome.{Outcome}
use Rattle.event_core.specs.Runs.{contents}
use Rattle.event_core.specs.declared.entry.RunEntry.{RunEntry}
use Rattle.call_plan.specs.Found.{IfTold, IsFound, given_of}
use Rattle.call_plan.specs.Headline.{IsFoundIn, IsHistory, World, files_after, supply_of}
use Rattle.call_plan.specs.Seen.{After, LeavesSo, Seen, first_remote, used}
use Rattle.call_plan.proofs.Present.{found_is, is_present_told}
use Rattle.crew.specs.AsOne.{EndsApart, IsSupplyOf}
use Rattle.crew.specs.CrewOutcomes.{IsCrewRun}
use Rattle.crew.proofs.Names.{told_contents}
use Rattle.crew.proofs.Sides.{apart}
use Rattle.call_laws.proofs.Founding.{one_found}
use Rattle.module_plan.specs.declared.selected.Planned.{Planned}
use Rattle.run_law.specs.Given.{Extends, IsPresent}
use Rattle.call_laws.specs.Reruns.{IsBehind, IsSeen, LeavesBehind}

-- files between files that lie behind a call lie behind it
pub behind_between : (world : World) (found : Result Planned Outcome) (low files high : Files) → IsBehind world found low → IsBehind world found high → Between low files high → IsBehind world found files
behind_between world found low files high a b lies name = by (lies name)
  where
    by : (file_at files name ≡ file_at low name) ⊎ (file_at files name ≡ file_at high name) → (file_at files name ≡ file_at world.start name) ⊎ (file_at files name ≡ file_at (files_after world found) name)
    by (inl e) = with (a name)
      where
        with : (file_at low name ≡ file_at world.start name) ⊎ (file_at low name ≡ file_at (files_after world found) name) → (file_at files name ≡ file_at world.start name) ⊎ (file_at files name ≡ file_at (files_after world found) name)
        with (inl s) = inl (e ∙ s)
        with (inr s) = inr (e ∙ s)
    by (inr e) = with (b name)
      where
        with : (file_at high name ≡ file_at world.start name) ⊎ (file_at high name ≡ file_at (files_after world found) name) → (file_at files name ≡ file_at world.start name) ⊎ (file_at files name ≡ file_at (files_after world found) name)
        with (inl s) = inl (e ∙ s)
        with (inr s) = inr (e ∙ s)

module _ (asked : Result CommandLine Outcome) (seen : Seen) (after : After) (trace : List Event) (kept : List Answered) (told : ShelfTold) (world : World) (is : IsSeen asked seen told kept world) where
  -- what a call found over what it saw is found in the world
  told_plan : (line : CommandLine) (p : Planned) → IsFoundIn seen line (Ok p) → IsFound (Ok line) world.tree world.start world.remote world.machine (Ok p)
  told_plan line p found =
      let Said : Machine → Files → Files → Files → Type 0 = λ machine tree start remote. Plans tree start remote (given_of machine line) line found.said in
      let one = subst (λ o. IfTold o seen.outside.shelf (first_remote seen.outside) (Said seen.machine)) is.tree found.told in
      let two = subst (λ o. IfTold (Some world.tree) o (first_remote seen.outside) (Said seen.machine)) is.shelf one in
      let three : Said seen.machine world.tree (files_now told) world.remote = subst (λ o. IfTold (Some world.tree) (Some told) o (Said seen.machine)) is.first two in
      let four = subst (λ start. Said seen.machine world.tree start world.remote) (sym is.start) three in
      (found.said, subst (λ machine. Said machine world.tree world.start world.remote) (sym is.machine) four, found.finds)

  -- nothing was done
  idle_behind : (found : Result Planned Outcome) → after.outside.shelf ≡ seen.outside.shelf → LeavesSo told after.outside.shelf (λ before now. IsBehind world found now)
  idle_behind found same = (told, same ∙ is.shelf, λ name. inl (ap (λ files. file_at files name) (sym is.start)))

  -- a run
  settled_files : (t : ShelfTold) (count : ℕ) → files_now (record t { settled = count }) ≡ files_now t
  settled_files t count = refl

  run_behind : (line : CommandLine) (p : Planned) (run : List RunEntry) → IsFoundIn seen line (Ok p) → IsCallRun p.plan (used asked seen.outside) (used asked after.outside) trace kept run
      → LeavesSo told after.outside.shelf (λ before now. IsBehind world (Ok p) now)
  run_behind line p run found call =
      let plan : IsPlan line p = found_is found.said p (IsPlan line) found.finds found.made in
      let knows : KnowsFiles seen.outside.shelf p = found_is found.said p (KnowsFiles seen.outside.shelf) found.finds found.present in
      let present : IsPresent p.plan (files_now told) = subst (λ shelf. IfSome shelf (λ t. IsPresent p.plan (files_now t))) is.shelf (is_present_told seen.outside.shelf p knows) in
      let crew : IsCrewRun p.plan (Some told) (used asked seen.outside).hands (used asked after.outside).hands run
      = subst (λ shelf. IsCrewRun p.plan shelf (used asked seen.outside).hands (used asked after.outside).hands run) is.shelf call.crew in
      let supply : IsSupplyOf p.plan told (used asked seen.outside).hands run (supply_of world)
      = record { sound = plan.sound; present = present; start = is.start; tell = is.remotes; answers = subst (λ list. Extends list world.answers) call.kept is.answers } in
      let ends : EndsApart p.plan (supply_of world) run = apart p.plan told (used asked seen.outside).hands (used asked after.outside).hands run (supply_of world) crew supply in
      let published : MaySettle (told_after p.plan run (Some told)) after.outside.shelf = subst (λ shelf. MaySettle (told_after p.plan run shelf) after.outside.shelf) is.shelf call.published in
      let files : files_now (record told { publishes = told.publishes ++ publishes_in p.plan run }) ≡ contents p.plan world.start run
      = told_contents p.plan run told ∙ ap (λ start. contents p.plan start run) (sym is.start) in (
        record told { publishes = told.publishes ++ publishes_in p.plan run; settled = published.0 },
        published.3,
        subst (λ files. IsBehind world (Ok p) files) (sym files) ends.files,
      )

  -- whatever was done, the files lie behind the call
  pub history_behind : (found : Result Planned Outcome) → IsFound asked world.tree world.start world.remote world.machine found → IsHistory asked seen after trace kept
      → LeavesSo told after.outside.shelf (λ before now. IsBehind world found now)
  history_behind found is_found (inl idle) = idle_behind found idle.2
  history_behind found is_found (inr r) =
      let one : found ≡ Ok r.1 = one_found asked world.tree world.start world.remote world.machine found (Ok r.1) is_found
      (subst (λ (a : Result CommandLine Outcome). IsFound a world.tree world.start world.remote world.machine (Ok r.1)) (sym r.3) (told_plan r.0 r.1 r.4)) in
      subst (λ (f : Result Planned Outcome). LeavesSo told after.outside.shelf (λ before now. IsBehind world f now)) (sym one) (run_behind r.0 r.1 r.2 r.4 r.5)

-- so do those that a stop in it leaves
pub left_behind : (asked : Result CommandLine Outcome) (seen : Seen) (after : After) (trace : List Event) (kept : List Answered) → IsHistory asked seen after trace kept → LeavesBehind asked seen after.outside.shelf kept
left_behind asked seen after trace kept history told world found is is_found =
    let left = history_behind asked seen after trace kept told world is found is_found history in
    let start : IsBehind world found (files_now told) = λ name. inl (ap (λ files. file_at files name) (sym is.start)) in
    (left.0, left.1, λ files lies. behind_between world found (files_now told) files (files_now left.0) start left.2 lies)
