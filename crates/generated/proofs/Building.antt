-- What is answered of the generated project, by what planning gave and what building answered.
use Rattle.std.proofs.Common.{◌≡◌, ◌≢◌, ◌∙◌, ◌⊎◌, inl, inr, ℕ, zero, suc, ◌≤◌, ◌<◌, false, List, [], length, map, replicate, take, Option, Some, None, Result, Ok, Err, IfOk, IfSome, refl, sym, ap, subst, arith}
use Rattle.std.specs.FinMap as finite
use Rattle.std.proofs.lemmas.List.{length-map, length-replicate}
use Rattle.mvn_shared.specs.declared.memory.OutOfMemory.{OutOfMemory}
use Rattle.mvn_shared.specs.Cause.{HasRisen}
use Rattle.mvn_shared.specs.Files.{Files}
use Rattle.mvn_base.specs.declared.machine.Machine.{Machine}
use Rattle.mvn_outside.specs.Shelf.{files_now}
use Rattle.mvn_outside.specs.declared.shelf.ShelfTold.{ShelfTold}
use Rattle.build_core.specs.OneThread.{one_thread}
use Rattle.build_core.specs.declared.event.Answered.{Answered}
use Rattle.build_core.specs.declared.event.Event.{Event}
use Rattle.build_plan.specs.Planning.{IsPlan, KnowsFiles, Plans}
use Rattle.build_plan.proofs.Few.{few_events, few_names}
use Rattle.report.specs.Rows.{rows}
use Rattle.report.specs.Report.{total_text}
use Rattle.cli_words.specs.declared.command_line.CommandLine.{CommandLine}
use Rattle.event_core.specs.SoundPlans.{IsSoundPlan}
use Rattle.event_core.specs.Worlds.{HandTold}
use Rattle.event_core.specs.declared.entry.RunEntry.{RunEntry}
use Rattle.model_resolver.specs.Devices.{Counted}
use Rattle.model_resolver.specs.declared.failures.PomDevice.{PomDevice}
use Rattle.model_resolver.specs.declared.failures.PomDevice.TheVariants as device
use Rattle.module_plan.specs.declared.selected.Planned.{Planned}
use Rattle.pom_source.specs.declared.found.Given.{Given}
use Rattle.run_law.specs.Given.{IsPresent}
use Rattle.crew_turns.specs.Hands.{HandState}
use Rattle.crew.specs.CrewOutcomes.{AllTellFiles, hand_of}
use Rattle.build_outcome.specs.Answering.{AnswersBuild, RanSo}
use Rattle.build_outcome.specs.Left.{HandFailed, HasHistory, IsCallRun, Outside, SomeFailed}
use Rattle.build_outcome.specs.Outcomes.{ran}
use Rattle.build_outcome.specs.Reports.{Reports}
use Rattle.build_outcome.specs.declared.outcome.Outcome.{Outcome}
use Rattle.call_plan.specs.Found.{given_of, IsFound, IsFoundBy}
use Rattle.call_plan.specs.Headline.{Agrees, World, supply_of, told_of}
use Rattle.call_plan.specs.Project.{GivesPlan}
use Rattle.call_plan.specs.Seen.{Seen, counts_of, first_remote, with_first}
use Rattle.call_plan.proofs.Present.{found_is as plan_found, is_present_told, line_workers}
use Rattle.mvn_call.proofs.Statuses.{planning_status}
use Rattle.make_project.specs.Summaries.{summary_with}
use Rattle.generated.specs.Generated.{Generates, IsGenerated, IsGeneratedRun, IsNothing, outcome, summed}
use Rattle.generated.specs.EntryCounts.{entries_of}
use Rattle.generated.specs.LastLines.{last_line}
use Rattle.generated.specs.Made.{empty_shelf, fresh_hand, made, project, remote}
use Rattle.generated.specs.Summary.{IsSummedUp}
use Rattle.generated.specs.SummedUp.{HasNoFaults, SumsUp}
use Rattle.generated.proofs.LastLines.{last_is_total}
use Rattle.generated.proofs.Lists.{all_first, first_faultless, made_faultless, made_remote, made_tell}

-- ---- nothing has failed

not_risen : (a b : ℕ) → a ≡ 0 → b ≡ 0 → HasRisen a b → ⊥
not_risen a b p q rose = omega (arith, p, q, rose.rise)

below_two : (n : ℕ) → n ≤ 3 → n ≢ 2 → (n ≡ 3 → ⊥) → n < 2
below_two zero most two three = omega arith
below_two (suc zero) most two three = omega arith
below_two (suc (suc zero)) most two three = absurd (two refl)
below_two (suc (suc (suc zero))) most two three = absurd (three refl)
below_two (suc (suc (suc (suc n)))) most two three = omega (arith, most)

not_low : (n : ℕ) → n ≡ 2 → n < 2 → ⊥
not_low n two low = omega (arith, two, low)

-- ---- memory ran out

pub generates_none : (poms : ℕ) (line : CommandLine) (machine : Machine) (trace : List Event) (answers : List Answered) (said : Result Outcome OutOfMemory) (e : OutOfMemory) → said ≡ Err e → trace ≡ [] → answers ≡ [] → Generates poms line machine trace answers said
generates_none poms line machine trace answers said e is none nothing =
    subst (λ (r : Result Outcome OutOfMemory). Generates poms line machine trace answers r) (sym is) (record { answer = tt; bound = tt; refused = tt; ran = tt; history = inl (none, nothing) })

abbrev some_told : ShelfTold → Option ShelfTold
some_told told = Some told

-- a plan of the line that can be built over an empty repository
pub record IsReady (line : CommandLine) (p : Planned) : Type 0 where
  pub sound : IsSoundPlan p.plan
  pub few : p.plan.events < 4294967296
  pub names : length p.plan.names < 4294967296
  pub workers : p.plan.workers ≡ line.workers
  pub present : IsPresent p.plan (files_now empty_shelf)

-- so many hands were made
pub hands_count : {A : Type 0} (state : A → HandState) (hands : List A) (n : ℕ) → map state hands ≡ replicate n (fresh_hand remote) → length hands ≡ n
hands_count state hands n e = sym (length-map hands state) ∙ ap length e ∙ length-replicate n (fresh_hand remote)

module _ (poms : ℕ) (line : CommandLine) (given : Given) (machine : Machine) (low : 1 ≤ line.workers) (given_is : given ≡ given_of machine line) where
  -- what planning gave of the generated project
  abbrev pub Gives : Option PomDevice → Result Planned Outcome → Type 0
  Gives failed found = GivesPlan (Some (project poms)) (Some empty_shelf) (first_remote (made line.workers)) given line failed found

  found_of : (there : Option Files) (g : Given) (found : Result Planned Outcome) → there ≡ Some remote → g ≡ given_of machine line → IsFoundBy (Some (project poms)) (Some empty_shelf) there g line found → IsFound (Ok line) (project poms) finite.empty remote machine found
  found_of there g found e f is =
      let so : IsFoundBy (Some (project poms)) (Some empty_shelf) (Some remote) (given_of machine line) line found =
      subst (λ (x : Given). IsFoundBy (Some (project poms)) (Some empty_shelf) (Some remote) x line found) f
      (subst (λ (x : Option Files). IsFoundBy (Some (project poms)) (Some empty_shelf) x g line found) e is) in
      (so.said, so.told, so.finds)

  found_none : (found : Result Planned Outcome) → Gives None found → IsFound (Ok line) (project poms) finite.empty remote machine found
  found_none found gives = found_of (first_remote (made line.workers)) given found (made_remote line.workers low) given_is gives

  -- no device failed while it was planned
  none_failed : (failed : Option PomDevice) (middle : Outside) → HasNoFaults middle → Counted None failed (counts_of 0 (made line.workers)) (counts_of 0 middle) → failed ≡ None
  none_failed None middle still counted = refl
  none_failed (Some device.Tree) middle still counted = absurd (not_risen 0 0 refl refl counted.0)
  none_failed (Some device.Shelf) middle still counted = absurd (not_risen _ _ (made_faultless line.workers).shelf still.shelf counted.1)
  none_failed (Some device.Remote) middle still counted = absurd (not_risen _ _ (((made_faultless line.workers).hands 0).remote) ((still.hands 0).remote) counted.2)

  pub found_is : (failed : Option PomDevice) (found : Result Planned Outcome) (middle : Outside) → HasNoFaults middle → Counted None failed (counts_of 0 (made line.workers)) (counts_of 0 middle) → Gives failed found → IsFound (Ok line) (project poms) finite.empty remote machine found
  found_is failed found middle still counted gives = found_none found (subst (λ (f : Option PomDevice). Gives f found) (none_failed failed middle still counted) gives)

  -- what was given is what was made
  pub gives_made : (tree : Files) (told : ShelfTold) (hands : List HandState) (failed : Option PomDevice) (found : Result Planned Outcome) → tree ≡ project poms → told ≡ empty_shelf → hands ≡ replicate line.workers (fresh_hand remote)
      → GivesPlan (Some tree) (Some told) (first_remote (record { shelf = Some told; faults = 0; hands = hands })) given line failed found → Gives failed found
  gives_made tree told hands failed found e f h gives =
      subst (λ (t : Files). GivesPlan (Some t) (Some empty_shelf) (first_remote (made line.workers)) given line failed found) e
      (subst (λ (t : ShelfTold). GivesPlan (Some tree) (Some t) (first_remote (made line.workers)) given line failed found) f
      (subst (λ (x : List HandState). GivesPlan (Some tree) (Some told) (told_of_hands x).remote given line failed found) h gives))
    where
      told_of_hands : List HandState → HandTold
      told_of_hands x = (hand_of x 0).told

  -- a plan that is given can be built
  pub ready : (failed : Option PomDevice) (p : Planned) (middle : Outside) → HasNoFaults middle → Counted None failed (counts_of 0 (made line.workers)) (counts_of 0 middle) → Gives failed (Ok p) → IsReady line p
  ready failed p middle still counted gives =
      let so : Gives None (Ok p) = subst (λ (f : Option PomDevice). Gives f (Ok p)) (none_failed failed middle still counted) gives in
      let plan : IsPlan line p = plan_found so.said p (IsPlan line) so.finds so.made in
      record {
        sound = plan.sound;
        few = few_events line p plan;
        names = few_names line p plan;
        workers = line_workers line p plan;
        present = is_present_told (Some empty_shelf) p (plan_found so.said p (KnowsFiles (Some empty_shelf)) so.finds so.present);
      }

  -- ---- something is answered in place of a plan

  pub generates_unbuilt : (trace : List Event) (answers : List Answered) (said : Result Outcome OutOfMemory) (answer : Outcome) → said ≡ Ok answer → trace ≡ [] → answers ≡ [] → IsFound (Ok line) (project poms) finite.empty remote machine (Err answer) → Generates poms line machine trace answers said
  generates_unbuilt trace answers said answer is none nothing found =
      let two : answer.status ≡ 2 = planning_status found.0 answer found.2 in
      subst (λ (r : Result Outcome OutOfMemory). Generates poms line machine trace answers r) (sym is) (record {
        answer = (Err answer, found, λ world agrees. refl);
        bound = omega (arith, two);
        refused = λ t. (none, nothing);
        ran = λ low. absurd (not_low answer.status two low);
        history = inl (none, nothing);
      })

  -- ---- a plan was built

  module _ (p : Planned) (found : IsFound (Ok line) (project poms) finite.empty remote machine (Ok p)) (workers : p.plan.workers ≡ line.workers) (trace : List Event) (answers : List Answered) where
    hand_failed : (before after : Outside) → HasNoFaults before → HasNoFaults after → HandFailed before.hands after.hands → ⊥
    hand_failed before after p q (w, low, inl rose) = not_risen _ _ (p.hands w).remote (q.hands w).remote rose
    hand_failed before after p q (w, low, inr (inl rose)) = not_risen _ _ (p.hands w).area (q.hands w).area rose
    hand_failed before after p q (w, low, inr (inr rose)) = not_risen _ _ (p.hands w).gate (q.hands w).gate rose

    some_failed : (before after : Outside) (told : ShelfTold) → before.shelf ≡ Some told → HasNoFaults before → HasNoFaults after → SomeFailed before after → ⊥
    some_failed before after told e p q (inl failed) = hand_failed before after p q failed
    some_failed before after told e p q (inr failed) = not_risen _ _ p.shelf q.shelf (subst (λ (s : Option ShelfTold). IfSome s (λ t. HasRisen before.faults after.faults)) e failed)

    -- what is known of the build, whose hands are all that were made
    abbrev Built : Outside → Result Outcome OutOfMemory → Type 0
    Built after report = Reports p.plan (told_of false p) (made line.workers) after trace answers report

    -- a report that is made has a status below 2
    low_status : (after : Outside) (report : Outcome) → HasNoFaults after → Built after (Ok report) → report.status < 2
    low_status after report still built = below_two report.status built.bound.0 built.bound.1 (λ three. some_failed (made line.workers) after empty_shelf refl (made_faultless line.workers) still (built.fault three))

    ran_so : (after : Outside) (told : ShelfTold) (report : Outcome) → HasNoFaults after → after.shelf ≡ Some told → Built after (Ok report) → RanSo p.plan (told_of false p) answers report finite.empty remote (files_now told)
    ran_so after told report still tells built =
        let as_one = built.as_one (omega (arith, low_status after report still built)) remote (made_tell line.workers) in
        let same : as_one.0 ≡ told = some_same as_one.0 told (sym as_one.1 ∙ tells) in
        subst (λ (t : ShelfTold). RanSo p.plan (told_of false p) answers report finite.empty remote (files_now t)) same as_one.2
      where
        some_same : (a b : ShelfTold) → some_told a ≡ some_told b → a ≡ b
        some_same a b e = cc

    summed_is : (told : ShelfTold) (report answer : Outcome) → RanSo p.plan (told_of false p) answers report finite.empty remote (files_now told)
        → IsSummedUp poms p (length (finite.keys (files_now told))) (Ok report) answer → (world : World) → Agrees world (project poms) finite.empty remote machine answers → answer ≡ outcome poms world (Ok p)
    summed_is told report answer so e world agrees =
        let by_one = so (supply_of world) agrees.start agrees.remote agrees.answers in
        e ∙ ap (λ (o : Outcome). record o { text = summary_with poms (last_line o.text) (entries_of p.resolutions) (length (finite.keys (files_now told))) }) by_one.0
        ∙ ap (λ (t : List ℕ). record (ran p.plan (told_of false p) (supply_of world)) { text = summary_with poms t (entries_of p.resolutions) (length (finite.keys (files_now told))) }) (last_is_total (rows p.plan world.answers 0 (told_of false p) p.plan.modules (one_thread p.plan (supply_of world)).states))
        ∙ ap (λ (files : Files). record (summed poms world p) { text = summary_with poms (total_text (rows p.plan world.answers 0 (told_of false p) p.plan.modules (one_thread p.plan (supply_of world)).states)) (entries_of p.resolutions) (length (finite.keys files)) }) (sym by_one.1)

    history_of : (after : Outside) → HasHistory p.plan (made line.workers) after trace answers → IsNothing trace answers ⊎ IsGeneratedRun poms line machine trace answers
    history_of after (inl idle) = inl (idle.0, idle.1)
    history_of after (inr (run, is)) = inr (p, run, after, found, is)

    -- what is answered is of a run, since no area failed
    run_of : (after : Outside) (report : Outcome) → HasNoFaults after → AnswersBuild p.plan (told_of false p) (made line.workers) after trace answers report → IsGeneratedRun poms line machine trace answers
    run_of after report still (inl (idle, is, (w, low, rose))) = absurd (not_risen _ _ ((made_faultless line.workers).hands w).area (still.hands w).area rose)
    run_of after report still (inr (run, is, so)) = (p, run, after, found, is)

    generates_of : (said report : Result Outcome OutOfMemory) (after : Outside) (told : ShelfTold) → HasNoFaults after → after.shelf ≡ Some told → Built after report → IfOk said (IsSummedUp poms p (length (finite.keys (files_now told))) report) → Generates poms line machine trace answers said
    generates_of (Err e) report after told still tells built sum = record { answer = tt; bound = tt; refused = tt; ran = tt; history = history_of after built.history }
    generates_of (Ok answer) (Err e) after told still tells built sum = absurd sum
    generates_of (Ok answer) (Ok report) after told still tells built sum =
        let under : report.status < 2 = low_status after report still built in
        let same : answer.status ≡ report.status = ap (λ (o : Outcome). o.status) sum in
        record {
          answer = (Ok p, found, summed_is told report answer (ran_so after told report still tells built) sum);
          bound = omega (arith, under, same);
          refused = λ two. absurd (not_two answer.status report.status under same two);
          ran = λ low. run_of after report still built.comes;
          history = history_of after built.history;
        }
      where
        not_two : (a b : ℕ) → b < 2 → a ≡ b → a ≡ 2 → ⊥
        not_two a b under same two = omega (arith, under, same, two)

    pub generates_built : (said : Result Outcome OutOfMemory) → SumsUp poms p (made line.workers) trace answers said → Generates poms line machine trace answers said
    generates_built said sums =
        let after = with_first p.plan.workers sums.after in
        generates_of said sums.report after sums.told (first_faultless p.plan.workers sums.after sums.faultless) sums.tells
        (subst (λ (before : Outside). Reports p.plan (told_of false p) before after trace answers sums.report) (ap (λ (n : ℕ). with_first n (made line.workers)) workers ∙ all_first line.workers) sums.reports) sums.summed
