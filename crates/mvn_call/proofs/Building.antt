-- What a call of a line answers and leaves, by what planning gave.
use Rattle.std.proofs.Common.{◌≡◌, ◌<◌, ◌≤◌, ℕ, List, [], length, drop, Option, Some, None, Result, Ok, Err, IfOk, IfSome, refl, sym, ap, subst, ◌∙◌, arith}
use Rattle.mvn_shared.specs.declared.memory.OutOfMemory.{OutOfMemory}
use Rattle.mvn_outside.specs.Shelf.{files_now}
use Rattle.mvn_outside.specs.declared.shelf.ShelfTold.{ShelfTold}
use Rattle.cli_words.specs.declared.command_line.CommandLine.{CommandLine}
use Rattle.pom_source.specs.declared.found.Given.{Given}
use Rattle.build_core.specs.declared.event.Answered.{Answered}
use Rattle.build_core.specs.declared.event.Event.{Event}
use Rattle.event_core.specs.SoundPlans.{IsSoundPlan}
use Rattle.run_law.specs.Given.{IsPresent}
use Rattle.model_resolver.specs.Devices.{Counted}
use Rattle.model_resolver.specs.declared.failures.PomDevice.{PomDevice}
use Rattle.module_plan.specs.declared.selected.Planned.{Planned}
use Rattle.build_plan.specs.Planning.{IsPlan, KnowsFiles}
use Rattle.build_plan.proofs.Few.{few_events, few_names}
use Rattle.crew_turns.specs.Hands.{HandState}
use Rattle.build_outcome.specs.declared.outcome.Outcome.{Outcome}
use Rattle.build_outcome.specs.Left.{Outside, outside_by}
use Rattle.build_outcome.specs.Reports.{Reports}
use Rattle.mvn_call.specs.Calls.{Calls}
use Rattle.call_plan.specs.Found.{given_of, IsFoundBy}
use Rattle.call_plan.specs.Headline.{IsFoundIn, told_of}
use Rattle.call_plan.specs.Outcome.{fault_line}
use Rattle.call_plan.specs.Project.{GivesPlan}
use Rattle.call_plan.specs.Seen.{After, IsAskedFirst, OthersStay, Seen, counts_of, first_remote, used, with_first}
use Rattle.mvn_call.proofs.Calling.{calls_build, calls_device, calls_planning}
use Rattle.mvn_call.proofs.First.{asked_same, asked_tells, drop_more, outside_same}
use Rattle.call_plan.proofs.Present.{found_is, is_present_told, line_workers}

-- ---- no device failed while planning

-- so nothing outside has changed
abbrev Same : (tree now : ℕ) → (before after : Outside) → Type 0
Same tree now before after = (now ≡ tree) × (after ≡ before)

pub still : (tree now : ℕ) (before after : Outside) → Counted None None (counts_of tree before) (counts_of now after) → IsAskedFirst before.hands after.hands → 1 ≤ length before.hands → length after.hands ≡ length before.hands → after.shelf ≡ before.shelf → Same tree now before after
still tree now before after counted is some many told = (counted.0, outside_same before after told counted.1 (asked_same before.hands after.hands is some many counted.2))

abbrev no_plan : Outcome → Result Planned Outcome
no_plan answer = Err answer

line_of : (a b : Outcome) → no_plan a ≡ no_plan b → a ≡ b
line_of a b e = cc

module _ (line : CommandLine) (given : Given) (seen : Seen) (low : 1 ≤ line.workers) (some : 1 ≤ length seen.outside.hands) (given_is : given ≡ given_of seen.machine line) where
  abbrev Gives : Option PomDevice → Result Planned Outcome → Type 0
  Gives failed found = GivesPlan seen.tree seen.outside.shelf (first_remote seen.outside) given line failed found

  found_in : (found : Result Planned Outcome) → Gives None found → IsFoundIn seen line found
  found_in found gives = subst (λ (g : Given). IsFoundBy seen.tree seen.outside.shelf (first_remote seen.outside) g line found) given_is gives

  -- something is answered in place of a plan
  pub calls_unbuilt : (after : After) (trace : List Event) (answers : List Answered) (said : Result Outcome OutOfMemory) (answer : Outcome) (failed : Option PomDevice) → Gives failed (Err answer)
      → Counted None failed (counts_of seen.faults seen.outside) (counts_of after.faults after.outside) → IsAskedFirst seen.outside.hands after.outside.hands → length after.outside.hands ≡ length seen.outside.hands → after.outside.shelf ≡ seen.outside.shelf
      → said ≡ Ok answer → trace ≡ [] → answers ≡ [] → Calls (Ok line) seen after trace answers said
  calls_unbuilt after trace answers said answer (Some device) gives counted asked many told is none nothing =
      calls_device line seen after trace answers low some said answer device is (line_of answer (fault_line device) gives) counted asked (none, nothing, told) (asked_tells seen.outside.hands after.outside.hands asked many)
  calls_unbuilt after trace answers said answer None gives counted asked many told is none nothing =
      let same = still seen.faults after.faults seen.outside after.outside counted asked some many told in
      calls_planning line seen after trace answers low some said answer is (found_in (Err answer) gives) none nothing same.0 same.1

  -- ---- a plan is found

  module _ (p : Planned) (failed : Option PomDevice) (gives : Gives failed (Ok p)) where
    none_failed : (failed : Option PomDevice) → Gives failed (Ok p) → failed ≡ None
    none_failed (Some device) gives = cc
    none_failed None gives = refl

    found : IsFoundIn seen line (Ok p)
    found = found_in (Ok p) (subst (λ (f : Option PomDevice). Gives f (Ok p)) (none_failed failed gives) gives)

    plan : IsPlan line p
    plan = found_is found.said p (IsPlan line) found.finds found.made

    pub built_sound : IsSoundPlan p.plan
    built_sound = plan.sound

    pub built_few : p.plan.events < 4294967296
    built_few = few_events line p plan

    pub built_names : length p.plan.names < 4294967296
    built_names = few_names line p plan

    pub built_workers : p.plan.workers ≡ line.workers
    built_workers = line_workers line p plan

    pub built_present : (told : Option ShelfTold) → told ≡ seen.outside.shelf → IfSome told (λ told. IsPresent p.plan (files_now told))
    built_present told e = subst (λ (t : Option ShelfTold). IfSome t (λ told. IsPresent p.plan (files_now told))) (sym e)
        (is_present_told seen.outside.shelf p (found_is found.said p (KnowsFiles seen.outside.shelf) found.finds found.present))

    -- it is built, over what stands outside then
    pub calls_built : (after : After) (trace : List Event) (answers : List Answered) (said : Result Outcome OutOfMemory) (middle : Outside) (tree : ℕ) → Counted None failed (counts_of seen.faults seen.outside) (counts_of tree middle)
        → IsAskedFirst seen.outside.hands middle.hands → length middle.hands ≡ length seen.outside.hands → middle.shelf ≡ seen.outside.shelf → after.faults ≡ tree
        → length after.outside.hands ≡ length middle.hands → drop p.plan.workers after.outside.hands ≡ drop p.plan.workers middle.hands
        → Reports p.plan (told_of line.full p) (with_first p.plan.workers middle) (with_first p.plan.workers after.outside) trace answers said → Calls (Ok line) seen after trace answers said
    calls_built after trace answers said middle tree counted asked many told faults as_many others reports =
        let same = still seen.faults tree seen.outside middle (subst (λ (f : Option PomDevice). Counted None f (counts_of seen.faults seen.outside) (counts_of tree middle)) (none_failed failed gives) counted) asked some many told in
        calls_build line seen after trace answers low some p found (faults ∙ same.0) (as_many ∙ many)
        (subst (λ (n : ℕ). drop n after.outside.hands ≡ drop n seen.outside.hands) built_workers (others ∙ ap (λ (o : Outside). drop p.plan.workers o.hands) same.1))
        said
        (subst (λ (n : ℕ). Reports p.plan (told_of line.full p) (with_first n seen.outside) (with_first n after.outside) trace answers said) built_workers
        (subst (λ (o : Outside). Reports p.plan (told_of line.full p) (with_first p.plan.workers o) (with_first p.plan.workers after.outside) trace answers said) same.1 reports))

-- the others stay, behind planning and behind a build by so many
pub others_planned : {H : Type 0} (line : CommandLine) (old middle : List H) → 1 ≤ line.workers → drop 1 middle ≡ drop 1 old → length middle ≡ length old → OthersStay (Ok line) old middle
others_planned line old middle low same many = record { many = many; same = drop_more line.workers middle old low same many }

pub others_built : {H : Type 0} (line : CommandLine) (n : ℕ) (old middle now : List H) → 1 ≤ line.workers → n ≡ line.workers → drop 1 middle ≡ drop 1 old → length middle ≡ length old → drop n now ≡ drop n middle → length now ≡ length middle → OthersStay (Ok line) old now
others_built line n old middle now low e same many after as_many =
    record { many = as_many ∙ many; same = subst (λ k. drop k now ≡ drop k middle) e after ∙ drop_more line.workers middle old low same many }

pub at_least : (n m : ℕ) → 1 ≤ n → n ≤ m → 1 ≤ m
at_least n m a b = omega (arith, a, b)

-- the repository came back as it was given
pub counted_left : {S H : Type 0} (failed : Option PomDevice) (tree seen : ℕ) (before : Outside) (told : S → Option ShelfTold) (faults : S → ℕ) (state : H → HandState) (shelf left : S) (hands : List H) → left ≡ shelf
    → Counted None failed (counts_of seen before) (counts_of tree (outside_by told faults state shelf hands)) → Counted None failed (counts_of seen before) (counts_of tree (outside_by told faults state left hands))
counted_left failed tree seen before told faults state shelf left hands e counted = subst (λ s. Counted None failed (counts_of seen before) (counts_of tree (outside_by told faults state s hands))) (sym e) counted
