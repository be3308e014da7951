-- What a call answers and leaves, by what planning gave and what building answers.
use Rattle.std.proofs.Common.{◌≡◌, ◌≢◌, ◌⊎◌, inl, inr, ◌<◌, ◌≤◌, ℕ, List, [], ◌∷◌, ◌++◌, length, drop, Option, Some, None, Result, Ok, Err, IfOk, IfSome, refl, sym, ap, subst, ◌∙◌, arith}
use Rattle.std.proofs.lemmas.List.{append-nil}
use Rattle.mvn_shared.specs.declared.memory.OutOfMemory.{OutOfMemory}
use Rattle.mvn_shared.specs.Cause.{HasRisen}
use Rattle.mvn_shared.specs.Files.{Files}
use Rattle.mvn_base.specs.declared.machine.Machine.{Machine}
use Rattle.cli_words.specs.declared.command_line.CommandLine.{CommandLine}
use Rattle.mvn_outside.specs.Shelf.{files_now}
use Rattle.mvn_outside.specs.declared.shelf.ShelfTold.{ShelfTold}
use Rattle.build_core.specs.declared.event.Answered.{Answered}
use Rattle.build_core.specs.declared.event.Event.{Event}
use Rattle.model_resolver.specs.Devices.{Counted}
use Rattle.model_resolver.specs.declared.failures.PomDevice.{PomDevice}
use Rattle.model_resolver.specs.declared.failures.PomDevice.TheVariants as device
use Rattle.module_plan.specs.declared.selected.Planned.{Planned}
use Rattle.build_plan.specs.Planning.{Plans}
use Rattle.crew.specs.CrewOutcomes.{AllTellFiles, hand_of}
use Rattle.crew_turns.specs.Hands.{HandState}
use Rattle.build_outcome.specs.declared.outcome.Outcome.{Outcome}
use Rattle.build_outcome.specs.Answering.{RanSo}
use Rattle.build_outcome.specs.Left.{AllStill, HasHistory, IsIdle, Outside, TellAsBefore}
use Rattle.build_outcome.specs.Once.{PublishesOnce}
use Rattle.build_outcome.specs.Reports.{Reports}
use Rattle.mvn_call.specs.Calls.{Calls}
use Rattle.call_plan.specs.Found.{given_of, IsFound}
use Rattle.call_plan.specs.Headline.{Comes, by_build, by_device, by_planning, by_words, IsFoundIn, IsHistory, IsOutcome, IsUnchanged, NoneFailed, OneFailed, supply_of, told_of}
use Rattle.call_plan.specs.Outcome.{fault_line}
use Rattle.call_plan.specs.Seen.{After, IsAskedFirst, LeavesSo, Seen, counts_of, count_used, used, with_first}
use Rattle.mvn_call.proofs.First.{first_used, same_tells, some_used, whole_tells}
use Rattle.mvn_call.proofs.Statuses.{device_status, lower_low, planning_status, three_below, three_low, three_lower, two_below, two_low, two_three}
use Rattle.mvn_call.proofs.Telling.{IfAll, all_any, all_if, all_map, all_told, all_with}

-- ---- nothing is published

same_once : (told : Option ShelfTold) → PublishesOnce told told
same_once None = refl
same_once (Some told) = ([], told.settled, ap (λ ps. Some (record { opening = told.opening; publishes = ps; settled = told.settled })) (sym (append-nil told.publishes)), tt, omega arith)

once_same : (before now : Option ShelfTold) → now ≡ before → PublishesOnce before now
once_same before now e = subst (PublishesOnce before) (sym e) (same_once before)

module _ (asked : Result CommandLine Outcome) (seen : Seen) (after : After) (trace : List Event) (answers : List Answered) where
  -- what is answered so
  told_as : (said : Result Outcome OutOfMemory) (r : Result Outcome OutOfMemory) → said ≡ r → Calls asked seen after trace answers r → Calls asked seen after trace answers said
  told_as said r e calls = subst (λ r. Calls asked seen after trace answers r) (sym e) calls

  -- ---- memory ran out

  none_said : (e : OutOfMemory) → IsHistory asked seen after trace answers → PublishesOnce seen.outside.shelf after.outside.shelf → TellAsBefore seen.outside.hands after.outside.hands → Calls asked seen after trace answers (Err e)
  none_said e history once tells = record {
    outcome = all_any seen.tree seen.outside.shelf (used asked seen.outside).hands _ (λ files told there. tt);
    bound = tt;
    comes = tt;
    history = history;
    refused = tt;
    once = once;
    settled = tt;
    areas = tt;
    quiet = tt;
    fault = tt;
    tells = tells;
  }

  pub calls_none : (said : Result Outcome OutOfMemory) (e : OutOfMemory) → said ≡ Err e → IsIdle seen.outside after.outside trace answers → TellAsBefore seen.outside.hands after.outside.hands → Calls asked seen after trace answers said
  calls_none said e is idle tells = told_as said (Err e) is (none_said e (inl idle) (once_same seen.outside.shelf after.outside.shelf idle.2) tells)

  -- ---- an answer without a build

  idle_is : (files there : Files) (start : Files) (answer : Outcome) → IsFound asked files start there seen.machine (Err answer) → IsOutcome asked files there seen.machine answers answer start start
  idle_is files there start answer found = (Err answer, found, λ world agrees. (refl, agrees.start))

  idle_leaves : (told : ShelfTold) (files there : Files) (answer : Outcome) (now : Option ShelfTold) → now ≡ Some told → IsFound asked files (files_now told) there seen.machine (Err answer) → LeavesSo told now (IsOutcome asked files there seen.machine answers answer)
  idle_leaves told files there answer now e found = (told, e, idle_is files there (files_now told) answer found)

  idle_outcome : (tree : Option Files) (shelf : Option ShelfTold) (hands : List HandState) (answer : Outcome) (now : Option ShelfTold) → now ≡ shelf
      → IfAll tree shelf hands (λ files told there. IsFound asked files (files_now told) there seen.machine (Err answer))
      → IfAll tree shelf hands (λ files told there. answer.status < 3 → LeavesSo told now (IsOutcome asked files there seen.machine answers answer))
  idle_outcome None shelf hands answer now e found = tt
  idle_outcome (Some files) None hands answer now e found = tt
  idle_outcome (Some files) (Some told) hands answer now e found = λ there tells low. idle_leaves told files there answer now e (found there tells)

  all_still : (before now : Outside) → now ≡ before → AllStill before now
  all_still before now e = subst (λ o. AllStill before o) (sym e) (record { shelf = refl; hands = λ w low. record { remote = refl; area = refl; gate = refl } })

  none_failed : after.faults ≡ seen.faults → after.outside ≡ seen.outside → NoneFailed asked seen after
  none_failed tree rest = record { tree = tree; rest = all_still (used asked seen.outside) (used asked after.outside) (ap (used asked) rest) }

  tells_same : after.outside ≡ seen.outside → TellAsBefore seen.outside.hands after.outside.hands
  tells_same e = subst (λ (o : Outside). TellAsBefore seen.outside.hands o.hands) (sym e) (same_tells seen.outside.hands)

  idle_by : trace ≡ [] → answers ≡ [] → after.outside ≡ seen.outside → IsIdle seen.outside after.outside trace answers
  idle_by none nothing e = (none, nothing, ap (λ (o : Outside). o.shelf) e)

  -- refused: by words or by planning
  refused_said : (answer : Outcome) → answer.status ≡ 2 → IsIdle seen.outside after.outside trace answers → after.faults ≡ seen.faults → after.outside ≡ seen.outside → Comes asked seen after trace answers answer
      → IfAll seen.tree seen.outside.shelf (used asked seen.outside).hands (λ files told there. IsFound asked files (files_now told) there seen.machine (Err answer)) → Calls asked seen after trace answers (Ok answer)
  refused_said answer two idle tree rest comes found = record {
    outcome = idle_outcome seen.tree seen.outside.shelf (used asked seen.outside).hands answer after.outside.shelf idle.2 found;
    bound = two_below answer.status two;
    comes = comes;
    history = inl idle;
    refused = λ t. record { events = idle.0; none = idle.1; tree = tree; rest = rest };
    once = once_same seen.outside.shelf after.outside.shelf idle.2;
    settled = λ low. absurd (two_low answer.status two low);
    areas = λ low. absurd (two_low answer.status two low);
    quiet = λ low. none_failed tree rest;
    fault = λ three. absurd (two_three answer.status two three);
    tells = tells_same rest;
  }

  words_found : (answer : Outcome) → asked ≡ Err answer → IfAll seen.tree seen.outside.shelf (used asked seen.outside).hands (λ files told there. IsFound asked files (files_now told) there seen.machine (Err answer))
  words_found answer e = all_any seen.tree seen.outside.shelf (used asked seen.outside).hands (λ files told there. IsFound asked files (files_now told) there seen.machine (Err answer))
      (λ files told there. subst (λ (a : Result CommandLine Outcome). IsFound a files (files_now told) there seen.machine (Err answer)) (sym e) refl)

  pub calls_words : (said : Result Outcome OutOfMemory) (answer : Outcome) → said ≡ Ok answer → asked ≡ Err answer → answer.status ≡ 2 → trace ≡ [] → answers ≡ [] → after.faults ≡ seen.faults → after.outside ≡ seen.outside → Calls asked seen after trace answers said
  calls_words said answer is e two none nothing tree rest =
      let idle = idle_by none nothing rest in
      told_as said (Ok answer) is (refused_said answer two idle tree rest (by_words e (record { events = none; none = nothing; tree = tree; rest = rest })) (words_found answer e))

module _ (line : CommandLine) (seen : Seen) (after : After) (trace : List Event) (answers : List Answered) (low : 1 ≤ line.workers) (some : 1 ≤ length seen.outside.hands) where
  -- ---- planning refused, or a device failed

  -- what planning found, in worlds that are told
  found_told : (found : Result Planned Outcome) → IsFoundIn seen line found → IfAll seen.tree seen.outside.shelf (used (Ok line) seen.outside).hands (λ files told there. IsFound (Ok line) files (files_now told) there seen.machine found)
  found_told found is = all_map seen.tree seen.outside.shelf (used (Ok line) seen.outside).hands
      (λ files told there. Plans files (files_now told) there (given_of seen.machine line) line is.said) (λ files told there. IsFound (Ok line) files (files_now told) there seen.machine found)
      (λ files told there plans. (is.said, plans, is.finds))
      (all_told seen.tree seen.outside.shelf seen.outside.hands line.workers (λ files start there. Plans files start there (given_of seen.machine line) line is.said) low some is.told)

  pub calls_planning : (said : Result Outcome OutOfMemory) (answer : Outcome) → said ≡ Ok answer → IsFoundIn seen line (Err answer) → trace ≡ [] → answers ≡ [] → after.faults ≡ seen.faults → after.outside ≡ seen.outside → Calls (Ok line) seen after trace answers said
  calls_planning said answer is found none nothing tree rest =
      let idle = idle_by (Ok line) seen after trace answers none nothing rest in
      told_as (Ok line) seen after trace answers said (Ok answer) is
      (refused_said (Ok line) seen after trace answers answer (planning_status found.said answer found.finds) idle tree rest (by_planning line refl found (record { events = none; none = nothing; tree = tree; rest = rest })) (found_told (Err answer) found))

  rose_told : (shelf : Option ShelfTold) (a b : ℕ) → HasRisen a b → IfSome shelf (λ told. HasRisen a b)
  rose_told None a b rose = tt
  rose_told (Some told) a b rose = rose

  first_rose : (before now : List HandState) → HasRisen (hand_of before 0).remote (hand_of now 0).remote → HasRisen (hand_of (used (Ok line) (record { shelf = None; faults = 0; hands = before })).hands 0).remote (hand_of (used (Ok line) (record { shelf = None; faults = 0; hands = now })).hands 0).remote
  first_rose before now rose =
      subst (λ (h : HandState). HasRisen h.remote (hand_of (used (Ok line) (record { shelf = None; faults = 0; hands = now })).hands 0).remote) (sym (first_used before line.workers low))
      (subst (λ (h : HandState). HasRisen (hand_of before 0).remote h.remote) (sym (first_used now line.workers low)) rose)

  risen_by : (failed : PomDevice) → Counted None (Some failed) (counts_of seen.faults seen.outside) (counts_of after.faults after.outside) → OneFailed (Ok line) seen after
  risen_by device.Tree counted = inl counted.0
  risen_by device.Shelf counted = inr (inr (rose_told seen.outside.shelf seen.outside.faults after.outside.faults counted.1))
  risen_by device.Remote counted = inr (inl (0, some_used seen.outside.hands line.workers low some, inl (first_rose seen.outside.hands after.outside.hands counted.2)))

  pub calls_device : (said : Result Outcome OutOfMemory) (answer : Outcome) (failed : PomDevice) → said ≡ Ok answer → answer ≡ fault_line failed → Counted None (Some failed) (counts_of seen.faults seen.outside) (counts_of after.faults after.outside)
      → IsAskedFirst seen.outside.hands after.outside.hands → IsIdle seen.outside after.outside trace answers → TellAsBefore seen.outside.hands after.outside.hands → Calls (Ok line) seen after trace answers said
  calls_device said answer failed is e counted first idle tells =
      let three = device_status failed answer e in
      told_as (Ok line) seen after trace answers said (Ok answer) is (record {
        outcome = all_any seen.tree seen.outside.shelf (used (Ok line) seen.outside).hands _ (λ files told there under. absurd (three_low answer.status three under));
        bound = three_below answer.status three;
        comes = by_device line failed refl e counted first idle;
        history = inl idle;
        refused = λ two. absurd (two_three answer.status two three);
        once = once_same seen.outside.shelf after.outside.shelf idle.2;
        settled = λ under. absurd (three_lower answer.status three under);
        areas = λ under. absurd (three_lower answer.status three under);
        quiet = λ under. absurd (three_low answer.status three under);
        fault = λ t. risen_by failed counted;
        tells = tells;
      })

  -- ---- a plan is built

  built_is : (files start there : Files) (p : Planned) (answer : Outcome) (left : Files) → IsFound (Ok line) files start there seen.machine (Ok p)
      → RanSo p.plan (told_of line.full p) answers answer start there left → IsOutcome (Ok line) files there seen.machine answers answer start left
  built_is files start there p answer left found ran = (Ok p, found, λ world agrees. ran (supply_of world) agrees.start agrees.remote agrees.answers)

  built_leaves : (files : Files) (told : ShelfTold) (there : Files) (p : Planned) (answer : Outcome) (now : Option ShelfTold) → IsFound (Ok line) files (files_now told) there seen.machine (Ok p)
      → LeavesSo told now (λ before left. RanSo p.plan (told_of line.full p) answers answer before there left) → LeavesSo told now (IsOutcome (Ok line) files there seen.machine answers answer)
  built_leaves files told there p answer now found ran = (ran.0, ran.1, built_is files (files_now told) there p answer (files_now ran.0) found ran.2)

  module _ (p : Planned) (found : IsFoundIn seen line (Ok p)) (tree : after.faults ≡ seen.faults) (many : length after.outside.hands ≡ length seen.outside.hands)
      (others : drop line.workers after.outside.hands ≡ drop line.workers seen.outside.hands) where
    history_of : HasHistory p.plan (used (Ok line) seen.outside) (used (Ok line) after.outside) trace answers → IsHistory (Ok line) seen after trace answers
    history_of (inl idle) = inl idle
    history_of (inr (run, is)) = inr (line, p, run, refl, found, is)

    not_two : (n : ℕ) (A : Type 0) → n ≢ 2 → n ≡ 2 → A
    not_two n A differs two = absurd (differs two)

    pub calls_build : (said : Result Outcome OutOfMemory) → Reports p.plan (told_of line.full p) (used (Ok line) seen.outside) (used (Ok line) after.outside) trace answers said → Calls (Ok line) seen after trace answers said
    calls_build (Err e) reports = none_said (Ok line) seen after trace answers e (history_of reports.history) reports.once
        (whole_tells line.workers seen.outside.hands after.outside.hands many reports.tells others)
    calls_build (Ok answer) reports = record {
      outcome = all_if seen.tree seen.outside.shelf (used (Ok line) seen.outside).hands (answer.status < 3) (λ files told there. LeavesSo told after.outside.shelf (IsOutcome (Ok line) files there seen.machine answers answer))
          (λ under. all_with seen.tree seen.outside.shelf (used (Ok line) seen.outside).hands
          (λ files told there. IsFound (Ok line) files (files_now told) there seen.machine (Ok p)) (λ files told there. LeavesSo told after.outside.shelf (IsOutcome (Ok line) files there seen.machine answers answer))
          (λ told there. LeavesSo told after.outside.shelf (λ before left. RanSo p.plan (told_of line.full p) answers answer before there left))
          (λ files told there so ran. built_leaves files told there p answer after.outside.shelf so ran)
          (found_told (Ok p) found) (reports.as_one under));
      bound = reports.bound.0;
      comes = by_build line p refl found reports.comes;
      history = history_of reports.history;
      refused = λ two. not_two answer.status (IsUnchanged seen after trace answers) reports.bound.1 two;
      once = reports.once;
      settled = λ under. reports.settled (lower_low answer.status under);
      areas = λ under. reports.areas (lower_low answer.status under);
      quiet = λ under. record { tree = tree; rest = reports.quiet under };
      fault = λ three. inr (reports.fault three);
      tells = whole_tells line.workers seen.outside.hands after.outside.hands many reports.tells others;
    }
