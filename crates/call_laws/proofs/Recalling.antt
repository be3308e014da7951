-- A call over files that a call or a stop left finds the same, and ends the same.
use Rattle.std.proofs.Common.{◌≡◌, ◌⊎◌, inl, inr, ℕ, Bool, List, Option, Result, Ok, Err, refl, sym, ap, subst, ◌∙◌}
use Rattle.std.specs.FinMap as finite
use Rattle.std.specs.Cmp.Lexicographic.{nat_list_cmp_total}
use Rattle.mvn_shared.specs.Files.{Files, file_at}
use Rattle.mvn_base.specs.declared.machine.Machine.{Machine}
use Rattle.build_core.specs.OneThread.{Progress, one_thread}
use Rattle.build_core.specs.declared.event.Answered.{Answered}
use Rattle.build_plan.specs.Planning.{IsPlanned, Plans}
use Rattle.build_plan.specs.declared.planning.PlanFault.{PlanFault}
use Rattle.build_plan.specs.declared.planning.PlanFault.TheVariants.{Build, Unknown}
use Rattle.cli_words.specs.declared.command_line.CommandLine.{CommandLine}
use Rattle.pom_source.specs.declared.fault.BuildFault.TheVariants.{Refused, Absent, Source, Memory}
use Rattle.pom_source.specs.declared.found.Given.{Given}
use Rattle.module_plan.specs.Plans.{present_in}
use Rattle.module_plan.specs.declared.selected.Planned.{Planned}
use Rattle.call_laws.proofs.Founding.{one_found}
use Rattle.run_law.proofs.Laws.{again_same}
use Rattle.build_outcome.specs.declared.outcome.Outcome.{Outcome}
use Rattle.call_plan.specs.Ending.{IsWhole}
use Rattle.call_plan.specs.Found.{Finds, IsFound, IsFoundOf, given_of}
use Rattle.call_plan.specs.Headline.{Agrees, IsCall, World, asks_full, files_after, outcome, supply_of, told_of}
use Rattle.call_laws.specs.Again.{found_over, planned_over, world_over}
use Rattle.call_laws.specs.Reruns.{IfPlanned, IsBehind, IsCallAgain, IsFirst, MayAgain, world_by}
use Rattle.call_laws.proofs.Growing.{grown}
use Rattle.call_laws.proofs.Planless.{build_same, report_same, told}
use Rattle.call_laws.proofs.Replanning.{apart_again, planned_again}
use Rattle.call_laws.specs.Grown.{IsGrown, gavs_of}
use Rattle.call_laws.proofs.Planned.{sound}

-- files that have what the start has are the start
start_is : (start files : Files) → ((name : List ℕ) → (file_at files name ≡ file_at start name) ⊎ (file_at files name ≡ file_at start name)) → files ≡ start
start_is start files lies = finite.same_map nat_list_cmp_total (finite.slice_cmp-IsAntisymmetric finite.nat_cmp-IsAntisymmetric) files start (λ name. by name (lies name))
  where
    by : (name : List ℕ) → (file_at files name ≡ file_at start name) ⊎ (file_at files name ≡ file_at start name) → file_at files name ≡ file_at start name
    by name (inl e) = e
    by name (inr e) = e

abbrev Found : Type 0
Found = Result Planned Outcome

-- ---- what is found

-- where a plan was found, planning said it
said_plan : (tree start remote : Files) (given : Given) (line : CommandLine) (said : Result Planned PlanFault) (p : Planned) → Plans tree start remote given line said → Finds said (Ok p) → IsPlanned tree start remote given line p
said_plan tree start remote given line (Ok q) p plans e = subst (IsPlanned tree start remote given line) (same q p e) plans
  where
    same : (q p : Planned) → ◌≡◌ {A = Found} (Ok p) (Ok q) → q ≡ p
    same q p e = cc
said_plan tree start remote given line (Err (Build (Refused refusal))) p plans e = cc
said_plan tree start remote given line (Err (Build Absent)) p plans e = cc
said_plan tree start remote given line (Err (Build Source)) p plans e = absurd e
said_plan tree start remote given line (Err (Build Memory)) p plans e = absurd e
said_plan tree start remote given line (Err (Unknown place)) p plans e = cc

-- the plan that was found in a world
planned_in : (line : CommandLine) (world : World) (p : Planned) → IsFirst (Ok line) world (Ok p) → IsPlanned world.tree world.start world.remote (given_of world.machine line) line p
planned_in line world p first = said_plan world.tree world.start world.remote (given_of world.machine line) line first.is.0 p first.is.1 first.is.2

-- the files behind it have grown by its build
grown_in : (line : CommandLine) (world : World) (p : Planned) (files : Files) → IsFirst (Ok line) world (Ok p) → IsBehind world (Ok p) files → IsGrown world.start world.remote (gavs_of p) files
grown_in line world p files first behind =
    grown world.tree world.start world.remote files (given_of world.machine line) line p world.answers first.again.few (planned_in line world p first) behind

-- a plan is found again
plan_again : (line : CommandLine) (world : World) (p : Planned) (files : Files) → IsFirst (Ok line) world (Ok p) → IsBehind world (Ok p) files
    → IsFoundOf world.tree files world.remote (given_of world.machine line) line (Ok (planned_over files p))
plan_again line world p files first behind = (
  Ok (planned_over files p),
  planned_again world.tree world.start world.remote files (given_of world.machine line) line p (planned_in line world p first) first.again.apart (grown_in line world p files first behind),
  refl,
)

pub again_found : (asked : Result CommandLine Outcome) (world : World) (found : Found) (files : Files) → IsFirst asked world found → IsBehind world found files
    → IsFound asked world.tree files world.remote world.machine (found_over files found)
again_found (Ok line) world (Ok p) files first behind = plan_again line world p files first behind
again_found (Ok line) world (Err answer) files first behind =
    subst (λ start. IsFoundOf world.tree start world.remote (given_of world.machine line) line (Err answer)) (sym (start_is world.start files behind)) first.is
again_found (Err answer) world (Ok p) files first behind = absurd (never p answer first.is)
  where
    never : (p : Planned) (answer : Outcome) → ◌≡◌ {A = Found} (Ok p) (Err answer) → ⊥
    never p answer e = cc
again_found (Err answer) world (Err other) files first behind = first.is

-- and nothing else is
pub found_is_over : (asked : Result CommandLine Outcome) (world : World) (found other : Found) (files : Files) → IsFirst asked world found → IsBehind world found files
    → IsFound asked world.tree files world.remote world.machine other → other ≡ found_over files found
found_is_over asked world found other files first behind is =
    one_found asked world.tree files world.remote world.machine other (found_over files found) is (again_found asked world found files first behind)

-- ---- what is answered

-- over one plan
ends_again : (line : CommandLine) (world : World) (p : Planned) (files : Files) → IsFirst (Ok line) world (Ok p) → IsBehind world (Ok p) files
    → one_thread p.plan (supply_of (world_over files world)) ≡ one_thread p.plan (supply_of world)
ends_again line world p files first behind =
    again_same p.plan world.start files world.remote world.answers (sound world.tree world.start world.remote (given_of world.machine line) line p first.again.few (planned_in line world p first)) behind

plan_outcome : (full : Bool) (line : CommandLine) (world : World) (p : Planned) (files : Files) → IsFirst (Ok line) world (Ok p) → IsBehind world (Ok p) files
    → outcome full (world_over files world) (Ok (planned_over files p)) ≡ outcome full world (Ok p)
plan_outcome full line world p files first behind =
    report_same p.plan (present_in files p.plan.files) (told_of full p) (supply_of (world_over files world))
    ∙ ap (λ (progress : Progress). told p.plan (present_in files p.plan.files) p.plan (told_of full p) (supply_of world) progress) (ends_again line world p files first behind)

plan_files : (line : CommandLine) (world : World) (p : Planned) (files : Files) → IsFirst (Ok line) world (Ok p) → IsBehind world (Ok p) files
    → files_after (world_over files world) (Ok (planned_over files p)) ≡ files_after world (Ok p)
plan_files line world p files first behind =
    ap (λ (progress : Progress). progress.files) (build_same p.plan (present_in files p.plan.files) (supply_of (world_over files world)) ∙ ends_again line world p files first behind)

over_outcome : (full : Bool) (asked : Result CommandLine Outcome) (world : World) (found : Found) (files : Files) → IsFirst asked world found → IsBehind world found files
    → outcome full (world_over files world) (found_over files found) ≡ outcome full world found
over_outcome full (Ok line) world (Ok p) files first behind = plan_outcome full line world p files first behind
over_outcome full (Ok line) world (Err answer) files first behind = refl
over_outcome full (Err answer) world (Ok p) files first behind = absurd (never p answer first.is)
  where
    never : (p : Planned) (answer : Outcome) → ◌≡◌ {A = Found} (Ok p) (Err answer) → ⊥
    never p answer e = cc
over_outcome full (Err answer) world (Err other) files first behind = refl

over_files : (asked : Result CommandLine Outcome) (world : World) (found : Found) (files : Files) → IsFirst asked world found → IsBehind world found files
    → files_after (world_over files world) (found_over files found) ≡ files_after world found
over_files (Ok line) world (Ok p) files first behind = plan_files line world p files first behind
over_files (Ok line) world (Err answer) files first behind = start_is world.start files behind
over_files (Err answer) world (Ok p) files first behind = absurd (never p answer first.is)
  where
    never : (p : Planned) (answer : Outcome) → ◌≡◌ {A = Found} (Ok p) (Err answer) → ⊥
    never p answer e = cc
over_files (Err answer) world (Err other) files first behind = start_is world.start files behind

-- the outcome over the files that were left is that over the start
pub again_outcome : (asked : Result CommandLine Outcome) (world : World) (found other : Found) (files : Files) (full : Bool) → IsFirst asked world found → IsBehind world found files
    → IsFound asked world.tree files world.remote world.machine other → outcome full (world_over files world) other ≡ outcome full world found
again_outcome asked world found other files full first behind is =
    ap (outcome full (world_over files world)) (found_is_over asked world found other files first behind is) ∙ over_outcome full asked world found files first behind

pub again_files : (asked : Result CommandLine Outcome) (world : World) (found other : Found) (files : Files) → IsFirst asked world found → IsBehind world found files
    → IsFound asked world.tree files world.remote world.machine other → files_after (world_over files world) other ≡ files_after world found
again_files asked world found other files first behind is =
    ap (files_after (world_over files world)) (found_is_over asked world found other files first behind is) ∙ over_files asked world found files first behind

-- it may be made once more after that
pub first_again : (asked : Result CommandLine Outcome) (world : World) (found : Found) (files : Files) → IsFirst asked world found → IsBehind world found files
    → IsFirst asked (world_over files world) (found_over files found)
first_again asked world found files first behind = record { is = again_found asked world found files first behind; again = may asked found first behind }
  where
    may : (asked : Result CommandLine Outcome) (found : Found) → IsFirst asked world found → IsBehind world found files → IfPlanned asked (found_over files found) (λ line p. MayAgain line (world_over files world) p)
    may (Ok line) (Ok p) first behind = record {
      few = first.again.few;
      apart = apart_again world.tree world.start world.remote files (given_of world.machine line) line p (planned_in line world p first) first.again.apart (grown_in line world p files first behind);
    }
    may (Ok line) (Err answer) first behind = record {}
    may (Err answer) (Ok p) first behind = record {}
    may (Err answer) (Err other) first behind = record {}

-- ---- calls

-- a world is what it agrees on
world_is : (tree start remote : Files) (machine : Machine) (kept : List Answered) (world : World) → Agrees world tree start remote machine kept → world ≡ world_by tree start remote machine kept
world_is tree start remote machine kept world agrees = λ i. record {
  tree = agrees.tree i;
  start = agrees.start i;
  remote = agrees.remote i;
  machine = agrees.machine i;
  answers = λ m n. agrees.answers m n i;
}

-- what a call over the files that were left answers and leaves, a call over the start does
pub call_again : (asked : Result CommandLine Outcome) (tree remote files : Files) (machine : Machine) (kept : List Answered) (status : ℕ) (written now : Option (List ℕ)) (after : Files)
    → IsCall asked tree remote machine kept status written now files after → IsCallAgain asked tree remote machine kept status written now files after
call_again asked tree remote files machine kept status written now after call start found first behind =
    let world = world_by tree start remote machine kept in
    let ended = call.2 (world_over files world) (record { tree = refl; start = refl; remote = refl; machine = refl; answers = λ m i. refl }) in
    let whole = subst (λ (o : Outcome). IsWhole o status written now) (again_outcome asked world found call.0 files (asks_full asked) first behind call.1) ended.0 in
    let left = sym (again_files asked world found call.0 files first behind call.1) ∙ ended.1 in (
      found,
      first.is,
      λ other agrees.
          let same = world_is tree start remote machine kept other agrees in
          subst (λ (w : World). IsWhole (outcome (asks_full asked) w found) status written now × (files_after w found ≡ after)) (sym same) (whole, left),
    )
