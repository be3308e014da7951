-- Worked examples of the build by one hand: small plans, and what they end as.
use Rattle.std.proofs.Common.{◌≡◌, ℕ, zero, suc, true, List, [], ◌∷◌, Option, Some, None, refl, ap, ◌∙◌, codes, is_some, cond, length, nat_le}
use Rattle.std.specs.Option.{option_map, option_and_then}
use Rattle.std.specs.FinMap as finite
use Rattle.std.specs.Ordering.{nat_cmp}
use Rattle.std.specs.Cmp.Lexicographic.{slice_cmp, nat_list_cmp_total}
use Rattle.mvn_shared.specs.Files.{Files, file_at}
use Rattle.mvn_base.specs.declared.phase.Phase.TheVariants.{Package}
use Rattle.goal_types.specs.declared.goal.Slot.TheVariants as slot
use Rattle.goal_types.specs.declared.goal.Need.TheVariants as need
use Rattle.goal_types.specs.declared.goal.GoalAnswer.{GoalAnswer}
use Rattle.goal_types.specs.declared.goal.GoalAnswer.TheVariants.{Done, Produced, Failed}
use Rattle.build_core.specs.declared.plan.Plan.{Plan}
use Rattle.build_core.specs.declared.plan.PlanModule.{PlanModule}
use Rattle.build_core.specs.declared.ending.State.TheVariants.{Skipped, Ended}
use Rattle.build_core.specs.declared.ending.Ending.TheVariants.{Built, Goal, NoArtifact, OutputTooLarge}
use Rattle.build_core.specs.OneThread.{Supply, Fetched, fetched, most_fetched, one_module, one_thread}

-- a module of these upstreams and fetch list, with one goal, whose POM is file 0 and whose jar is file 1
abbrev module_of : List ℕ → List ℕ → PlanModule
module_of upstream fetch = record {
  gav = record { group = codes "demo"; artifact = codes "app"; version = codes "1" };
  upstream = upstream;
  batch = [];
  fetch = fetch;
  own_name = 0;
  own = record { slot = slot.Pom; file = 0 } ∷ record { slot = slot.Main; file = 1 } ∷ [];
  pom = codes "pom";
  goals = record { group = codes "org.apache.maven.plugins"; artifact = codes "maven-jar-plugin"; version = []; goal = codes "jar"; execution = codes "default-jar"; phase = Package; configuration = []; slot = slot.Main; need = need.Nothing } ∷ [];
  sources = [];
  entries = [];
  budget = 4;
  installs = true;
  needs_artifact = true;
}

abbrev plan_of : List PlanModule → Plan
plan_of modules = record { modules = modules; names = []; files = codes "app.pom" ∷ codes "app.jar" ∷ codes "x.jar" ∷ []; present = []; workers = 1; events = 0 }

abbrev supply_of : Files → (ℕ → ℕ → GoalAnswer) → Supply
supply_of remote answers = record { start = finite.empty; remote = remote; answers = answers }

-- the one module is built
built_alone : (one_thread (plan_of (module_of [] [] ∷ [])) (supply_of finite.empty (λ m i. Produced (codes "jar")))).states ≡ Ended Built ∷ []
unfolding one_module
built_alone = refl

abbrev jar_of : ℕ → ℕ → GoalAnswer
jar_of m i = Produced (codes "jar")

-- the first module's goal fails, any other makes a jar
abbrev first_fails : ℕ → ℕ → GoalAnswer
first_fails zero i = Failed (codes "1 test failed")
first_fails (suc m) i = Produced (codes "jar")

abbrev alone : Plan
alone = plan_of (module_of [] [] ∷ [])

-- its POM and its jar are installed
jar_installed : file_at (one_thread alone (supply_of finite.empty jar_of)).files (codes "app.jar") ≡ Some (codes "jar")
unfolding one_module
jar_installed = finite.get-insert nat_list_cmp_total _ _ _ (codes "app.jar")

pom_installed : file_at (one_thread alone (supply_of finite.empty jar_of)).files (codes "app.pom") ≡ Some (codes "pom")
unfolding one_module
pom_installed = finite.get-insert nat_list_cmp_total _ _ _ (codes "app.pom") ∙ finite.get-insert nat_list_cmp_total _ _ _ (codes "app.pom")

-- a goal that fails ends its module, and nothing of it is installed
failed_alone : (one_thread alone (supply_of finite.empty first_fails)).states ≡ Ended (Goal 0) ∷ []
unfolding one_module
failed_alone = refl

nothing_installed : file_at (one_thread alone (supply_of finite.empty first_fails)).files (codes "app.pom") ≡ None
unfolding one_module
nothing_installed = finite.get-empty (slice_cmp nat_cmp) (codes "app.pom")

-- a jar that is to be installed must be made, and within the budget
no_artifact : (one_thread alone (supply_of finite.empty (λ m i. Done))).states ≡ Ended NoArtifact ∷ []
unfolding one_module
no_artifact = refl

too_large : (one_thread alone (supply_of finite.empty (λ m i. Produced (codes "a larger jar")))).states ≡ Ended (OutputTooLarge 0) ∷ []
unfolding one_module
too_large = refl

-- a file that is nowhere to be had is the first missing one of a fetch list
abbrev fetch_x : Option Files → Fetched
fetch_x found = elim found [ None ↦ record { files = finite.empty; missing = Some 2 } | Some more ↦ record { files = more; missing = None } ]

abbrev found_x : Option (List ℕ) → Option (List ℕ) → Option Files
found_x here there = cond (is_some here) (Some finite.empty) (option_map (finite.insert finite.empty (codes "x.jar")) (option_and_then (λ bytes. cond (nat_le (length bytes) most_fetched) (Some bytes) None) there))

no_x : file_at finite.empty (codes "x.jar") ≡ None
no_x = finite.get-empty (slice_cmp nat_cmp) (codes "x.jar")

missing_file : (fetched alone finite.empty (2 ∷ []) finite.empty).missing ≡ Some 2
missing_file = ap (λ o. (fetch_x (found_x o o)).missing) no_x

-- one that the remote has is fetched
abbrev remote : Files
remote = finite.insert finite.empty (codes "x.jar") (codes "x")

x_there : file_at remote (codes "x.jar") ≡ Some (codes "x")
x_there = finite.get-insert nat_list_cmp_total finite.empty (codes "x.jar") (codes "x") (codes "x.jar")

fetched_file : (fetched alone remote (2 ∷ []) finite.empty).missing ≡ None
fetched_file = ap (λ o. (fetch_x (found_x o (file_at remote (codes "x.jar")))).missing) no_x ∙ ap (λ o. (fetch_x (found_x None o)).missing) x_there

-- a module is skipped for the first upstream that isn't built, and one beside it is built
after_failure : (one_thread (plan_of (module_of [] [] ∷ module_of (0 ∷ []) [] ∷ module_of [] [] ∷ module_of (1 ∷ 2 ∷ []) [] ∷ [])) (supply_of finite.empty first_fails)).states
    ≡ Ended (Goal 0) ∷ Skipped 0 ∷ Ended Built ∷ Skipped 1 ∷ []
unfolding one_module
after_failure = refl
