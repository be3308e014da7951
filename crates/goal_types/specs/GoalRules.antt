-- What each of Maven's goals does by default. Introduction to the Build Lifecycle, "Built-in Lifecycle Bindings", and the
-- plugins' own pages for the phases; slots and needs are own rules.
use Rattle.std.specs.Prelude.{ℕ, Bool, ◌&&◌, nat_eq, List, [], ◌∷◌, codes, Option, Some, None, option_map, unwrap_or, find, if◌then◌else◌}
use Rattle.std.specs.Cmp.Lexicographic.{pointwise}
use Rattle.mvn_base.specs.Limits.{maven_plugins}
use Rattle.mvn_base.specs.declared.phase.Phase.{Phase}
use Rattle.mvn_base.specs.declared.phase.Phase.TheVariants as phase
use Rattle.goal_types.specs.declared.goal.Slot.{Slot}
use Rattle.goal_types.specs.declared.goal.Slot.TheVariants.{Nowhere, Classes, TestClasses, Main, Tests, Sources, Javadoc}
use Rattle.goal_types.specs.declared.goal.Need.{Need}
use Rattle.goal_types.specs.declared.goal.Need.TheVariants as need
use Rattle.goal_types.specs.declared.goal_table.GoalRule.{GoalRule}
use denote.Ref.{Bor}

-- a line of the table: the plugin's artifact, the goal, and its rule
pub record Row : Type 0 where
  pub plugin : List ℕ
  pub goal : List ℕ
  pub rule : GoalRule

abbrev row : List ℕ → List ℕ → Phase → Slot → Need → Row
row plugin goal phase slot need = record { plugin = plugin; goal = goal; rule = record { phase = Some phase; slot = slot; need = need } }

-- a row of the program as a line of the table
abbrev pub row_view : (Bor (List ℕ) × Bor (List ℕ) × Phase × Slot × Need) → Row
row_view r = row r.0.now r.1.now r.2 r.3 r.4

unfoldable pub maven_goals : List Row
maven_goals =
    row (codes "maven-resources-plugin") (codes "resources") phase.ProcessResources Nowhere need.Nothing
    ∷ row (codes "maven-resources-plugin") (codes "testResources") phase.ProcessTestResources Nowhere need.Nothing
    ∷ row (codes "maven-compiler-plugin") (codes "compile") phase.Compile Classes need.Compile
    ∷ row (codes "maven-compiler-plugin") (codes "testCompile") phase.TestCompile TestClasses need.Test
    ∷ row (codes "maven-surefire-plugin") (codes "test") phase.Test Nowhere need.Test
    ∷ row (codes "maven-jar-plugin") (codes "jar") phase.Package Main need.Nothing
    ∷ row (codes "maven-ejb-plugin") (codes "ejb") phase.Package Main need.Nothing
    ∷ row (codes "maven-rar-plugin") (codes "rar") phase.Package Main need.Nothing
    ∷ row (codes "maven-war-plugin") (codes "war") phase.Package Main need.Runtime
    ∷ row (codes "maven-ear-plugin") (codes "ear") phase.Package Main need.Runtime
    ∷ row (codes "maven-shade-plugin") (codes "shade") phase.Package Main need.Runtime
    ∷ row (codes "maven-ear-plugin") (codes "generate-application-xml") phase.GenerateResources Nowhere need.Nothing
    ∷ row (codes "maven-jar-plugin") (codes "test-jar") phase.Package Tests need.Nothing
    ∷ row (codes "maven-source-plugin") (codes "jar") phase.Package Sources need.Nothing
    ∷ row (codes "maven-source-plugin") (codes "jar-no-fork") phase.Package Sources need.Nothing
    ∷ row (codes "maven-javadoc-plugin") (codes "jar") phase.Package Javadoc need.Compile
    ∷ row (codes "maven-failsafe-plugin") (codes "integration-test") phase.IntegrationTest Nowhere need.Test
    ∷ row (codes "maven-failsafe-plugin") (codes "verify") phase.Verify Nowhere need.Test
    ∷ row (codes "maven-enforcer-plugin") (codes "enforce") phase.Validate Nowhere need.Nothing
    ∷ row (codes "maven-install-plugin") (codes "install") phase.Install Nowhere need.Nothing
    ∷ row (codes "maven-deploy-plugin") (codes "deploy") phase.Deploy Nowhere need.Nothing
    ∷ []

-- any other goal: no phase, an output that is kept nowhere, the whole classpath of tests
abbrev pub other_goal : GoalRule
other_goal = record { phase = None; slot = Nowhere; need = need.Test }

-- the line of this plugin and goal
abbrev pub is_row : List ℕ → List ℕ → Row → Bool
is_row plugin goal r = pointwise nat_eq plugin r.plugin && pointwise nat_eq goal r.goal

-- what a goal of a plugin does by default
unfoldable pub goal_rule : List ℕ → List ℕ → List ℕ → GoalRule
goal_rule group plugin goal =
    if pointwise nat_eq group maven_plugins then unwrap_or (option_map (λ r. r.rule) (find (is_row plugin goal) maven_goals)) other_goal else other_goal
