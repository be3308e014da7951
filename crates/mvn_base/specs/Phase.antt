-- The phases of the default lifecycle, with their numbers and words. Introduction to the Build Lifecycle, "Lifecycle Reference".
use Rattle.std.specs.Prelude.{ℕ, nat_eq, List, [], ◌∷◌, codes, Option, find}
use Rattle.std.specs.Cmp.Lexicographic.{pointwise}
use Rattle.mvn_base.specs.declared.phase.Phase.{Phase}
use Rattle.mvn_base.specs.declared.phase.Phase.TheVariants.{Validate, Initialize, GenerateSources, ProcessSources, GenerateResources, ProcessResources, Compile, ProcessClasses, GenerateTestSources, ProcessTestSources, GenerateTestResources, ProcessTestResources, TestCompile, ProcessTestClasses, Test, PreparePackage, Package, PreIntegrationTest, IntegrationTest, PostIntegrationTest, Verify, Install, Deploy}

unfoldable pub phase_number : Phase → ℕ
phase_number Validate = 0
phase_number Initialize = 1
phase_number GenerateSources = 2
phase_number ProcessSources = 3
phase_number GenerateResources = 4
phase_number ProcessResources = 5
phase_number Compile = 6
phase_number ProcessClasses = 7
phase_number GenerateTestSources = 8
phase_number ProcessTestSources = 9
phase_number GenerateTestResources = 10
phase_number ProcessTestResources = 11
phase_number TestCompile = 12
phase_number ProcessTestClasses = 13
phase_number Test = 14
phase_number PreparePackage = 15
phase_number Package = 16
phase_number PreIntegrationTest = 17
phase_number IntegrationTest = 18
phase_number PostIntegrationTest = 19
phase_number Verify = 20
phase_number Install = 21
phase_number Deploy = 22

unfoldable pub phase_name : Phase → List ℕ
phase_name Validate = codes "validate"
phase_name Initialize = codes "initialize"
phase_name GenerateSources = codes "generate-sources"
phase_name ProcessSources = codes "process-sources"
phase_name GenerateResources = codes "generate-resources"
phase_name ProcessResources = codes "process-resources"
phase_name Compile = codes "compile"
phase_name ProcessClasses = codes "process-classes"
phase_name GenerateTestSources = codes "generate-test-sources"
phase_name ProcessTestSources = codes "process-test-sources"
phase_name GenerateTestResources = codes "generate-test-resources"
phase_name ProcessTestResources = codes "process-test-resources"
phase_name TestCompile = codes "test-compile"
phase_name ProcessTestClasses = codes "process-test-classes"
phase_name Test = codes "test"
phase_name PreparePackage = codes "prepare-package"
phase_name Package = codes "package"
phase_name PreIntegrationTest = codes "pre-integration-test"
phase_name IntegrationTest = codes "integration-test"
phase_name PostIntegrationTest = codes "post-integration-test"
phase_name Verify = codes "verify"
phase_name Install = codes "install"
phase_name Deploy = codes "deploy"

abbrev pub phases : List Phase
phases = Validate ∷ Initialize ∷ GenerateSources ∷ ProcessSources ∷ GenerateResources ∷ ProcessResources ∷ Compile ∷ ProcessClasses ∷ GenerateTestSources ∷ ProcessTestSources ∷ GenerateTestResources ∷ ProcessTestResources ∷ TestCompile ∷ ProcessTestClasses ∷ Test ∷ PreparePackage ∷ Package ∷ PreIntegrationTest ∷ IntegrationTest ∷ PostIntegrationTest ∷ Verify ∷ Install ∷ Deploy ∷ []

-- the phase with this word
unfoldable pub phase_of : List ℕ → Option Phase
phase_of word = find (λ phase. pointwise nat_eq word (phase_name phase)) phases
