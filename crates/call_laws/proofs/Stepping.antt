-- Planning step by step: each step has one answer, so the whole has.
use Rattle.std.proofs.Common.{◌≡◌, ℕ, List, Result, Ok, Err, refl, sym, ap, subst, ◌∙◌}
use Rattle.mvn_shared.specs.Files.{Files}
use Rattle.mvn_base.specs.declared.refusal.Refusal.{Refusal}
use Rattle.goal_types.specs.declared.goal.SourceFile.{SourceFile}
use Rattle.classpaths.specs.declared.resolution.Resolution.{Resolution}
use Rattle.cli_words.specs.declared.command_line.CommandLine.{CommandLine}
use Rattle.pom_source.specs.Answers.{Built}
use Rattle.pom_source.specs.declared.fault.BuildFault.{BuildFault}
use Rattle.pom_source.specs.declared.fault.BuildFault.TheVariants.{Refused, Absent, Source, Memory}
use Rattle.pom_source.specs.declared.found.Given.{Given}
use Rattle.project_models.specs.Models.{Modules, project_models}
use Rattle.project_libraries.specs.Known.{libraries_of}
use Rattle.reactor.specs.Reactor.{Answers}
use Rattle.reactor.specs.declared.modules.ReactorModules.{ReactorModules}
use Rattle.reactor.specs.declared.modules.ReactorFault.{ReactorFault}
use Rattle.reactor.specs.declared.modules.ReactorFault.TheVariants as reactor
use Rattle.module_plan.specs.Plans.{numbered}
use Rattle.module_plan.specs.declared.selected.Planned.{Planned}
use Rattle.module_plan.specs.declared.selected.SelectedModule.{SelectedModule}
use Rattle.built_modules.specs.Selected.{AreModules}
use Rattle.build_plan.specs.Planning.{IsSaid, AreReady, AreResolved, IsReactor, IsRefused, Libraries, Plans, plan_fault, sources_of}
use Rattle.build_plan.specs.Planning.IsRefused.{by_poms, by_libraries, by_circle, by_sources, by_size}
use Rattle.build_plan.specs.declared.planning.PlanFault.{PlanFault}
use Rattle.build_plan.specs.declared.planning.PlanFault.TheVariants as faults
use Rattle.reactor.proofs.Built.{one_answer as one_reactor}
use Rattle.call_laws.proofs.Resolving.{one_resolved}
use Rattle.call_laws.proofs.Selecting.{one_selection}

abbrev Answer : Type 0
Answer = Result Planned PlanFault

-- a refusal, and the last step, as planning answers
abbrev fails : BuildFault → Answer
fails fault = Err (faults.Build fault)

abbrev ends : Built Planned → Answer
ends (Ok planned) = Ok planned
ends (Err fault) = fails fault

abbrev IsTold : BuildFault → Type 0
IsTold fault = (fault ≡ Source → ⊥) × (fault ≡ Memory → ⊥)

built_said : (x : ReactorModules) → ◌≡◌ {A = Result ReactorModules ReactorFault} (Ok x) (Err reactor.Memory) → ⊥
built_said x e = cc

circle_said : (x : Refusal) → ◌≡◌ {A = Result ReactorModules ReactorFault} (Err (reactor.Refused x)) (Err reactor.Memory) → ⊥
circle_said x e = cc

word_said : (place : ℕ) → ◌≡◌ {A = Result ReactorModules ReactorFault} (Err (reactor.Unknown place)) (Err reactor.Memory) → ⊥
word_said place e = cc

ok_said : (x : List Resolution) (fault : BuildFault) → ◌≡◌ {A = Result (List Resolution) BuildFault} (Ok x) (Err fault) → ⊥
ok_said x fault e = cc

abbrev fault_or : BuildFault → Result (List Resolution) BuildFault → BuildFault
fault_or d (Ok x) = d
fault_or d (Err fault) = fault

module _ (tree local remote : Files) (given : Given) (line : CommandLine) where
  module _ (p : Modules) (resolutions : List Resolution) where
    -- 8: the plan of the modules that are built
    record IsLast (built : ReactorModules) (sources : List (List SourceFile)) (answer : Answer) : Type 0 where
      modules : List SelectedModule
      each : AreModules p.poms p.models resolutions built sources modules
      is : answer ≡ ends (numbered line.phase line.workers local modules)

    -- behind the sources
    abbrev BehindSources : ReactorModules → Answer → Built (List (List SourceFile)) → Type 0
    BehindSources built answer (Ok sources) = IsLast built sources answer
    BehindSources built answer (Err fault) = answer ≡ fails fault

    -- behind the modules that are selected
    abbrev BehindReactor : Answer → Result ReactorModules ReactorFault → Type 0
    BehindReactor answer (Ok built) = BehindSources built answer (sources_of tree local remote given line p built)
    BehindReactor answer (Err fault) = answer ≡ Err (plan_fault fault)

    record Chooses (answer : Answer) : Type 0 where
      said : Result ReactorModules ReactorFault
      told : said ≡ Err reactor.Memory → ⊥
      chosen : Answers p.models resolutions line said
      rest : BehindReactor answer said

    one_last : (built : ReactorModules) (sources : List (List SourceFile)) (a b : Answer) → IsLast built sources a → IsLast built sources b → a ≡ b
    one_last built sources a b x y =
        x.is ∙ ap (λ l. ends (numbered line.phase line.workers local l)) (one_selection p.poms p.models resolutions built sources x.modules y.modules x.each y.each) ∙ sym y.is

    one_behind_sources : (built : ReactorModules) (a b : Answer) (said : Built (List (List SourceFile))) → BehindSources built a said → BehindSources built b said → a ≡ b
    one_behind_sources built a b (Ok sources) x y = one_last built sources a b x y
    one_behind_sources built a b (Err fault) x y = x ∙ sym y

    one_behind_reactor : (a b : Answer) (said : Result ReactorModules ReactorFault) → BehindReactor a said → BehindReactor b said → a ≡ b
    one_behind_reactor a b (Ok built) x y = one_behind_sources built a b (sources_of tree local remote given line p built) x y
    one_behind_reactor a b (Err fault) x y = x ∙ sym y

    one_choice : (a b : Answer) → Chooses a → Chooses b → a ≡ b
    one_choice a b x y =
        let same = one_reactor p.models resolutions line x.said y.said x.chosen y.chosen x.told y.told in
        one_behind_reactor a b y.said (subst (BehindReactor a) same x.rest) y.rest

  -- behind what the dependencies lead to
  abbrev BehindLibraries : Modules → Answer → Result (List Resolution) BuildFault → Type 0
  BehindLibraries p answer (Ok resolutions) = Chooses p resolutions answer
  BehindLibraries p answer (Err fault) = answer ≡ fails fault

  record Mediated (p : Modules) (answer : Answer) : Type 0 where
    said : Result (List Resolution) BuildFault
    told : (said ≡ Err Source → ⊥) × (said ≡ Err Memory → ⊥)
    resolved : Libraries tree local remote given line p said
    rest : BehindLibraries p answer said

  -- behind the models
  abbrev BehindModels : Answer → Built Modules → Type 0
  BehindModels answer (Ok p) = Mediated p answer
  BehindModels answer (Err fault) = answer ≡ fails fault

  abbrev Steps : Answer → Type 0
  Steps answer = BehindModels answer (project_models tree local remote given)

  one_behind_libraries : (p : Modules) (a b : Answer) (said : Result (List Resolution) BuildFault) → BehindLibraries p a said → BehindLibraries p b said → a ≡ b
  one_behind_libraries p a b (Ok resolutions) x y = one_choice p resolutions a b x y
  one_behind_libraries p a b (Err fault) x y = x ∙ sym y

  one_mediated : (p : Modules) (a b : Answer) → Mediated p a → Mediated p b → a ≡ b
  one_mediated p a b x y =
      let same = one_resolved (libraries_of tree local remote given p.poms p.models) p.poms p.models x.said y.said x.resolved y.resolved x.told y.told in
      one_behind_libraries p a b y.said (subst (BehindLibraries p a) same x.rest) y.rest

  one_behind_models : (a b : Answer) (said : Built Modules) → BehindModels a said → BehindModels b said → a ≡ b
  one_behind_models a b (Ok p) x y = one_mediated p a b x y
  one_behind_models a b (Err fault) x y = x ∙ sym y

  -- what planning says is said step by step
  from_resolved : (p : Modules) (resolutions : List Resolution) (answer : Answer) → AreResolved tree local remote given line p resolutions → Chooses p resolutions answer → Steps answer
  from_resolved p resolutions answer is rest =
      subst (BehindModels answer) (sym is.project) (record { said = Ok resolutions; told = (ok_said resolutions Source, ok_said resolutions Memory); resolved = is.resolved; rest = rest })

  from_reactor : (p : Modules) (resolutions : List Resolution) (built : ReactorModules) (answer : Answer) (said : Built (List (List SourceFile))) → IsReactor tree local remote given line p resolutions built
      → sources_of tree local remote given line p built ≡ said → BehindSources p resolutions built answer said → Steps answer
  from_reactor p resolutions built answer said is read rest =
      from_resolved p resolutions answer is.resolved
      (record { said = Ok built; told = built_said built; chosen = is.selected; rest = subst (BehindSources p resolutions built answer) (sym read) rest })

  from_ready : (modules : List SelectedModule) (answer : Answer) (said : Built Planned) → AreReady tree local remote given line modules
      → numbered line.phase line.workers local modules ≡ said → answer ≡ ends said → Steps answer
  from_ready modules answer said is plan same =
      from_reactor is.p is.resolutions is.built answer (Ok is.sources) is.chosen is.read (record { modules = modules; each = is.each; is = same ∙ ap ends (sym plan) })

  from_refused : (fault : BuildFault) → IsTold fault → IsRefused tree local remote given line fault → Steps (fails fault)
  from_refused fault told (by_poms is) = subst (BehindModels (fails fault)) (sym is) refl
  from_refused fault told (by_libraries p project is) =
      subst (BehindModels (fails fault)) (sym project)
      (record { said = Err fault; told = (λ e. told.0 (ap (fault_or fault) e), λ e. told.1 (ap (fault_or fault) e)); resolved = is; rest = refl })
  from_refused fault told (by_circle p resolutions refusal is same circle) =
      from_resolved p resolutions (fails fault) is (record { said = Err (reactor.Refused refusal); told = circle_said refusal; chosen = circle; rest = ap fails same })
  from_refused fault told (by_sources p resolutions built is read) = from_reactor p resolutions built (fails fault) (Err fault) is read refl
  from_refused fault told (by_size modules is plan) = from_ready modules (fails fault) (Err fault) is plan refl

  refused_told : (refusal : Refusal) → IsTold (Refused refusal)
  refused_told refusal = (source, memory)
    where
      source : ◌≡◌ {A = BuildFault} (Refused refusal) Source → ⊥
      source e = cc

      memory : ◌≡◌ {A = BuildFault} (Refused refusal) Memory → ⊥
      memory e = cc

  absent_told : IsTold Absent
  absent_told = (source, memory)
    where
      source : ◌≡◌ {A = BuildFault} Absent Source → ⊥
      source e = cc

      memory : ◌≡◌ {A = BuildFault} Absent Memory → ⊥
      memory e = cc

  stepped : (answer : Answer) → Plans tree local remote given line answer → IsSaid answer → Steps answer
  stepped (Ok planned) is said = from_ready is.modules (Ok planned) (Ok planned) is.ready is.is refl
  stepped (Err (faults.Build (Refused refusal))) is said = from_refused (Refused refusal) (refused_told refusal) is
  stepped (Err (faults.Build Absent)) is said = from_refused Absent absent_told is
  stepped (Err (faults.Build Source)) is said = absurd said
  stepped (Err (faults.Build Memory)) is said = absurd said
  stepped (Err (faults.Unknown place)) is said =
      from_resolved is.p is.resolutions (Err (faults.Unknown place)) is.resolved
      (record { said = Err (reactor.Unknown place); told = word_said place; chosen = is.unknown; rest = refl })

  pub one_answer : (a b : Answer) → Plans tree local remote given line a → Plans tree local remote given line b → IsSaid a → IsSaid b → a ≡ b
  one_answer a b is too said said_too = one_behind_models a b (project_models tree local remote given) (stepped a is said) (stepped b too said_too)
