-- What is known of a project's POMs by their coordinates is what was read of them by their paths.
use Rattle.std.proofs.Common.{◌≡◌, ℕ, zero, suc, ◌+◌, ◌<◌, Bool, true, false, List, [], ◌∷◌, drop, find, get_or, length, Option, None, Some, option_map, Ok, Err, refl, sym, ap, subst, ◌∙◌}
use Rattle.std.proofs.lemmas.List.{drop_more}
use Rattle.std.specs.Prelude.{cond, is_some}
use Rattle.std.specs.List.{AllByRecursion}
use Rattle.std.specs.Option.{option_or}
use Rattle.mvn_shared.specs.Files.{Files}
use Rattle.mvn_base.specs.Gav.{gav_eq}
use Rattle.mvn_base.specs.declared.gav.Gav.{Gav}
use Rattle.mvn_base.specs.declared.refusal.PomId.{PomId}
use Rattle.mvn_base.specs.declared.refusal.PomId.TheVariants as ids
use Rattle.model_types.specs.declared.model.RawModel.{RawModel}
use Rattle.pom_source.specs.Answers.{Built, ◌>>=◌}
use Rattle.pom_source.specs.Worlds.{World}
use Rattle.pom_source.specs.declared.found.Given.{Given}
use Rattle.lineage.specs.Beside.{read_at}
use Rattle.lineage.specs.Lineage.{known, known_at, known_of}
use Rattle.lineage.specs.Reading.{read, read_file}
use Rattle.lineage.specs.Stores.{AgreesOnPaths, Holds, known_in}
use Rattle.lineage.specs.declared.origin.Candidate.TheVariants as candidates
use Rattle.lineage.specs.declared.store.Store.{Store}
use Rattle.lineage.proofs.Holding.{same_gav}
use Rattle.lineage.proofs.Kept.{gav_itself}
use Rattle.effective.specs.Kept.{HoldsAll}
use Rattle.effective.specs.declared.run_store.RunStore.{RunStore}
use Rattle.model_resolver.specs.Finding.{found_in_project, repository_of, world_of}
use Rattle.model_resolver.specs.declared.resolver.ProjectPom.{ProjectPom}
use Rattle.project_models.specs.Found.{project_poms}
use Rattle.project_models.proofs.Paths.{HasText, agrees, have_texts}

-- a POM that was read is known as it was read
some_is : (x y : RawModel) → ◌≡◌ {A = Built (Option RawModel)} (Ok (Some x)) (Ok (Some y)) → x ≡ y
some_is x y e = cc

known_so : (pom : PomId) (said : Built RawModel) (raw : RawModel) → (said >>= (λ r. Ok (Some r))) ≡ Ok (Some raw)
    → (known pom said >>= (λ candidate. Ok (Some candidate))) ≡ Ok (Some (candidates.Read raw))
known_so pom (Ok r) raw e = ap (λ (x : RawModel). Ok (Some (candidates.Read x))) (some_is r raw e)
known_so pom (Err fault) raw e = cc

-- what all have, those from a place on have
all_from : {A : Type 0} (P : A → Type 0) (xs : List A) (i : ℕ) → AllByRecursion P xs → AllByRecursion P (drop i xs)
all_from P xs zero all = all
all_from P [] (suc i) all = tt
all_from P (x ∷ xs) (suc i) all = all_from P xs i all.1

-- the first of some POMs that has these coordinates
abbrev pub first_of : Gav → List ProjectPom → Option ProjectPom
first_of gav poms = find (λ (p : ProjectPom). gav_eq p.gav gav) poms

-- of the POMs before a place none has coordinates of which nothing is known
abbrev pub Searched : Store → List ProjectPom → ℕ → Type 0
Searched store poms i = (gav : Gav) → known_in store gav ≡ None → first_of gav (drop i poms) ≡ first_of gav poms

never : {A : Type 0} → ◌≡◌ {A = Bool} true false → A
never e = cc

module _ (poms : List ProjectPom) (i : ℕ) (p : ProjectPom) (low : i < length poms) (next : p ≡ get_or poms i p) where
  -- the POMs from the one that is next on
  rest_is : drop i poms ≡ p ∷ drop (i + 1) poms
  rest_is = drop_more poms i p low ∙ ap (λ (q : ProjectPom). q ∷ drop (i + 1) poms) (sym next)

  -- one POM more, of whose coordinates something is known then
  pub one_searched : (old new : Store) (kept : Bool) → Searched old poms i → kept ≡ is_some (known_in new p.gav) → kept ≡ true
      → ((other : Gav) → gav_eq p.gav other ≡ false → known_in new other ≡ known_in old other) → Searched new poms (i + 1)
  one_searched old new kept searched there is_kept others gav none = by (gav_eq p.gav gav) refl
    where
      by : (same : Bool) → gav_eq p.gav gav ≡ same → first_of gav (drop (i + 1) poms) ≡ first_of gav poms
      by true is = never (sym is_kept ∙ there ∙ ap is_some (ap (known_in new) (same_gav p.gav gav is) ∙ none))
      by false is =
          sym (ap (λ b. cond b (Some p) (first_of gav (drop (i + 1) poms))) is)
          ∙ ap (first_of gav) (sym rest_is) ∙ searched gav (sym (others gav is) ∙ none)

  -- it is the first of its coordinates, if nothing is known of these
  first_is : first_of p.gav (drop i poms) ≡ first_of p.gav poms → first_of p.gav poms ≡ Some p
  first_is searched =
      sym searched ∙ ap (first_of p.gav) rest_is ∙ ap (λ b. cond b (Some p) (first_of p.gav (drop (i + 1) poms))) (gav_itself p.gav)

  -- so its coordinates lead to it, as it was read at its path
  pub own_known : (tree local remote : Files) (given : Given) (store : Store) → project_poms (world_of [] tree local remote) given ≡ Ok poms → Searched store poms i → known_in store p.gav ≡ None
      → (raw : RawModel) → read_at (world_of poms tree local remote) p.path ≡ Ok (Some raw) → known_at (world_of poms tree local remote) p.gav ≡ Ok (Some (candidates.Read raw))
  own_known tree local remote given store said searched none raw at =
      let lone : World = world_of [] tree local remote in
      let world : World = world_of poms tree local remote in
      let all : AllByRecursion (HasText lone) (p ∷ drop (i + 1) poms) = subst (λ (l : List ProjectPom). AllByRecursion (HasText lone) l) rest_is (all_from (HasText lone) poms i (have_texts lone given poms said)) in
      let found_there : world.by_path p.path ≡ Some p.bytes = agrees tree local remote given poms said p.path ∙ all.0 in
      let found_by : world.by_gav p.gav ≡ Some (found_in_project p) =
      ap (λ (o : Option ProjectPom). option_or (option_map found_in_project o) (option_or (repository_of local p.gav) (repository_of remote p.gav))) (first_is (searched p.gav none)) in
      let text : (read (ids.Path p.path) p.bytes >>= (λ r. Ok (Some r))) ≡ Ok (Some raw) = sym (ap (read_file (ids.Path p.path)) found_there) ∙ at in
      ap known_of found_by ∙ known_so (ids.Path p.path) (read (ids.Path p.path) p.bytes) raw text

-- what was read alone holds where coordinates lead to the project's POMs, with these kept
pub own_held : {store alone kept : Store} {list poms : List ProjectPom} {run : RunStore} (tree local remote : Files) (given : Given) → list ≡ poms
    → ((world other : World) (given : Given) → Holds world given store → AgreesOnPaths world other → other.there ≡ world.there → Holds other given alone)
    → ((tree local remote : Files) (given : Given) → Holds (world_of list tree local remote) given alone → project_poms (world_of [] tree local remote) given ≡ Ok list → Holds (world_of list tree local remote) given kept)
    → ((world : World) (given : Given) → Holds world given kept → HoldsAll world given run)
    → Holds (world_of [] tree local remote) given store → project_poms (world_of [] tree local remote) given ≡ Ok poms → HoldsAll (world_of poms tree local remote) given run
own_held {store} {alone} {kept} {list} {poms} {run} tree local remote given same only keep over held said =
    let so : project_poms (world_of [] tree local remote) given ≡ Ok list = said ∙ ap (λ (l : List ProjectPom). Ok l) (sym same) in
    subst (λ (l : List ProjectPom). HoldsAll (world_of l tree local remote) given run) same
    (over (world_of list tree local remote) given
    (keep tree local remote given
    (only (world_of [] tree local remote) (world_of list tree local remote) given held (agrees tree local remote given list so) refl) so))
