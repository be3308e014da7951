-- The project's POMs have the texts of the files at their paths.
use Rattle.std.proofs.Common.{◌≡◌, ◌≤◌, ◌+◌, ℕ, Bool, true, false, List, [], ◌∷◌, map, find, length, unwrap_or, Option, Some, option_map, Ok, refl, sym, ap, subst, ◌∙◌, arith}
use Rattle.std.proofs.lemmas.List.{length-map}
use Rattle.std.specs.Prelude.{cond}
use Rattle.std.specs.List.{AllByRecursion}
use Rattle.std.specs.Option.{option_or}
use Rattle.std.specs.Str.{bytes_eq}
use Rattle.mvn_shared.specs.Files.{Files}
use Rattle.mvn_base.specs.Limits.{most_modules}
use Rattle.pom_source.specs.Chains.{bound, goes_on, ok_is}
use Rattle.pom_source.specs.Worlds.{World}
use Rattle.pom_source.specs.declared.found.Given.{Given}
use Rattle.lineage.proofs.Holding.{same_path}
use Rattle.lineage.specs.Stores.{AgreesOnPaths}
use Rattle.discovery.specs.Discovery.{discovered, path_of}
use Rattle.discovery.specs.Listing.{AreListed, IsProject, IsRead}
use Rattle.discovery.specs.Listing.AreListed.{no_module, one_module}
use Rattle.discovery.specs.declared.pom.ModulePom.{ModulePom}
use Rattle.discovery.proofs.Projects.{is_project}
use Rattle.model_resolver.specs.Finding.{project_at, world_of}
use Rattle.model_resolver.specs.declared.resolver.ProjectPom.{ProjectPom}
use Rattle.project_models.specs.Found.{found_pom, project_poms, with_own_text, with_text}
use Rattle.project_models.proofs.Each.{all_both}

-- what a function takes
abbrev Taken : {A B : Type 0} → (A → B) → Type 0
Taken {A} {B} f = A

module _ (world : World) where
  -- a POM that was discovered has the bytes of its file
  abbrev IsThere : ModulePom → Type 0
  IsThere m = world.by_path m.path ≡ Some m.bytes

  read_there : (m : ModulePom) → IsRead world m → IsThere m
  read_there m r = r.there

  all_there : (given : Given) {ls : List (Taken path_of)} {poms : List ModulePom} → AreListed world given ls poms → AllByRecursion IsThere poms
  all_there given no_module = tt
  all_there given (one_module l modules own pom below others leads lists under after) =
      (read_there pom leads.is_read, all_both IsThere below others (all_there given under) (all_there given after))

  agree : (found : List ModulePom) → AllByRecursion IsThere found → (path : List ℕ) → option_or (project_at (map (found_pom world) found) path) (world.by_path path) ≡ world.by_path path
  agree [] all path = refl
  agree (m ∷ found) all path = by (agree found all.1 path) (bytes_eq m.path path) refl
    where
      rest : Option ProjectPom
      rest = find (λ (p : ProjectPom). bytes_eq p.path path) (map (found_pom world) found)

      by : option_or (option_map (λ (p : ProjectPom). p.bytes) rest) (world.by_path path) ≡ world.by_path path → (same : Bool) → bytes_eq m.path path ≡ same
          → option_or (option_map (λ (p : ProjectPom). p.bytes) (cond same (Some (found_pom world m)) rest)) (world.by_path path) ≡ world.by_path path
      by more true is = ap (λ o. Some (unwrap_or o [])) all.0 ∙ sym all.0 ∙ ap world.by_path (same_path m.path path is)
      by more false is = more

  project_there : (given : Given) (found : List ModulePom) → IsProject world given found → AllByRecursion IsThere found
  project_there given found is = subst (λ l. AllByRecursion IsThere l) (sym is.begins) (read_there is.root is.is_read, all_there given is.are_listed)

  own_texts : (found : List ModulePom) → AllByRecursion IsThere found → map with_own_text found ≡ map (found_pom world) found
  own_texts [] all = refl
  own_texts (m ∷ found) all =
      ap (λ o. with_text m (unwrap_or o []) ∷ map with_own_text found) (sym all.0) ∙ ap (λ l. found_pom world m ∷ l) (own_texts found all.1)

-- the texts of the project's POMs are those of the files at their paths
abbrev pub HasText : World → ProjectPom → Type 0
HasText world p = world.by_path p.path ≡ Some p.bytes

texts : (world : World) (found : List ModulePom) → AllByRecursion (IsThere world) found → AllByRecursion (HasText world) (map (found_pom world) found)
texts world [] all = tt
texts world (m ∷ found) all = (all.0 ∙ ap (λ o. Some (unwrap_or o [])) (sym all.0), texts world found all.1)

pub have_texts : (world : World) (given : Given) (poms : List ProjectPom) → project_poms world given ≡ Ok poms → AllByRecursion (HasText world) poms
have_texts world given poms said =
    let b = bound (discovered world given) (λ found. Ok (map (found_pom world) found)) poms said in
    subst (λ (l : List ProjectPom). AllByRecursion (HasText world) l) (ok_is (map (found_pom world) b.0) poms b.2)
    (texts world b.0 (project_there world given b.0 (is_project world given b.0 b.1)))

-- so the project's POMs are those that were discovered, with their own bytes
pub poms_found : (world : World) (given : Given) (found : List ModulePom) (poms : List ProjectPom) → discovered world given ≡ Ok found → poms ≡ map with_own_text found → project_poms world given ≡ Ok poms
poms_found world given found poms said own =
    let there = project_there world given found (is_project world given found said) in
    goes_on (discovered world given) (λ l. Ok (map (found_pom world) l)) found (Ok poms) said
    (ap (λ (l : List ProjectPom). Ok l) (sym (own ∙ own_texts world found there)))

-- and they are as many
as_many : (found : List ModulePom) (poms : List ProjectPom) → poms ≡ map with_own_text found → length poms ≡ length found
as_many found poms own = ap length own ∙ length-map found with_own_text

pub some_poms : (found : List ModulePom) (poms : List ProjectPom) → poms ≡ map with_own_text found → 1 ≤ length found → 1 ≤ length poms
some_poms found poms own any = let many = as_many found poms own in omega (arith, many, any)

pub few_poms : (found : List ModulePom) (poms : List ProjectPom) → poms ≡ map with_own_text found → length found ≤ 1 + most_modules → length poms ≤ 1 + most_modules
few_poms found poms own few = let many = as_many found poms own in omega (arith, many, few)

-- and a world in which they are found by their coordinates has the same POMs at their paths
pub agrees : (tree local remote : Files) (given : Given) (poms : List ProjectPom) → project_poms (world_of [] tree local remote) given ≡ Ok poms
    → AgreesOnPaths (world_of [] tree local remote) (world_of poms tree local remote)
agrees tree local remote given poms said path =
    let world : World = world_of [] tree local remote in
    let b = bound (discovered world given) (λ found. Ok (map (found_pom world) found)) poms said in
    subst (λ (l : List ProjectPom). option_or (project_at l path) (world.by_path path) ≡ world.by_path path) (ok_is (map (found_pom world) b.0) poms b.2)
    (agree world b.0 (project_there world given b.0 (is_project world given b.0 b.1)) path)
