-- POMs are found the same over files that have grown by a build of modules that the project knows by their own coordinates.
use Rattle.std.proofs.Common.{◌≡◌, ℕ, Bool, true, false, ◌&&◌, List, [], codes, Contains, Option, Some, None, is_some, option_map, refl, sym, ap, subst, ◌∙◌, if◌then◌else◌}
use Rattle.std.specs.Option.{option_or}
use Rattle.std.proofs.lemmas.Bool.{false≢true}
use Rattle.mvn_shared.specs.Files.{Files, file_at, is_there}
use Rattle.mvn_base.specs.FileName.{IsValid, file_name}
use Rattle.mvn_base.specs.Names.{is_group, is_name, is_version}
use Rattle.mvn_base.specs.declared.gav.Gav.{Gav}
use Rattle.mvn_base.proofs.Coordinates.{one_of_a_file}
use Rattle.model_resolver.specs.Finding.{find_pom, found_in_repository, is_valid, pom_at, project_of, repository_of, world_of}
use Rattle.model_resolver.specs.declared.resolver.ProjectPom.{ProjectPom}
use Rattle.pom_source.specs.declared.found.Found.{Found}
use Rattle.plan_law.proofs.FileNames.{of_pom}
use Rattle.plan_law.proofs.Gavs.{left_of, right_of}
use Rattle.call_laws.specs.RerunsApart.{is_said}
use Rattle.call_laws.specs.Grown.{IsGrown, MayHold}
use Rattle.call_laws.specs.Grown.MayHold.{as_before, fetched, installed}

-- coordinates that have a file have valid names
named : (gav : Gav) → is_valid gav ≡ true → IsValid gav
named gav e =
    let rest = right_of (is_group gav.group) (is_name gav.artifact && is_version gav.version) e in
    record {
      group = left_of (is_group gav.group) (is_name gav.artifact && is_version gav.version) e;
      artifact = left_of (is_name gav.artifact) (is_version gav.version) rest;
      version = right_of (is_name gav.artifact) (is_version gav.version) rest;
    }

module _ (poms : List ProjectPom) (start remote files : Files) (built : List Gav) (grown : IsGrown start remote built files)
    (said : (gav : Gav) → Contains built gav → is_said poms gav ≡ true) where
  abbrev pom : Gav → List ℕ
  pom gav = file_name gav [] (codes "pom")

  -- what one of the repositories has
  abbrev either : Gav → Option (List ℕ) → Option Found
  either gav o = option_or (option_map (found_in_repository gav) o) (option_map (found_in_repository gav) (file_at remote (pom gav)))

  twice : (o : Option Found) → option_or o o ≡ o
  twice None = refl
  twice (Some x) = refl

  -- coordinates that no POM of the project says lead to the same POM
  held_same : (gav : Gav) → IsValid gav → is_said poms gav ≡ false → MayHold start remote built (pom gav) (file_at files (pom gav)) → either gav (file_at files (pom gav)) ≡ either gav (file_at start (pom gav))
  held_same gav valid unsaid (as_before e) = ap (either gav) e
  held_same gav valid unsaid (fetched none e) = ap (either gav) e ∙ twice (option_map (found_in_repository gav) (file_at remote (pom gav))) ∙ sym (ap (either gav) none)
  held_same gav valid unsaid (installed other there file is) =
      let one = one_of_a_file (pom gav) gav other (of_pom gav valid) file in
      absurd (false≢true (sym unsaid ∙ said gav (subst (Contains built) (sym one) there)))

  outside_same : (gav : Gav) → is_said poms gav ≡ false → option_or (repository_of files gav) (repository_of remote gav) ≡ option_or (repository_of start gav) (repository_of remote gav)
  outside_same gav unsaid = by (is_valid gav) refl
    where
      by : (b : Bool) → is_valid gav ≡ b
          → option_or (if b then option_map (found_in_repository gav) (file_at files (pom gav)) else None) (if b then option_map (found_in_repository gav) (file_at remote (pom gav)) else None)
          ≡ option_or (if b then option_map (found_in_repository gav) (file_at start (pom gav)) else None) (if b then option_map (found_in_repository gav) (file_at remote (pom gav)) else None)
      by true e = held_same gav (named gav e) unsaid (grown (pom gav))
      by false e = refl

  -- all coordinates do
  pub found_same : (gav : Gav) → find_pom poms files remote gav ≡ find_pom poms start remote gav
  found_same gav = by (project_of poms gav) refl
    where
      by : (o : Option Found) → project_of poms gav ≡ o → option_or o (option_or (repository_of files gav) (repository_of remote gav)) ≡ option_or o (option_or (repository_of start gav) (repository_of remote gav))
      by (Some x) e = refl
      by None e = outside_same gav (ap is_some e)

  -- so the worlds are one
  pub world_same : (tree : Files) → world_of poms tree files remote ≡ world_of poms tree start remote
  world_same tree = λ i. record { by_path = pom_at poms tree; by_gav = λ gav. found_same gav i; there = is_there tree }
