-- The POMs of a project are the same, wherever coordinates lead: the search looks at paths alone.
use Rattle.std.proofs.Common.{◌≡◌, ℕ, zero, suc, Bool, List, [], ◌∷◌, ◌++◌, map, Option, Some, None, Ok, Err, refl, ap, ◌∙◌}
use Rattle.mvn_base.specs.declared.gav.Gav.{Gav}
use Rattle.mvn_base.specs.Limits.{most_modules}
use Rattle.pom_source.specs.Answers.{Built, ◌>>=◌}
use Rattle.pom_source.specs.Worlds.{World}
use Rattle.pom_source.specs.declared.found.Found.{Found}
use Rattle.pom_source.specs.declared.found.Given.{Given}
use Rattle.discovery.specs.Discovery.{at_either, begun, collected, discovered, named, new_at, one_too_many, or_at, path_of, pom_xml, read_pom, with_module, with_none, with_pom}
use Rattle.discovery.specs.declared.pom.ModulePom.{ModulePom}
use Rattle.mvn_base.specs.Paths.{joined}
use Rattle.project_models.specs.Found.{found_pom, project_poms}

-- a step after the same, and the same step after another
first_same : {A B : Type 0} (x y : Built A) (f : A → Built B) → x ≡ y → x >>= f ≡ y >>= f
first_same x y f e = ap (λ z. z >>= f) e

then_same : {A B : Type 0} (x : Built A) (f g : A → Built B) → ((a : A) → f a ≡ g a) → x >>= f ≡ x >>= g
then_same (Ok a) f g same = same a
then_same (Err fault) f g same = refl

module _ (by_path : List ℕ → Option (List ℕ)) (there : List ℕ → Bool) (by_gav other : Gav → Option Found) where
  abbrev one : World
  one = record { by_path = by_path; by_gav = by_gav; there = there }

  abbrev two : World
  two = record { by_path = by_path; by_gav = other; there = there }

  -- at two paths
  second_same : (up : List ℕ → List ℕ → Built ModulePom) (l : _) (found : List ModulePom) (path : List ℕ) (o : Option ModulePom) → or_at one up l found path o ≡ or_at two up l found path o
  second_same up l found path None = refl
  second_same up l found path (Some pom) = refl

  either_same : (up : List ℕ → List ℕ → Built ModulePom) (l : _) (found : List ModulePom) (path : List ℕ) → at_either one up l found path ≡ at_either two up l found path
  either_same up l found path = then_same (new_at one up l found (joined path pom_xml)) (or_at one up l found path) (or_at two up l found path) (second_same up l found path)

  named_same : (up : List ℕ → List ℕ → Built ModulePom) (l : _) (found : List ModulePom) → named one up l found ≡ named two up l found
  named_same up l found = then_same (path_of l) (at_either one up l found) (at_either two up l found) (either_same up l found)

  -- when no more POMs may come
  none_same : (found : List ModulePom) (waiting : _) → with_none one found waiting ≡ with_none two found waiting
  none_same found [] = refl
  none_same found (l ∷ waiting) = first_same (named one (one_too_many l) l found) (named two (one_too_many l) l found) (λ pom. Ok (found ++ pom ∷ [])) (named_same (one_too_many l) l found)

  module _ (given : Given) where
    module_same : (found : List ModulePom) (waiting : _) (l : _) → with_module one given found waiting l ≡ with_module two given found waiting l
    module_same found waiting l = first_same (named one read_pom l found) (named two read_pom l found) (with_pom one given found waiting) (named_same read_pom l found)

    -- one module after another
    collected_same : (room : ℕ) (found : List ModulePom) (waiting : _) → collected one given room found waiting ≡ collected two given room found waiting
    unfolding collected
    collected_same zero found waiting = none_same found waiting
    collected_same (suc room) found [] = refl
    collected_same (suc room) found (l ∷ waiting) =
        first_same (with_module one given found waiting l) (with_module two given found waiting l) (λ p. collected one given room p.found p.waiting) (module_same found waiting l)
        ∙ then_same (with_module two given found waiting l) (λ p. collected one given room p.found p.waiting) (λ p. collected two given room p.found p.waiting)
        (λ p. collected_same room p.found p.waiting)

    -- so all POMs
    discovered_same : discovered one given ≡ discovered two given
    discovered_same = then_same (begun one given) (λ p. collected one given most_modules p.found p.waiting) (λ p. collected two given most_modules p.found p.waiting) (λ p. collected_same most_modules p.found p.waiting)

    pub poms_same : project_poms one given ≡ project_poms two given
    poms_same = first_same (discovered one given) (discovered two given) (λ found. Ok (map (found_pom one) found)) discovered_same
