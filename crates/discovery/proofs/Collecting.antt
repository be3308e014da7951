-- What is found, one module at a time.
use Rattle.std.proofs.Common.{◌≡◌, ◌≢◌, ℕ, zero, suc, List, [], ◌∷◌, Ok, refl, ap, arith, subst, sym}
use Rattle.pom_source.specs.Answers.{Fails, ◌>>=◌}
use Rattle.pom_source.specs.Chains.{stop_fails}
use Rattle.pom_source.specs.Worlds.{World}
use Rattle.pom_source.specs.declared.fault.BuildFault.{BuildFault}
use Rattle.pom_source.specs.declared.found.Given.{Given}
use Rattle.discovery.specs.Discovery.{collected, with_module, with_none}
use Rattle.discovery.specs.declared.pom.Listed.{Listed}
use Rattle.discovery.specs.declared.pom.ModulePom.{ModulePom}
use Rattle.discovery.specs.declared.progress.Progress.{Progress}

module _ (world : World) (given : Given) where
  -- there is room, and no module waits
  pub collected_end : (room : ℕ) (found : List ModulePom) (waiting : List Listed) → waiting ≡ [] → collected world given room found waiting ≡ Ok found
  unfolding collected
  collected_end room found waiting none = subst (λ w. collected world given room found w ≡ Ok found) (sym none) (by room)
    where
      by : (n : ℕ) → collected world given n found [] ≡ Ok found
      by zero = refl
      by (suc n) = refl

  -- one module more
  pub collected_step : (room next : ℕ) (found : List ModulePom) (waiting rest : List Listed) (l : Listed) (p : Progress) → room ≡ suc next → waiting ≡ l ∷ rest → with_module world given found rest l ≡ Ok p
      → collected world given room found waiting ≡ collected world given next p.found p.waiting
  unfolding collected
  collected_step room next found waiting rest l p some is comes =
      subst (λ w. collected world given room found w ≡ collected world given next p.found p.waiting) (sym is)
      (subst (λ n. collected world given n found (l ∷ rest) ≡ collected world given next p.found p.waiting) (sym some)
      (ap (λ r. r >>= (λ (q : Progress). collected world given next q.found q.waiting)) comes))

  pub collected_fails : (room : ℕ) (found : List ModulePom) (waiting rest : List Listed) (l : Listed) (fault : BuildFault) → room ≢ 0 → waiting ≡ l ∷ rest → Fails (with_module world given found rest l) fault
      → Fails (collected world given room found waiting) fault
  unfolding collected
  collected_fails room found waiting rest l fault some is fails = subst (λ w. Fails (collected world given room found w) fault) (sym is) (by room some)
    where
      by : (n : ℕ) → n ≢ 0 → Fails (collected world given n found (l ∷ rest)) fault
      by zero none = absurd (none refl)
      by (suc n) there = stop_fails (with_module world given found rest l) _ fault fails

  -- no room is left
  pub full_fails : (room : ℕ) (found : List ModulePom) (waiting : List Listed) (fault : BuildFault) → room ≡ 0 → Fails (with_none world found waiting) fault → Fails (collected world given room found waiting) fault
  unfolding collected
  full_fails room found waiting fault none fails = subst (λ n. Fails (collected world given n found waiting) fault) (sym none) fails
