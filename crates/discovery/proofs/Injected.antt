-- The modules of a POM with its profiles.
use Rattle.std.proofs.Common.{◌≡◌, ℕ, List, [], ◌∷◌, ◌++◌, Option, None, Some, Ok, map, flat_map, slice_get, refl, ap, sym, subst, ◌∙◌}
use Rattle.std.specs.Prelude.{filter_map}
use Rattle.model_types.specs.declared.model.RawModel.{RawModel}
use Rattle.model_types.specs.declared.profile.Profile.{Profile}
use Rattle.profiles.specs.Injection.{inject, inject_base, profiles_at}
use Rattle.pom_source.specs.Answers.{Built, Fails}
use Rattle.pom_source.specs.Chains.{ok_is}
use Rattle.pom_source.specs.Worlds.{World}
use Rattle.pom_source.specs.declared.fault.BuildFault.{BuildFault}
use Rattle.pom_source.specs.declared.found.Given.{Given}
use Rattle.lineage.specs.Reading.{active_places}
use Rattle.discovery.specs.Discovery.{aggregated, listed, listed_by}
use Rattle.discovery.specs.Profiles.{modules_at, modules_in}
use Rattle.discovery.specs.declared.pom.Listed.{Listed}
use Rattle.discovery.specs.declared.pom.ModulePom.{ModulePom}

-- those of the profiles at some places
in_profiles : (profiles : List Profile) (places : List ℕ) → flat_map (λ place. modules_in (slice_get profiles place)) places ≡ flat_map (λ (p : Profile). p.base.modules) (profiles_at profiles places)
in_profiles profiles [] = refl
in_profiles profiles (place ∷ places) = by (in_profiles profiles places) (slice_get profiles place) refl
  where
    by : flat_map (λ place. modules_in (slice_get profiles place)) places ≡ flat_map (λ (p : Profile). p.base.modules) (profiles_at profiles places) → (o : Option Profile) → slice_get profiles place ≡ o
        → (modules_in (slice_get profiles place) ++ flat_map (λ place. modules_in (slice_get profiles place)) places) ≡ flat_map (λ (p : Profile). p.base.modules) (profiles_at profiles (place ∷ places))
    by rest None is = simp (is, rest)
    by rest (Some p) is = simp (is, rest)

-- those of the POM, and then those of each profile
pub injected_modules : (raw : RawModel) (places : List ℕ) → modules_at raw places ≡ (inject raw places).base.modules
unfolding inject inject_base
injected_modules raw places = ap (λ l. raw.base.modules ++ l) (in_profiles raw.profiles places)

-- what a POM lists, if its profiles at these places are active
pub lists : (world : World) (given : Given) (pom : ModulePom) (places : List ℕ) (modules own : List Listed) → ◌≡◌ {A = Built (List ℕ)} (Ok (active_places given world.there pom.raw)) (Ok places)
    → modules ≡ listed pom.path (inject pom.raw places).base.modules → aggregated pom modules ≡ Ok own → listed_by world given pom ≡ Ok own
lists world given pom places modules own active is all =
    ap (λ l. aggregated pom (listed pom.path (inject pom.raw l).base.modules)) (ok_is (active_places given world.there pom.raw) places active)
    ∙ ap (aggregated pom) (sym is) ∙ all

pub lists_fails : (world : World) (given : Given) (pom : ModulePom) (places : List ℕ) (modules : List Listed) (fault : BuildFault) → ◌≡◌ {A = Built (List ℕ)} (Ok (active_places given world.there pom.raw)) (Ok places)
    → modules ≡ listed pom.path (inject pom.raw places).base.modules → Fails (aggregated pom modules) fault → Fails (listed_by world given pom) fault
lists_fails world given pom places modules fault active is fails =
    subst (λ said. Fails said fault)
    (ap (aggregated pom) is ∙ sym (ap (λ l. aggregated pom (listed pom.path (inject pom.raw l).base.modules)) (ok_is (active_places given world.there pom.raw) places active))) fails
