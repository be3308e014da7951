-- What is built for the last module, for the next one.
use Rattle.std.proofs.Common.{◌≡◌, ℕ, ◌&&◌, true, List, Option, None, Some, option_map, Ok, Err, refl, sym, ap, ◌∙◌}
use Rattle.std.specs.Prelude.{unwrap_or}
use Rattle.std.specs.Str.{bytes_eq}
use Rattle.std.proofs.lemmas.Slice.Eq.{bytes_eq-Decides}
use Rattle.mvn_base.specs.declared.refusal.PomId.{PomId}
use Rattle.model_types.specs.declared.build.BuildBase.{BuildBase}
use Rattle.model_types.specs.declared.plugin.Plugin.{Plugin}
use Rattle.pom_source.specs.Answers.{Built}
use Rattle.lifecycle.specs.Bindings.{bindings}
use Rattle.model_steps.specs.Alike.{is_base_alike}
use Rattle.model_steps.specs.Building.{bound_base, built_by}
use Rattle.model_steps.proofs.Likeness.{and_left, and_right, base_same}

-- what is built for equal things is built for these
pub bound_so : (packaging p : List ℕ) (base b built it : BuildBase) → p ≡ packaging → b ≡ base → it ≡ built
    → option_map (bound_base base) (bindings packaging) ≡ Some built → option_map (bound_base b) (bindings p) ≡ Some it
bound_so packaging p base b built it named same is so =
    ap (λ n. option_map (bound_base b) (bindings n)) named
    ∙ ap (λ x. option_map (bound_base x) (bindings packaging)) same ∙ so ∙ ap Some (sym is)

pub kept_serves : (packaging p : List ℕ) (base b built it : BuildBase) → (bytes_eq packaging p && is_base_alike base b) ≡ true → it ≡ built
    → option_map (bound_base base) (bindings packaging) ≡ Some built → option_map (bound_base b) (bindings p) ≡ Some it
kept_serves packaging p base b built it both is so =
    bound_so packaging p base b built it
    (sym ((bytes_eq-Decides packaging p).0 (and_left (bytes_eq packaging p) _ both)))
    (sym (base_same base b (and_right (bytes_eq packaging p) _ both))) is so

given : (pom : PomId) (packaging : List ℕ) (base it : BuildBase) (bound : Option (List Plugin)) → option_map (bound_base base) bound ≡ Some it → built_by pom packaging base bound ≡ Ok it
given pom packaging base it None so = absurd (none so)
  where
    none : None ≡ Some it → ⊥
    none e = cc
given pom packaging base it (Some bound) so = ap Ok (ap (λ o. unwrap_or o it) so)

taken : (pom : PomId) (packaging : List ℕ) (base it : BuildBase) (bound : Option (List Plugin)) → built_by pom packaging base bound ≡ Ok it → option_map (bound_base base) bound ≡ Some it
taken pom packaging base it None so = absurd (none so)
  where
    none : built_by pom packaging base None ≡ Ok it → ⊥
    none e = cc
taken pom packaging base it (Some bound) so = ap value so
  where
    value : Built BuildBase → Option BuildBase
    value (Ok x) = Some x
    value (Err e) = None

pub kept_built : (pom : PomId) (packaging : List ℕ) (base it : BuildBase) → option_map (bound_base base) (bindings packaging) ≡ Some it → built_by pom packaging base (bindings packaging) ≡ Ok it
kept_built pom packaging base it so = given pom packaging base it (bindings packaging) so

pub built_so : (pom : PomId) (packaging : List ℕ) (base it : BuildBase) → built_by pom packaging base (bindings packaging) ≡ Ok it → option_map (bound_base base) (bindings packaging) ≡ Some it
built_so pom packaging base it so = taken pom packaging base it (bindings packaging) so
