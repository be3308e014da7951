-- What an origin leads to.
use Rattle.std.proofs.Common.{◌≡◌, Bool, true, false, List, Option, None, Some, Ok, Err, refl, sym, ap, ◌∙◌, if◌then◌else◌}
use Rattle.std.specs.Prelude.{codes}
use Rattle.std.specs.Str.{bytes_eq}
use Rattle.std.proofs.lemmas.Slice.Eq.{bytes_eq-Decides}
use Rattle.mvn_base.specs.declared.gav.Gav.{Gav}
use Rattle.mvn_base.specs.declared.refusal.PomId.{PomId}
use Rattle.mvn_base.specs.declared.rule.Rule.TheVariants.{ParentPackaging}
use Rattle.model_types.specs.declared.model.RawModel.{RawModel}
use Rattle.pom_source.specs.Answers.{◌>>=◌}
use Rattle.pom_source.specs.Chains.{bound, ok_is}
use Rattle.pom_source.specs.Refusals.{gav_refused}
use Rattle.pom_source.specs.Worlds.{World}
use Rattle.pom_source.specs.declared.found.Found.{Found}
use Rattle.lineage.specs.Lineage.{candidate, found_or, known, known_at, known_of, packed, text_of}
use Rattle.lineage.specs.Reading.{read}
use Rattle.lineage.specs.declared.origin.Candidate.{Candidate}
use Rattle.lineage.specs.declared.origin.Candidate.TheVariants as candidates
use Rattle.lineage.specs.declared.origin.Origin.{Origin}
use Rattle.lineage.specs.declared.origin.Origin.TheVariants.{Beside, Elsewhere}
use Rattle.lineage.proofs.Knowing.{known_says}
use Rattle.model_laws.specs.Lines.{LeadsTo}

module _ (world : World) where
  -- what is found and read is what the origin leads to
  pub leads : (child : PomId) (origin : Origin) (found : Candidate) (raw : RawModel) → candidate world child origin ≡ Ok found → text_of found ≡ Ok raw → LeadsTo world origin raw
  leads child (Beside path r) found raw there text = ok_is r raw (ap text_of (ok_is (candidates.Read r) found there) ∙ text)
  leads child (Elsewhere gav) found raw there text =
      let one = bound (known_at world gav) (found_or child gav) found there in
      by (world.by_gav gav) refl one.0 one.1 one.2
    where
      by : (o : Option Found) → world.by_gav gav ≡ o → (k : Option Candidate) → known_of o ≡ Ok k → found_or child gav k ≡ Ok found → LeadsTo world (Elsewhere gav) raw
      by None is None e f = cc
      by None is (Some c) e f = cc
      by (Some it) is None e f = cc
      by (Some it) is (Some c) e f = (it, is, sym (known_says it.pom (read it.pom it.bytes) c e) ∙ ap text_of (ok_is c found f) ∙ text)

  -- and what an origin leads to is found and read
  pub found_at : (child : PomId) (origin : Origin) (raw : RawModel) → LeadsTo world origin raw → (found : Candidate) × (candidate world child origin ≡ Ok found) × (text_of found ≡ Ok raw)
  found_at child (Beside path r) raw same = (candidates.Read r, refl, ap (λ x. Ok x) same)
  found_at child (Elsewhere gav) raw leads = (
    candidates.Read raw,
    ap (λ o. known_of o >>= found_or child gav) leads.1
        ∙ ap (λ s. (known leads.0.pom s >>= (λ candidate. Ok (Some candidate))) >>= found_or child gav) leads.2,
    refl,
  )

pub packed_is : (child : PomId) (gav : Gav) (raw : RawModel) → packed child gav raw ≡ Ok raw → raw.coordinates.packaging ≡ codes "pom"
packed_is child gav raw e = by (bytes_eq raw.coordinates.packaging (codes "pom")) refl e
  where
    by : (b : Bool) → bytes_eq raw.coordinates.packaging (codes "pom") ≡ b → (if b then Ok raw else Err (gav_refused child ParentPackaging gav)) ≡ Ok raw → raw.coordinates.packaging ≡ codes "pom"
    by true is e = (bytes_eq-Decides raw.coordinates.packaging (codes "pom")).0 is
    by false is e = cc

pub is_packed : (child : PomId) (gav : Gav) (raw : RawModel) → raw.coordinates.packaging ≡ codes "pom" → packed child gav raw ≡ Ok raw
is_packed child gav raw e = ap (λ b. if b then Ok raw else Err (gav_refused child ParentPackaging gav)) ((bytes_eq-Decides raw.coordinates.packaging (codes "pom")).1 e)
