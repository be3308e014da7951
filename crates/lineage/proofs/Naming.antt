-- What is read of a POM names the POM.
use Rattle.std.proofs.Common.{◌≡◌, ℕ, List, Result, Ok, Err, sym, ap}
use Rattle.mvn_base.specs.declared.refusal.PomId.{PomId}
use Rattle.mvn_base.specs.declared.refusal.Refusal.{Refusal}
use Rattle.model_types.specs.declared.model.RawModel.{RawModel}
use Rattle.pom_text.specs.Answers.{answer}
use Rattle.pom_model.specs.Naming.{raw_names}
use Rattle.pom_model.specs.Raw.{raw}
use Rattle.pom_source.specs.Answers.{refused}
use Rattle.pom_source.specs.Chains.{bound, ok_is}
use Rattle.lineage.specs.Lineage.{pom_of, text_of}
use Rattle.lineage.specs.Reading.{elements, read}
use Rattle.lineage.specs.declared.origin.Candidate.{Candidate}
use Rattle.lineage.specs.declared.origin.Candidate.TheVariants as candidates

-- a value that isn't refused
refused_ok : (said : Result RawModel Refusal) (r : RawModel) → refused said ≡ Ok r → said ≡ Ok r
refused_ok (Ok x) r e = ap (λ y. Ok y) (ok_is x r e)
refused_ok (Err refusal) r e = cc

pub read_pom : (pom : PomId) (bytes : List ℕ) (r : RawModel) → read pom bytes ≡ Ok r → r.pom ≡ pom
unfolding read
read_pom pom bytes r e =
    let one = bound (elements pom (answer bytes)) _ r e in
    raw_names one.0 pom r (refused_ok (raw one.0 pom) r one.2)

pub text_pom : (found : Candidate) (r : RawModel) → text_of found ≡ Ok r → r.pom ≡ pom_of found
text_pom (candidates.Read raw) r e = sym (ap (λ (m : RawModel). m.pom) (ok_is raw r e))
text_pom (candidates.Refused pom refusal) r e = cc
