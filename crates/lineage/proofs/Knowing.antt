-- What is known of a POM is what was read of it.
use Rattle.std.proofs.Common.{◌≡◌, ℕ, List, Option, Some, Result, Ok, Err, sym, ap}
use Rattle.mvn_base.specs.declared.refusal.PomId.{PomId}
use Rattle.mvn_base.specs.declared.refusal.Refusal.{Refusal}
use Rattle.model_types.specs.declared.model.RawModel.{RawModel}
use Rattle.pom_text.specs.Answers.{Answer, answer}
use Rattle.pom_model.specs.Raw.{raw}
use Rattle.pom_source.specs.Answers.{Built, refused, ◌>>=◌}
use Rattle.pom_source.specs.declared.fault.BuildFault.TheVariants as faults
use Rattle.lineage.specs.Lineage.{known, text_of}
use Rattle.lineage.specs.Reading.{elements, read}
use Rattle.lineage.specs.declared.origin.Candidate.{Candidate}
use Rattle.lineage.specs.declared.origin.Candidate.TheVariants as candidates

some_is : (x y : Candidate) → ◌≡◌ {A = Built (Option Candidate)} (Ok (Some x)) (Ok (Some y)) → x ≡ y
some_is x y e = cc

-- what a POM says that is known
pub known_says : (pom : PomId) (said : Built RawModel) (found : Candidate) → (known pom said >>= (λ candidate. Ok (Some candidate))) ≡ Ok (Some found) → text_of found ≡ said
known_says pom (Ok raw) found e = sym (ap text_of (some_is (candidates.Read raw) found e))
known_says pom (Err (faults.Refused refusal)) found e = sym (ap text_of (some_is (candidates.Refused pom refusal) found e))
known_says pom (Err faults.Absent) found e = cc
known_says pom (Err faults.Source) found e = cc
known_says pom (Err faults.Memory) found e = cc

-- a value or a refusal, and no other fault
abbrev pub OnlyRefuses : {A : Type 0} → Built A → Type 0
OnlyRefuses (Ok x) = Unit {0}
OnlyRefuses (Err (faults.Refused refusal)) = Unit {0}
OnlyRefuses (Err faults.Absent) = ⊥
OnlyRefuses (Err faults.Source) = ⊥
OnlyRefuses (Err faults.Memory) = ⊥

only_refused : {A : Type 0} (said : Result A Refusal) → OnlyRefuses (refused said)
only_refused (Ok x) = record {}
only_refused (Err refusal) = record {}

only_elements : (pom : PomId) (said : Answer) → OnlyRefuses (elements pom said >>= (λ nodes. refused (raw nodes pom)))
only_elements pom (Ok nodes) = only_refused (raw nodes pom)
only_elements pom (Err e) = record {}

-- a POM that is read fails by a refusal alone
pub only_read : (pom : PomId) (bytes : List ℕ) → OnlyRefuses (read pom bytes)
unfolding read
only_read pom bytes = only_elements pom (answer bytes)
