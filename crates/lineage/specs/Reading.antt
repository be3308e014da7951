-- What a POM says by itself, and with its profiles. POM Reference; Introduction to Build Profiles.
use Rattle.std.specs.Prelude.{ℕ, Bool, List, Option, None, Some, Result, Ok, Err}
use Rattle.mvn_base.specs.declared.refusal.PomId.{PomId}
use Rattle.mvn_base.specs.declared.refusal.Place.TheVariants.{Byte}
use Rattle.mvn_base.specs.declared.rule.Rule.{Rule}
use Rattle.model_types.specs.declared.model.RawModel.{RawModel}
use Rattle.pom_text.specs.Answers.{Answer, answer}
use Rattle.pom_text.specs.declared.node.Node.{Node}
use Rattle.pom_model.specs.Raw.{raw}
use Rattle.profiles.specs.Activation.{active}
use Rattle.profiles.specs.Injection.{inject}
use Rattle.pom_source.specs.Answers.{Built, refused, ◌>>=◌}
use Rattle.pom_source.specs.Worlds.{World}
use Rattle.pom_source.specs.declared.found.Given.{Given}
use Rattle.pom_source.specs.declared.fault.BuildFault.TheVariants.{Refused}

-- the elements of a POM's text, or its refusal
abbrev pub elements : PomId → Answer → Built (List Node)
elements pom (Ok nodes) = Ok nodes
elements pom (Err e) = Err (Refused (record { pom = pom; rule = e.0; place = Byte e.1 }))

-- what the bytes of a POM say
unfoldable pub read : PomId → List ℕ → Built RawModel
read pom bytes = elements pom (answer bytes) >>= (λ nodes. refused (raw nodes pom))

-- so of a file, if there is one
abbrev pub read_file : PomId → Option (List ℕ) → Built (Option RawModel)
read_file pom None = Ok None
read_file pom (Some bytes) = read pom bytes >>= (λ raw. Ok (Some raw))

-- the places of the active profiles of a POM
abbrev pub active_places : Given → (List ℕ → Bool) → RawModel → List ℕ
active_places given there raw = active given.machine given.defines given.choice there raw.pom raw.profiles

-- a POM with its active profiles
abbrev pub with_profiles : Given → (List ℕ → Bool) → RawModel → RawModel
with_profiles given there raw = inject raw (active_places given there raw)
