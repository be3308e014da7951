-- What a POM is refused for, in words of what is wrong in it.
use Rattle.std.specs.Prelude.{◌≡◌, ℕ, List}
use Rattle.mvn_base.specs.declared.refusal.Place.TheVariants.{Name}
use Rattle.mvn_base.specs.declared.refusal.PomId.{PomId}
use Rattle.mvn_base.specs.declared.refusal.Refusal.{Refusal}
use Rattle.model_laws.specs.Breaks.{IsFirst, Told, of_text, on_element}

-- a refusal of what is told
abbrev pub refusal_of : PomId → Told → Refusal
refusal_of pom (on_element rule path) = record { pom = pom; rule = rule; place = Name path }
refusal_of pom (of_text rule text) = record { pom = pom; rule = rule; place = Name text }

-- the refusal tells the first of some things that are wrong
pub record IsRefusedFor (Has : List ℕ → ℕ → Told → Type 0) (pom : PomId) (refusal : Refusal) : Type 0 where
  pub told : Told
  pub first : IsFirst Has told
  pub is : refusal ≡ refusal_of pom told
