-- What a call answers that builds nothing, by what planning gave. Own rules.
use Rattle.std.specs.Prelude.{ℕ, List, [], ◌∷◌, ◌++◌, codes}
use Rattle.mvn_base.specs.declared.rule.Rule.TheVariants as rule
use Rattle.mvn_base.specs.declared.refusal.Place.TheVariants.{Name}
use Rattle.mvn_base.specs.declared.refusal.PomId.TheVariants.{Path}
use Rattle.mvn_base.specs.declared.refusal.Refusal.{Refusal}
use Rattle.mvn_base.specs.Refusal.{refusal_text}
use Rattle.cli_words.specs.Faults.{fault_text}
use Rattle.cli_words.specs.declared.fault.WordFault.{WordFault}
use Rattle.cli_words.specs.declared.fault.WordKind.TheVariants.{UnknownModule}
use Rattle.model_resolver.specs.declared.failures.PomDevice.{PomDevice}
use Rattle.model_resolver.specs.declared.failures.PomDevice.TheVariants.{Tree, Shelf, Remote}
use Rattle.build_outcome.specs.declared.outcome.Outcome.{Outcome}

-- a text with a line feed behind it
abbrev pub line : List ℕ → List ℕ
line text = text ++ 10 ∷ []

-- the first fault of the words, and where it stands
unfoldable pub word_fault : WordFault → Outcome
word_fault fault = record { text = line (fault_text fault); status = 2 }

-- the word at this place names no module that is built
abbrev pub unknown_module : (place : ℕ) → Outcome
unknown_module place = word_fault (record { place = place; kind = UnknownModule })

abbrev pub device_name : PomDevice → List ℕ
device_name Tree = codes "tree"
device_name Shelf = codes "shelf"
device_name Remote = codes "remote"

-- a device failed while the project was planned
unfoldable pub fault_line : PomDevice → Outcome
fault_line device = record { text = line (codes "fault " ++ device_name device); status = 3 }

-- the project is refused
unfoldable pub refused_by : Refusal → Outcome
refused_by refusal = record { text = line (refusal_text refusal); status = 2 }

-- there is no POM
abbrev pub root_missing : Refusal
root_missing = record { pom = Path (codes "pom.xml"); rule = rule.ModuleNotFound; place = Name (codes "pom.xml") }
