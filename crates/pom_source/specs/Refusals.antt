-- Refusals of a POM that name coordinates or a text. Project rule.
use Rattle.std.specs.Prelude.{ℕ, List}
use Rattle.mvn_base.specs.Gav.{gav_text}
use Rattle.mvn_base.specs.declared.gav.Gav.{Gav}
use Rattle.mvn_base.specs.declared.refusal.PomId.{PomId}
use Rattle.mvn_base.specs.declared.refusal.Place.TheVariants.{Name}
use Rattle.mvn_base.specs.declared.rule.Rule.{Rule}
use Rattle.pom_source.specs.declared.fault.BuildFault.{BuildFault}
use Rattle.pom_source.specs.declared.fault.BuildFault.TheVariants.{Refused}

abbrev pub text_refused : PomId → Rule → List ℕ → BuildFault
text_refused pom rule text = Refused (record { pom = pom; rule = rule; place = Name text })

abbrev pub gav_refused : PomId → Rule → Gav → BuildFault
gav_refused pom rule gav = text_refused pom rule (gav_text gav)
