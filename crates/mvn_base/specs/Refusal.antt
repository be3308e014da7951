-- How a refusal is written: one line that names the POM, the rule and the place.
use Rattle.std.specs.Prelude.{ℕ, List, ◌++◌, codes}
use Rattle.std.specs.Fmt.{decimal}
use Rattle.mvn_base.specs.declared.refusal.PomId.{PomId}
use Rattle.mvn_base.specs.declared.refusal.PomId.TheVariants.{Path, Gav}
use Rattle.mvn_base.specs.declared.refusal.Place.{Place}
use Rattle.mvn_base.specs.declared.refusal.Place.TheVariants.{Byte, Name}
use Rattle.mvn_base.specs.declared.refusal.Refusal.{Refusal}
use Rattle.mvn_base.specs.Gav.{gav_text}
use Rattle.mvn_base.specs.Rule.{rule_text}

-- a path, or a coordinate
unfoldable pub pom_text : PomId → List ℕ
pom_text (Path path) = path
pom_text (Gav gav) = gav_text gav

-- a byte's number, or what is named
unfoldable pub place_text : Place → List ℕ
place_text (Byte at) = decimal at
place_text (Name name) = name

unfoldable pub refusal_text : Refusal → List ℕ
refusal_text refusal = codes "refused " ++ pom_text refusal.pom ++ codes " rule " ++ rule_text refusal.rule ++ codes " at " ++ place_text refusal.place
