-- How the key of a dependency is written. POM Reference, "Dependency Management".
use Rattle.std.specs.Prelude.{ℕ, List, [], ◌∷◌, ◌++◌, if◌then◌else◌}
use Rattle.mvn_base.specs.Names.{is_filled}
use Rattle.mvn_base.specs.declared.key.Key.{Key}

-- where there is a classifier: a colon and it
abbrev pub further_part : List ℕ → List ℕ
further_part classifier = if is_filled classifier then 58 ∷ classifier else []

-- group:artifact:type[:classifier]
unfoldable pub key_text : Key → List ℕ
key_text key = key.group ++ 58 ∷ key.artifact ++ 58 ∷ key.kind ++ further_part key.classifier
