-- What a dependency's type says of its file. POM Reference, "Dependencies"; Maven's default artifact handlers.
use Rattle.std.specs.Prelude.{ℕ, Bool, ◌||◌, nat_eq, List, [], codes, if◌then◌else◌}
use Rattle.std.specs.Cmp.Lexicographic.{pointwise}
use Rattle.mvn_base.specs.declared.type_rule.TypeRule.{TypeRule}

-- a type whose file is a jar that classes are loaded from
abbrev pub is_jar : List ℕ → Bool
is_jar kind = pointwise nat_eq kind (codes "jar") || pointwise nat_eq kind (codes "maven-plugin") || pointwise nat_eq kind (codes "ejb") || pointwise nat_eq kind (codes "test-jar")

-- such a type has the extension `jar` and is on the classpath, any other has itself as its extension and is not; the
-- classifier of `test-jar` is `tests` where none is declared
unfoldable pub type_rule : List ℕ → TypeRule
type_rule kind = record {
  extension = if is_jar kind then codes "jar" else kind;
  classifier = if pointwise nat_eq kind (codes "test-jar") then codes "tests" else [];
  on_classpath = is_jar kind;
}
