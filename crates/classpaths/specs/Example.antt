-- A project needs `web`, the jar of its tests, and for tests a jar without a POM.
use Rattle.std.specs.Prelude.{ℕ, Bool, true, false, List, [], codes}
use Rattle.collector.specs.declared.scope.Scope.{Scope}
use Rattle.collector.specs.declared.scope.Scope.TheVariants as scopes
use Rattle.classpaths.specs.declared.resolution.Resolved.{Resolved}

abbrev pub needed : List ℕ → List ℕ → Scope → Bool → Resolved
needed artifact kind scope found = record {
  gav = record { group = codes "g"; artifact = artifact; version = codes "1" };
  kind = kind;
  classifier = [];
  scope = scope;
  pom_found = found;
}

abbrev pub web : Resolved
web = needed (codes "web") (codes "jar") scopes.Compile true

abbrev pub leads : Resolved
leads = needed (codes "web") (codes "test-jar") scopes.Provided true

abbrev pub tests : Resolved
tests = needed (codes "tests") (codes "jar") scopes.Test false
