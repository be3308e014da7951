-- What a library's POM comes to as a jar. Introduction to the Dependency Mechanism.
use Rattle.std.specs.Prelude.{◌≡◌, [], true, codes}
use Rattle.classpaths.specs.declared.resolution.Resolved.{Resolved}
use Rattle.collector.specs.declared.scope.Scope.{Scope}
use Rattle.collector.specs.declared.scope.Scope.TheVariants.{Compile, Provided, Runtime, Test}
use Rattle.mediation.specs.declared.jars.Jars.{Jars}
use Rattle.mvn_base.specs.declared.gav.Gav.{Gav}

-- the jar of coordinates that have a POM, with a scope
abbrev pub jar_row : Gav → Scope → Resolved
jar_row gav scope = record {
  gav = gav;
  kind = codes "jar";
  classifier = [];
  scope = scope;
  pom_found = true;
}

-- the jar of coordinates, with each scope
pub record AreJars (gav : Gav) (jars : Jars) : Type 0 where
  pub compile : jars.compile ≡ jar_row gav Compile
  pub provided : jars.provided ≡ jar_row gav Provided
  pub runtime : jars.runtime ≡ jar_row gav Runtime
  pub test : jars.test ≡ jar_row gav Test
