use Rattle.classpaths.specs.declared.classpath.Kind.TheVariants.{Compile, Runtime}
use Rattle.classpaths.proofs.Parts.{is_part}
use Rattle.classpaths.proofs.law.test_has_all.Goals as goal

pub returns-clause-compile : goal.returns-clause-compile
returns-clause-compile c = is_part Compile

pub returns-clause-runtime : goal.returns-clause-runtime
returns-clause-runtime c = is_part Runtime
