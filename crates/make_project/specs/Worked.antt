-- Projects that are worked out by hand, which the checker computes.
use Rattle.std.specs.Prelude.{◌≡◌, [], ◌∷◌, length, codes}
use Rattle.std.proofs.Common.{refl}
use Rattle.std.specs.Fmt.{digits}
use Rattle.make_project.specs.Poms.{element, module_pom, root_pom}
use Rattle.make_project.specs.Projects.{project_files, remote_files, source_file}

-- a root alone has no modules
one_pom : project_files 1 ≡ source_file (codes "pom.xml") (codes "<project><modelVersion>4.0.0</modelVersion><groupId>gen</groupId><artifactId>root</artifactId><version>1.0</version><packaging>pom</packaging></project>") ∷ []
unfolding root_pom element
one_pom = refl

-- the fifth module stands on the second, and on the library of its depth
fifth : module_pom 5 ≡ codes "<project><modelVersion>4.0.0</modelVersion><parent><groupId>gen</groupId><artifactId>root</artifactId><version>1.0</version></parent><artifactId>m5</artifactId><dependencies><dependency><groupId>gen</groupId><artifactId>m2</artifactId><version>1.0</version></dependency><dependency><groupId>ext</groupId><artifactId>lib2</artifactId><version>1.0</version></dependency></dependencies></project>"
unfolding module_pom element digits
fifth = refl

-- ten libraries and the base have a POM and a jar each
remote_of_22 : length remote_files ≡ 22
remote_of_22 = refl
