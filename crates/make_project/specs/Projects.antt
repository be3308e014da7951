-- The files of the generated project, and those of the remote repository that it needs. Project rules; Maven's repository layout.
use Rattle.std.specs.Prelude.{ℕ, zero, suc, List, [], ◌∷◌, ◌++◌, flat_map, codes}
use Rattle.std.specs.Fmt.{decimal}
use Rattle.goal_types.specs.declared.goal.SourceFile.{SourceFile}
use Rattle.mvn_base.specs.declared.gav.Gav.{Gav}
use Rattle.mvn_base.specs.FileName.{file_name}
use Rattle.outside_mem.specs.declared.remote.MemFile.{MemFile}
use Rattle.make_project.specs.Poms.{base_pom, library, library_pom, module_name, module_pom, numbers, root_pom}

-- ---- the project

abbrev pub source_file : (path bytes : List ℕ) → SourceFile
source_file path bytes = record { path = path; bytes = bytes }

-- a module's POM, and its one source, which holds its number
abbrev pub pom_file : ℕ → SourceFile
pom_file number = source_file (module_name number ++ codes "/pom.xml") (module_pom number)

abbrev pub number_file : ℕ → SourceFile
number_file number = source_file (module_name number ++ codes "/src/main/java/A.txt") (decimal number)

abbrev pub module_files : ℕ → List SourceFile
module_files number = pom_file number ∷ number_file number ∷ []

-- the root's POM, and the files of the modules
abbrev pub project_files : (poms : ℕ) → List SourceFile
project_files poms = source_file (codes "pom.xml") (root_pom poms) ∷ flat_map module_files (numbers poms)

-- ---- the remote repository

abbrev pub external : (artifact : List ℕ) → Gav
external artifact = record { group = codes "ext"; artifact = artifact; version = codes "1.0" }

abbrev pub artifact_file : (artifact extension bytes : List ℕ) → MemFile
artifact_file artifact extension bytes = record { name = file_name (external artifact) [] extension; bytes = bytes }

-- a library's POM, and its jar of one byte `J`
abbrev pub artifact_files : (artifact pom : List ℕ) → List MemFile
artifact_files artifact pom = artifact_file artifact (codes "pom") pom ∷ artifact_file artifact (codes "jar") (codes "J") ∷ []

abbrev pub library_files : ℕ → List MemFile
library_files number = artifact_files (library number) (library_pom (library number))

-- the numbers below one, ascending
abbrev pub below : ℕ → List ℕ
below zero = []
below (suc n) = below n ++ n ∷ []

-- ten libraries, and the base on which each of them stands
abbrev pub remote_files : List MemFile
remote_files = flat_map library_files (below 10) ++ artifact_files (codes "base") base_pom
