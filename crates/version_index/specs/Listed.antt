-- Which versions a repository lists, and the index that a further one makes. Project rule.
use Rattle.std.specs.Prelude.{ℕ, List, Option, option_and_then, unwrap_or}
use Rattle.mvn_shared.specs.Files.{Files, file_at}
use Rattle.version_index.specs.Sets.{put_version, version_set}
use Rattle.version_index.specs.Texts.{read_index, version_lines}

-- the versions of a valid index, else those that were known at the start
abbrev pub listed_of : (found : Option (List ℕ)) → (start : List (List ℕ)) → List (List ℕ)
listed_of found start = unwrap_or (option_and_then read_index found) (version_set start)

-- the same of the file under a name
abbrev pub listed : Files → (name : List ℕ) → (start : List (List ℕ)) → List (List ℕ)
listed files name start = listed_of (file_at files name) start

-- the text of an index with a further version
abbrev pub entered_of : (found : Option (List ℕ)) → (start : List (List ℕ)) → (version : List ℕ) → List ℕ
entered_of found start version = version_lines (put_version (listed_of found start) version)

abbrev pub entered_text : Files → (name : List ℕ) → (start : List (List ℕ)) → (version : List ℕ) → List ℕ
entered_text files name start version = entered_of (file_at files name) start version
