-- What a name of a repository's file says of a coordinate. Maven's repository layout.
use Rattle.std.specs.Prelude.{◌≡◌, ℕ, true, List}
use Rattle.mvn_base.specs.declared.gav.Gav.{Gav}
use Rattle.mvn_base.specs.FileName.{IsValid, file_name, is_classifier}
use Rattle.mvn_base.specs.Names.{is_name}

-- a name is that of one of a coordinate's files
pub record IsFileOf (gav : Gav) (name : List ℕ) : Type 0 where
  pub classifier : List ℕ
  pub extension : List ℕ
  pub coordinate : IsValid gav
  pub tag : is_classifier classifier ≡ true
  pub kind : is_name extension ≡ true
  pub named : name ≡ file_name gav classifier extension
