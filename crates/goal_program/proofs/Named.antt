-- What is read of a path is the name of a file of valid coordinates.
use Rattle.std.proofs.Common.{◌≡◌, ℕ, Bool, true, false, ◌&&◌, nat_eq, nat_lt, List, [], ◌∷◌, ◌++◌, length, codes, Option, Some, None, option_and_then, if◌then◌else◌, sym, ◌∙◌, refl}
use Rattle.std.specs.Option.{option_or}
use Rattle.std.specs.Cmp.Lexicographic.{pointwise}
use Rattle.std.proofs.lemmas.Slice.Eq.{bytes_eq-Decides}
use Rattle.mvn_base.specs.declared.gav.Gav.{Gav}
use Rattle.mvn_base.specs.FileName.{file_name, is_classifier}
use Rattle.mvn_base.specs.Names.{is_group, is_name, is_version}
use Rattle.mvn_base.specs.Apart.{IsFileOf}
use Rattle.mvn_base.proofs.Cuts.{and_left, and_right}
use Rattle.goal_program.specs.Names.{classifier_in, is_valid, file_at, file_cut, file_behind, file_by, file_in, gav_by, from_end}
use Rattle.goal_program.specs.Texts.{behind, cuts, first_some}
use Rattle.goal_program.proofs.LawSteps.{steps}

same : (path name : List ℕ) → Some path ≡ Some name → path ≡ name
same path name e = cc

-- a file of valid parts whose path this is
valid_file : (gav : Gav) (classifier extension path name : List ℕ) → is_valid gav classifier extension ≡ true → path ≡ name → file_name gav classifier extension ≡ path → IsFileOf gav name
unfolding is_valid
valid_file gav classifier extension path name valid is named =
    let three = is_group gav.group && is_name gav.artifact && is_version gav.version in
    let four = and_left (three && is_classifier classifier) (is_name extension) valid in
    let front = and_left three (is_classifier classifier) four in
    let two = and_left (is_group gav.group && is_name gav.artifact) (is_version gav.version) front in
    record {
      classifier = classifier;
      extension = extension;
      coordinate = record {
        group = and_left (is_group gav.group) (is_name gav.artifact) two;
        artifact = and_right (is_group gav.group) (is_name gav.artifact) two;
        version = and_right (is_group gav.group && is_name gav.artifact) (is_version gav.version) front;
      };
      tag = and_right three (is_classifier classifier) four;
      kind = and_right (three && is_classifier classifier) (is_name extension) valid;
      named = sym is ∙ sym named;
    }

at_named : (gav : Gav) (classifier extension path name : List ℕ) → file_at gav classifier extension path ≡ Some name → IsFileOf gav name
unfolding file_at
at_named gav classifier extension path name e = by (is_valid gav classifier extension) refl (pointwise nat_eq (file_name gav classifier extension) path) refl e
  where
    by : (a : Bool) → is_valid gav classifier extension ≡ a → (b : Bool) → pointwise nat_eq (file_name gav classifier extension) path ≡ b → (if a && b then Some path else None) ≡ Some name → IsFileOf gav name
    by true valid true equal f = valid_file gav classifier extension path name valid (same path name f) ((bytes_eq-Decides (file_name gav classifier extension) path).0 equal)
    by true valid false equal f = cc
    by false valid b equal f = cc

cut_named : (gav : Gav) (path : List ℕ) (end : List ℕ × List ℕ) (name : List ℕ) → file_cut gav path end ≡ Some name → IsFileOf gav name
cut_named gav path end name e = by (classifier_in end.0) e
  where
    by : (o : Option (List ℕ)) → option_and_then (λ classifier. file_at gav classifier end.1 path) o ≡ Some name → IsFileOf gav name
    by None f = cc
    by (Some classifier) f = at_named gav classifier end.1 path name f

first_named : (gav : Gav) (path : List ℕ) (ends : List (List ℕ × List ℕ)) (name : List ℕ) → first_some (file_cut gav path) ends ≡ Some name → IsFileOf gav name
first_named gav path [] name e = cc
first_named gav path (end ∷ ends) name e = by (file_cut gav path end) refl e (first_named gav path ends name)
  where
    by : (o : Option (List ℕ)) → file_cut gav path end ≡ o → option_or o (first_some (file_cut gav path) ends) ≡ Some name → (first_some (file_cut gav path) ends ≡ Some name → IsFileOf gav name) → IsFileOf gav name
    by None is f again = again f
    by (Some x) is f again = cut_named gav path end name (is ∙ f)

behind_named : (gav : Gav) (last path name : List ℕ) → file_behind gav last path ≡ Some name → IsFileOf gav name
behind_named gav last path name e = by (behind (gav.artifact ++ codes "-" ++ gav.version) last) e
  where
    by : (o : Option (List ℕ)) → option_and_then (λ end. first_some (file_cut gav path) (cuts 46 [] end)) o ≡ Some name → IsFileOf gav name
    by None f = cc
    by (Some end) f = first_named gav path (cuts 46 [] end) name f

by_named : (ss : List (List ℕ)) (path name : List ℕ) → file_by ss path ≡ Some name → IsFileOf (gav_by ss) name
by_named ss path name e = by (nat_lt (length ss) 3) e
  where
    by : (t : Bool) → (if t then None else file_behind (gav_by ss) (from_end 1 ss) path) ≡ Some name → IsFileOf (gav_by ss) name
    by true f = cc
    by false f = behind_named (gav_by ss) (from_end 1 ss) path name f

-- what is read is the name of a file of the coordinates that the path's steps name
pub file_is_named : (path name : List ℕ) → file_in path ≡ Some name → (gav : Gav) × IsFileOf gav name
unfolding file_in
file_is_named path name e = (gav_by (steps path), by_named (steps path) path name e)
