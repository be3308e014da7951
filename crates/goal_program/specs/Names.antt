-- The name of a repository's file, read from its path: some valid coordinates, a classifier and an extension have it. Own rule.
use Rattle.std.specs.Prelude.{ℕ, Bool, ◌&&◌, ◌==◌, nat_eq, nat_lt, ◌-◌, List, [], ◌∷◌, ◌++◌, length, take, codes, Option, Some, None, option_and_then, if◌then◌else◌}
use Rattle.std.specs.List.{slice_split, slice_index_or, join_by}
use Rattle.std.specs.Cmp.Lexicographic.{pointwise}
use Rattle.mvn_base.specs.declared.gav.Gav.{Gav}
use Rattle.mvn_base.specs.FileName.{file_name, is_classifier}
use Rattle.mvn_base.specs.Names.{is_group, is_name, is_version}
use Rattle.goal_program.specs.Texts.{behind, cuts, first_some}

-- what stands before the extension, as a classifier: nothing, or a hyphen and the classifier
abbrev pub classifier_in : List ℕ → Option (List ℕ)
classifier_in [] = Some []
classifier_in (b ∷ more) = behind (codes "-") (b ∷ more)

-- the parts of a file's name are valid
unfoldable pub is_valid : Gav → List ℕ → List ℕ → Bool
is_valid gav classifier extension = is_group gav.group && is_name gav.artifact && is_version gav.version && is_classifier classifier && is_name extension

-- the file of these coordinates, classifier and extension, where they are valid and this is its path
unfoldable pub file_at : Gav → List ℕ → List ℕ → List ℕ → Option (List ℕ)
file_at gav classifier extension path = if is_valid gav classifier extension && pointwise nat_eq (file_name gav classifier extension) path then Some path else None

-- the step that stands so many before the end, counted from 1; empty where there is none
abbrev pub from_end : ℕ → List (List ℕ) → List ℕ
from_end back steps = if nat_lt (length steps) back then [] else slice_index_or steps (length steps - back) []

-- the group that the first steps name: those before the last three
abbrev pub group_by : List (List ℕ) → List ℕ
group_by steps = join_by (λ s. s) (codes ".") (take (length steps - 3) steps)

-- the coordinates that a path's steps name: a group's steps, an artifact, a version
abbrev pub gav_by : List (List ℕ) → Gav
gav_by steps = record { group = group_by steps; artifact = from_end 3 steps; version = from_end 2 steps }

-- the file of these coordinates whose name ends so, cut before its extension, where this is its path
abbrev pub file_cut : Gav → List ℕ → List ℕ × List ℕ → Option (List ℕ)
file_cut gav path end = option_and_then (λ classifier. file_at gav classifier end.1 path) (classifier_in end.0)

-- the file of these coordinates whose last step this is, where this is its path: the extension may begin behind any dot
abbrev pub file_behind : Gav → List ℕ → List ℕ → Option (List ℕ)
file_behind gav last path = option_and_then (λ end. first_some (file_cut gav path) (cuts 46 [] end)) (behind (gav.artifact ++ codes "-" ++ gav.version) last)

-- the file at a path of these steps
abbrev pub file_by : List (List ℕ) → List ℕ → Option (List ℕ)
file_by steps path = if nat_lt (length steps) 3 then None else file_behind (gav_by steps) (from_end 1 steps) path

-- the file at a path
unfoldable pub file_in : List ℕ → Option (List ℕ)
file_in path = file_by (slice_split (λ b. b == 47) path) path
