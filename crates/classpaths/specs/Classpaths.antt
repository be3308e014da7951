-- What is on a project's classpaths, and which files are fetched for it. Introduction to the Dependency Mechanism,
-- "Dependency Scope"; POM Reference, "Dependencies"; Maven's repository layout.
use Rattle.std.specs.Prelude.{◌≡◌, ℕ, ◌+◌, Bool, true, false, ◌&&◌, List, [], ◌∷◌, ◌++◌, codes, flat_map, fold, map, if◌then◌else◌}
use Rattle.std.specs.List.{list_any}
use Rattle.std.specs.Str.{bytes_eq}
use Rattle.collector.specs.declared.scope.Scope.{Scope}
use Rattle.collector.specs.declared.scope.Scope.TheVariants as scopes
use Rattle.mvn_base.specs.FileName.{IsValid, file_name, is_classifier}
use Rattle.mvn_base.specs.Names.{is_filled, is_name}
use Rattle.mvn_base.specs.Types.{type_rule}
use Rattle.mvn_base.specs.declared.gav.Gav.{Gav}
use Rattle.mvn_base.specs.declared.type_rule.TypeRule.{TypeRule}
use Rattle.classpaths.specs.declared.classpath.Kind.{Kind}
use Rattle.classpaths.specs.declared.classpath.Kind.TheVariants as kinds
use Rattle.classpaths.specs.declared.resolution.Resolved.{Resolved}

-- the scopes of a classpath: compile and provided, compile and runtime, or all
abbrev pub has_scope : Kind → Scope → Bool
has_scope kinds.Compile scopes.Compile = true
has_scope kinds.Compile scopes.Provided = true
has_scope kinds.Compile scopes.Runtime = false
has_scope kinds.Compile scopes.Test = false
has_scope kinds.Runtime scopes.Compile = true
has_scope kinds.Runtime scopes.Provided = false
has_scope kinds.Runtime scopes.Runtime = true
has_scope kinds.Runtime scopes.Test = false
has_scope kinds.Test scope = true

-- a winner is on a classpath that has its scope, if classes are loaded from its type
abbrev pub is_on : Kind → Resolved → Bool
is_on kind w = has_scope kind w.scope && (type_rule w.kind).on_classpath

-- the places of those that pass a test
abbrev pub places_from : (Resolved → Bool) → ℕ → List Resolved → List ℕ
places_from test at [] = []
places_from test at (w ∷ winners) =
    if test w then at ∷ places_from test (at + 1) winners else places_from test (at + 1) winners

abbrev pub classpath : Kind → List Resolved → List ℕ
classpath kind winners = places_from (is_on kind) 0 winners

-- the names of a winner are valid
pub record HasNames (w : Resolved) : Type 0 where
  pub gav : IsValid w.gav
  pub kind : is_name w.kind ≡ true
  pub classifier : is_classifier w.classifier ≡ true

-- its POM's file, and its artifact's: the classifier is the declared one, or else its type's
abbrev pub pom_file : Gav → List ℕ
pom_file gav = file_name gav [] (codes "pom")

abbrev pub classifier_of : Resolved → TypeRule → List ℕ
classifier_of w rule = if is_filled w.classifier then w.classifier else rule.classifier

abbrev pub artifact_file : Resolved → List ℕ
artifact_file w =
    file_name w.gav (classifier_of w (type_rule w.kind)) (type_rule w.kind).extension

-- the files of a winner, unless it is selected
abbrev pub files_of : (Gav → Bool) → Resolved → List (List ℕ)
files_of is_selected w =
    if is_selected w.gav then []
    else (if w.pom_found then pom_file w.gav ∷ artifact_file w ∷ [] else artifact_file w ∷ [])

-- one name more, unless it is there
abbrev pub with_name : List (List ℕ) → List ℕ → List (List ℕ)
with_name names name = if list_any (bytes_eq name) names then names else names ++ name ∷ []

-- the files of all winners that aren't selected, each once
abbrev pub fetch_list : (Gav → Bool) → List Resolved → List (List ℕ)
fetch_list is_selected winners = fold with_name [] (flat_map (files_of is_selected) winners)

-- What follows is said of the search alone.

-- names under themselves
abbrev pub twice : List (List ℕ) → List (List ℕ × List ℕ)
twice names = map (λ name. (name, name)) names
