-- Whose a file is: what is fetched for a module, and what it is installed as.
use Rattle.std.proofs.Common.{◌≡◌, ◌⊎◌, inl, inr, ℕ, Bool, true, false, not, ◌&&◌, List, [], ◌∷◌, ◌++◌, codes, map, filter, flat_map, refl, sym, ap, subst, ◌∙◌, append_assoc, if◌then◌else◌}
use Rattle.std.specs.Str.{bytes_eq}
use Rattle.std.proofs.lemmas.Bool.{false≢true}
use Rattle.std.proofs.lemmas.List.{append_cancel_left}
use Rattle.std.proofs.lemmas.Slice.Eq.{bytes_eq-Decides}
use Rattle.mvn_base.specs.FileName.{IsValid, artifact_folder, classifier_part, file_name, is_classifier}
use Rattle.mvn_base.specs.Gav.{lock_name}
use Rattle.mvn_base.specs.Names.{is_group, is_name, is_name_byte, is_version}
use Rattle.mvn_base.specs.Types.{is_jar, type_rule}
use Rattle.mvn_base.specs.declared.gav.Gav.{Gav}
use Rattle.mvn_base.specs.Apart.{IsFileOf}
use Rattle.classpaths.specs.Classpaths.{HasNames, artifact_file, classifier_of, files_of, pom_file}
use Rattle.classpaths.specs.declared.resolution.Resolved.{Resolved}
use Rattle.classpaths.proofs.Valid.{classifier_named, extension_named}
use Rattle.model_types.specs.declared.model.Model.{Model}
use Rattle.module_plan.specs.Outputs.{attached, has_main, is_pom, main_extension, main_output, outputs}
use Rattle.module_plan.specs.Uses.{fetched_files, fetched_locks, has_names, is_selected, used_by, needs_path}
use Rattle.module_plan.specs.declared.selected.Output.{Output}
use Rattle.goal_types.specs.declared.goal.GoalCall.{GoalCall}
use Rattle.plan_law.proofs.Gavs.{left_of, right_of}
use Rattle.plan_law.proofs.Members.{Apart, IsIn, from_filter, from_flat, in_filter, in_flat, in_map}
use Rattle.plan_law.proofs.Texts.{from_fold, in_fold}

-- ---- what is fetched

names_of : (w : Resolved) → has_names w ≡ true → HasNames w
names_of w e =
    let a = is_group w.gav.group in
    let b = is_name w.gav.artifact in
    let c = is_version w.gav.version in
    let d = is_name w.kind in
    let k = is_classifier w.classifier in
    let one = right_of a (b && (c && (d && k))) e in
    let two = right_of b (c && (d && k)) one in
    let three = right_of c (d && k) two in
    record {
      gav = record { group = left_of a (b && (c && (d && k))) e; artifact = left_of b (c && (d && k)) one; version = left_of c (d && k) two };
      kind = left_of d k three;
      classifier = right_of d k three;
    }

-- a dependency that is used is one of the module's, with valid names
pub used_in : (calls : List GoalCall) (winners : List Resolved) (w : Resolved) → IsIn (used_by calls winners) w → IsIn winners w × HasNames w
used_in calls winners w = by (needs_path calls)
  where
    by : (b : Bool) → IsIn (if b then filter has_names winners else []) w → IsIn winners w × HasNames w
    by true h = let found = from_filter has_names winners w h in (found.0, names_of w found.1)
    by false h = absurd h

pom_is : is_name (codes "pom") ≡ true
unfolding is_name is_name_byte
pom_is = refl

pub of_pom : (gav : Gav) → IsValid gav → IsFileOf gav (pom_file gav)
of_pom gav valid = record { classifier = []; extension = codes "pom"; coordinate = valid; tag = refl; kind = pom_is; named = refl }

of_artifact : (w : Resolved) → HasNames w → IsFileOf w.gav (artifact_file w)
of_artifact w names = record {
  classifier = classifier_of w (type_rule w.kind);
  extension = (type_rule w.kind).extension;
  coordinate = names.gav;
  tag = classifier_named w names.classifier;
  kind = extension_named w.kind names.kind;
  named = refl;
}

-- where a name is fetched from: a dependency that is used and not built, of which it is a file
pub record IsFetched (built : List Gav) (winners : List Resolved) (name : List ℕ) : Type 0 where
  pub winner : Resolved
  pub inside : IsIn winners winner
  pub free : is_selected built winner.gav ≡ false
  pub among : IsIn (files_of (is_selected built) winner) name

pub fetched_from : (built : List Gav) (winners : List Resolved) (name : List ℕ) → IsIn (fetched_files built winners) name → IsFetched built winners name
fetched_from built winners name there = by (from_fold [] (flat_map (files_of (is_selected built)) winners) name there)
  where
    free_of : (w : Resolved) (b : Bool) → is_selected built w.gav ≡ b → IsIn (files_of (is_selected built) w) name → is_selected built w.gav ≡ false
    free_of w true e h = absurd (subst (λ b. IsIn (if b then [] else (if w.pom_found then pom_file w.gav ∷ artifact_file w ∷ [] else artifact_file w ∷ [])) name) e h)
    free_of w false e h = e

    by : IsIn [] name ⊎ IsIn (flat_map (files_of (is_selected built)) winners) name → IsFetched built winners name
    by (inl none) = absurd none
    by (inr h) = let found = from_flat (files_of (is_selected built)) winners name h in
        record { winner = found.0; inside = found.1; free = free_of found.0 (is_selected built found.0.gav) refl found.2; among = found.2 }

pub in_fetched : (built : List Gav) (winners : List Resolved) (w : Resolved) (name : List ℕ) → IsIn winners w → IsIn (files_of (is_selected built) w) name → IsIn (fetched_files built winners) name
in_fetched built winners w name there h = in_fold [] (flat_map (files_of (is_selected built)) winners) name (in_flat (files_of (is_selected built)) winners w name there h)

-- such a file is one of the dependency's
pub file_of_winner : (built : List Gav) (w : Resolved) (name : List ℕ) → HasNames w → IsIn (files_of (is_selected built) w) name → IsFileOf w.gav name
file_of_winner built w name names = by (is_selected built w.gav)
  where
    only : IsIn (artifact_file w ∷ []) name → IsFileOf w.gav name
    only (inl e) = subst (IsFileOf w.gav) e (of_artifact w names)
    only (inr h) = absurd h

    both : (b : Bool) → IsIn (if b then pom_file w.gav ∷ artifact_file w ∷ [] else artifact_file w ∷ []) name → IsFileOf w.gav name
    both true (inl e) = subst (IsFileOf w.gav) e (of_pom w.gav names.gav)
    both true (inr h) = only h
    both false h = only h

    by : (b : Bool) → IsIn (if b then [] else (if w.pom_found then pom_file w.gav ∷ artifact_file w ∷ [] else artifact_file w ∷ [])) name → IsFileOf w.gav name
    by true h = absurd h
    by false h = both w.pom_found h

-- its artifact is fetched
pub artifact_in : (built : List Gav) (w : Resolved) → is_selected built w.gav ≡ false → IsIn (files_of (is_selected built) w) (artifact_file w)
artifact_in built w free = subst (λ b. IsIn (if b then [] else (if w.pom_found then pom_file w.gav ∷ artifact_file w ∷ [] else artifact_file w ∷ [])) (artifact_file w)) (sym free) (by w.pom_found)
  where
    by : (b : Bool) → IsIn (if b then pom_file w.gav ∷ artifact_file w ∷ [] else artifact_file w ∷ []) (artifact_file w)
    by true = inr (inl refl)
    by false = inl refl

-- and its lock is among those that are fetched for
pub lock_in : (built : List Gav) (winners : List Resolved) (w : Resolved) → IsIn winners w → is_selected built w.gav ≡ false → IsIn (fetched_locks built winners) (lock_name w.gav)
lock_in built winners w there free =
    in_map (λ (w : Resolved). lock_name w.gav) (filter (λ (w : Resolved). not (is_selected built w.gav)) winners) w (in_filter (λ (w : Resolved). not (is_selected built w.gav)) winners w there (ap not free))

-- ---- what a module is installed as

of_name : (gav : Gav) (classifier extension : List ℕ) → IsValid gav → is_classifier classifier ≡ true → is_name extension ≡ true → IsFileOf gav (file_name gav classifier extension)
of_name gav classifier extension valid tag kind = record { classifier = classifier; extension = extension; coordinate = valid; tag = tag; kind = kind; named = refl }

jar_is : is_name (codes "jar") ≡ true
unfolding is_name is_name_byte
jar_is = refl

tests_is : is_classifier (codes "tests") ≡ true
unfolding is_name is_name_byte
tests_is = refl

sources_is : is_classifier (codes "sources") ≡ true
unfolding is_name is_name_byte
sources_is = refl

javadoc_is : is_classifier (codes "javadoc") ≡ true
unfolding is_name is_name_byte
javadoc_is = refl

attached_of : (gav : Gav) → IsValid gav → (o : Output) → IsIn (attached gav) o → IsFileOf gav o.name
attached_of gav valid o (inl e) = subst (λ (o : Output). IsFileOf gav o.name) e (of_name gav (codes "tests") (codes "jar") valid tests_is jar_is)
attached_of gav valid o (inr (inl e)) = subst (λ (o : Output). IsFileOf gav o.name) e (of_name gav (codes "sources") (codes "jar") valid sources_is jar_is)
attached_of gav valid o (inr (inr (inl e))) = subst (λ (o : Output). IsFileOf gav o.name) e (of_name gav (codes "javadoc") (codes "jar") valid javadoc_is jar_is)
attached_of gav valid o (inr (inr (inr none))) = absurd none

-- each is a file of the module's
pub output_of : (m : Model) → IsValid m.gav → (o : Output) → IsIn (outputs m) o → IsFileOf m.gav o.name
unfolding outputs
output_of m valid o (inl e) = subst (λ (o : Output). IsFileOf m.gav o.name) e (of_pom m.gav valid)
output_of m valid o (inr there) = by (has_main m) refl there
  where
    by : (b : Bool) → has_main m ≡ b → IsIn (if b then main_output m ∷ attached m.gav else attached m.gav) o → IsFileOf m.gav o.name
    by true e (inl same) = subst (λ (o : Output). IsFileOf m.gav o.name) same (of_name m.gav [] (main_extension m) valid refl (right_of (not (is_pom m)) (is_name (main_extension m)) e))
    by true e (inr h) = attached_of m.gav valid o h
    by false e h = attached_of m.gav valid o h

-- ---- they differ by what stands behind the version

abbrev front : Gav → List ℕ
front gav = artifact_folder gav.group gav.artifact ++ gav.version ++ 47 ∷ gav.artifact ++ 45 ∷ gav.version

abbrev rest : List ℕ → List ℕ → List ℕ
rest classifier extension = classifier_part classifier ++ 46 ∷ extension

laid : (gav : Gav) (c k : List ℕ) → file_name gav c k ≡ front gav ++ rest c k
unfolding file_name
laid gav c k = append_assoc (front gav) (classifier_part c) (46 ∷ k)

same_rest : (gav : Gav) (c k d l : List ℕ) → file_name gav c k ≡ file_name gav d l → rest c k ≡ rest d l
same_rest gav c k d l e = append_cancel_left (front gav) (rest c k) (rest d l) (sym (laid gav c k) ∙ e ∙ laid gav d l)

-- texts that a test tells apart
unlike : (a b : List ℕ) → bytes_eq a b ≡ false → a ≡ b → ⊥
unlike a b e same = false≢true (sym e ∙ (bytes_eq-Decides a b).1 same)

differ : (gav : Gav) (c k d l : List ℕ) → bytes_eq (rest c k) (rest d l) ≡ false → file_name gav c k ≡ file_name gav d l → ⊥
differ gav c k d l e same = unlike (rest c k) (rest d l) e (same_rest gav c k d l same)

abbrev pub name_of : Output → List ℕ
name_of o = o.name

attached_apart : (gav : Gav) → Apart (map name_of (attached gav))
attached_apart gav = (first, (second, ((λ none. none), record {})))
  where
    first : IsIn (file_name gav (codes "sources") (codes "jar") ∷ file_name gav (codes "javadoc") (codes "jar") ∷ []) (file_name gav (codes "tests") (codes "jar")) → ⊥
    first (inl e) = differ gav (codes "sources") (codes "jar") (codes "tests") (codes "jar") refl e
    first (inr (inl e)) = differ gav (codes "javadoc") (codes "jar") (codes "tests") (codes "jar") refl e
    first (inr (inr none)) = none

    second : IsIn (file_name gav (codes "javadoc") (codes "jar") ∷ []) (file_name gav (codes "sources") (codes "jar")) → ⊥
    second (inl e) = differ gav (codes "javadoc") (codes "jar") (codes "sources") (codes "jar") refl e
    second (inr none) = none

-- a file without a classifier is none of them
plain_apart : (gav : Gav) (k : List ℕ) → IsIn (map name_of (attached gav)) (file_name gav [] k) → ⊥
plain_apart gav k (inl e) = differ gav (codes "tests") (codes "jar") [] k refl e
plain_apart gav k (inr (inl e)) = differ gav (codes "sources") (codes "jar") [] k refl e
plain_apart gav k (inr (inr (inl e))) = differ gav (codes "javadoc") (codes "jar") [] k refl e
plain_apart gav k (inr (inr (inr none))) = none

-- the main file isn't the POM
extension_apart : (kind : List ℕ) → bytes_eq kind (codes "pom") ≡ false → (type_rule kind).extension ≡ codes "pom" → ⊥
unfolding type_rule
extension_apart kind other = by (is_jar kind)
  where
    by : (b : Bool) → (if b then codes "jar" else kind) ≡ codes "pom" → ⊥
    by true e = unlike (codes "jar") (codes "pom") refl e
    by false e = unlike kind (codes "pom") other e

abbrev tail_of : List ℕ → List ℕ
tail_of [] = []
tail_of (x ∷ text) = text

not_true : (b : Bool) → not b ≡ true → b ≡ false
not_true true e = absurd (false≢true e)
not_true false e = refl

main_apart : (m : Model) → has_main m ≡ true → file_name m.gav [] (main_extension m) ≡ pom_file m.gav → ⊥
main_apart m has e =
    extension_apart m.packaging (not_true (is_pom m) (left_of (not (is_pom m)) (is_name (main_extension m)) has)) (ap tail_of (same_rest m.gav [] (main_extension m) [] (codes "pom") e))

pub outputs_apart : (m : Model) → Apart (map name_of (outputs m))
unfolding outputs
outputs_apart m = by (has_main m) refl
  where
    by : (b : Bool) → has_main m ≡ b → Apart (pom_file m.gav ∷ map name_of (if b then main_output m ∷ attached m.gav else attached m.gav))
    by true e = (none, (plain_apart m.gav (main_extension m), attached_apart m.gav))
      where
        none : IsIn (map name_of (main_output m ∷ attached m.gav)) (pom_file m.gav) → ⊥
        none (inl same) = main_apart m e same
        none (inr h) = plain_apart m.gav (codes "pom") h
    by false e = (plain_apart m.gav (codes "pom"), attached_apart m.gav)
