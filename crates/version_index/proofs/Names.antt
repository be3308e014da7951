-- The names of index files and of their locks: each is of one library alone, and none is a name of an artifact.
use Rattle.std.proofs.Common.{◌≡◌, ℕ, true, not, ◌==◌, List, [], ◌∷◌, ◌++◌, map, codes, arith, refl, sym, ap, subst, ◌∙◌}
use Rattle.std.specs.declared.cmp.Ordering.TheVariants.{Less}
use Rattle.std.specs.Ordering.{nat_cmp}
use Rattle.std.specs.Cmp.Lexicographic.{slice_cmp}
use Rattle.std.proofs.lemmas.Grind.{common_steps}
use Rattle.std.proofs.lemmas.List.{append_cancel_left}
use Rattle.mvn_base.specs.declared.gav.Gav.{Gav}
use Rattle.mvn_base.specs.Apart.{IsFileOf}
use Rattle.mvn_base.specs.FileName.{IsValid, classifier_part, file_name, folder_byte, index_file, is_classifier}
use Rattle.mvn_base.specs.Gav.{lock_name}
use Rattle.mvn_base.specs.Names.{is_name, is_name_byte, is_version, is_version_byte}
use Rattle.mvn_base.proofs.CoordinateBytes.{classifier_lacks_slash, name_lacks_colon, name_lacks_slash, version_lacks_slash}
use Rattle.mvn_base.proofs.Coordinates.{one_of_a_file}
use Rattle.mvn_base.proofs.Cuts.{Lacks, cut_last, lacks_both, lacks_failing}
use Rattle.version_index.specs.Names.{IsLibrary, index_lock}

-- the last step of an index file's name
abbrev step : List ℕ
step = codes "versions.index"

-- it has no `/` and no `-`
step_is_name : is_name step ≡ true
unfolding is_name is_name_byte
step_is_name = refl

step_lacks_hyphen : Lacks 45 step
step_lacks_hyphen = lacks_failing 45 (λ b. not (b == 45)) refl step refl

one_is_version : is_version (codes "1") ≡ true
unfolding is_version is_version_byte
one_is_version = refl

-- what stands before the last `/` of an index file's name
abbrev front : List ℕ → List ℕ → List ℕ
front group artifact = map folder_byte group ++ 47 ∷ artifact

laid : (group artifact : List ℕ) → index_file group artifact ≡ front group artifact ++ 47 ∷ step
laid group artifact = grind (arith, common_steps)

-- the coordinate of a version of a library
abbrev gav_of : List ℕ → List ℕ → Gav
gav_of group artifact = record { group = group; artifact = artifact; version = codes "1" }

valid_of : (group artifact : List ℕ) → IsLibrary group artifact → IsValid (gav_of group artifact)
valid_of group artifact is = record { group = is.group_valid; artifact = is.artifact_valid; version = one_is_version }

-- the name of that version's POM, by what stands before it
pom : List ℕ → List ℕ → List ℕ
pom before artifact = before ++ 47 ∷ codes "1" ++ 47 ∷ artifact ++ 45 ∷ codes "1" ++ 46 ∷ codes "pom"

pom_laid : (group artifact : List ℕ) → file_name (gav_of group artifact) [] (codes "pom") ≡ pom (front group artifact) artifact
unfolding file_name pom
pom_laid group artifact = grind (arith, common_steps)

pom_is_name : is_name (codes "pom") ≡ true
unfolding is_name is_name_byte
pom_is_name = refl

file_of : (group artifact : List ℕ) → IsLibrary group artifact → IsFileOf (gav_of group artifact) (file_name (gav_of group artifact) [] (codes "pom"))
file_of group artifact is = record { classifier = []; extension = codes "pom"; coordinate = valid_of group artifact is; tag = refl; kind = pom_is_name; named = refl }

-- an index file is of one library
pub one_of_an_index : (g a h b : List ℕ) → IsLibrary g a → IsLibrary h b → index_file g a ≡ index_file h b → (g ≡ h) × (a ≡ b)
one_of_an_index g a h b one other e = (ap (λ (gav : Gav). gav.group) same, artifacts)
  where
    before : front g a ≡ front h b
    before = (cut_last 47 (front g a) (front h b) step step (name_lacks_slash step step_is_name) (name_lacks_slash step step_is_name) (sym (laid g a) ∙ e ∙ laid h b)).0

    artifacts : a ≡ b
    artifacts = (cut_last 47 (map folder_byte g) (map folder_byte h) a b (name_lacks_slash a one.artifact_valid) (name_lacks_slash b other.artifact_valid) before).1

    poms : file_name (gav_of g a) [] (codes "pom") ≡ file_name (gav_of h b) [] (codes "pom")
    poms = pom_laid g a ∙ ap (λ f. pom f a) before ∙ ap (pom (front h b)) artifacts ∙ sym (pom_laid h b)

    same : gav_of g a ≡ gav_of h b
    same = one_of_a_file (file_name (gav_of g a) [] (codes "pom")) (gav_of g a) (gav_of h b) (file_of g a one)
        (subst (IsFileOf (gav_of h b)) (sym poms) (file_of h b other))

-- and so is its lock
pub one_of_a_lock : (g a h b : List ℕ) → IsLibrary g a → IsLibrary h b → index_lock g a ≡ index_lock h b → (g ≡ h) × (a ≡ b)
one_of_a_lock g a h b one other e =
    cut_last 58 g h a b (name_lacks_colon a one.artifact_valid) (name_lacks_colon b other.artifact_valid)
    (append_cancel_left (codes "metadata:") (g ++ 58 ∷ a) (h ++ 58 ∷ b) (sym (apart g a) ∙ e ∙ apart h b))
  where
    apart : (g a : List ℕ) → index_lock g a ≡ codes "metadata:" ++ (g ++ 58 ∷ a)
    apart g a = grind (arith, common_steps)

-- the last step of an artifact's file
abbrev last_step : Gav → List ℕ → List ℕ → List ℕ
last_step gav classifier extension = gav.artifact ++ 45 ∷ gav.version ++ classifier_part classifier ++ 46 ∷ extension

-- a text with a hyphen in it is no index file's step
has_hyphen : (one rest : List ℕ) → Lacks 45 (one ++ 45 ∷ rest) → ⊥
has_hyphen [] rest lacks = lacks.0 refl
has_hyphen (x ∷ one) rest lacks = has_hyphen one rest lacks.1

last_lacks_slash : (gav : Gav) (classifier extension : List ℕ) → IsValid gav → is_classifier classifier ≡ true → is_name extension ≡ true → Lacks 47 (last_step gav classifier extension)
last_lacks_slash gav classifier extension valid tag kind =
    lacks_both 47 (gav.artifact ++ 45 ∷ gav.version ++ classifier_part classifier) (46 ∷ extension)
    (lacks_both 47 (gav.artifact ++ 45 ∷ gav.version) (classifier_part classifier)
    (lacks_both 47 gav.artifact (45 ∷ gav.version) (name_lacks_slash gav.artifact valid.artifact) (hyphen, version_lacks_slash gav.version valid.version))
    (classifier_lacks_slash classifier tag))
    (dot, name_lacks_slash extension kind)
  where
    hyphen : (◌≡◌ {A = ℕ} 45 47) → ⊥
    hyphen e = omega (arith, e)

    dot : (◌≡◌ {A = ℕ} 46 47) → ⊥
    dot e = omega (arith, e)

-- what stands before it
abbrev folders : Gav → List ℕ
folders gav = map folder_byte gav.group ++ 47 ∷ gav.artifact ++ 47 ∷ gav.version

artifact_laid : (gav : Gav) (classifier extension : List ℕ) → file_name gav classifier extension ≡ folders gav ++ 47 ∷ last_step gav classifier extension
unfolding file_name
artifact_laid gav classifier extension = grind (arith, common_steps)

-- an index file is no artifact's
pub no_artifact : (gav : Gav) (name g a : List ℕ) → IsFileOf gav name → name ≡ index_file g a → ⊥
no_artifact gav name g a file e = has_hyphen gav.artifact (gav.version ++ classifier_part file.classifier ++ 46 ∷ file.extension)
    (subst (Lacks 45) (sym step_is ∙ spread) step_lacks_hyphen)
  where
    step_is : last_step gav file.classifier file.extension ≡ step
    step_is = (cut_last 47 (folders gav) (front g a) (last_step gav file.classifier file.extension) step
        (last_lacks_slash gav file.classifier file.extension file.coordinate file.tag file.kind) (name_lacks_slash step step_is_name)
        (sym (artifact_laid gav file.classifier file.extension) ∙ sym file.named ∙ e ∙ laid g a)).1

    spread : last_step gav file.classifier file.extension ≡ gav.artifact ++ 45 ∷ (gav.version ++ classifier_part file.classifier ++ 46 ∷ file.extension)
    spread = grind (arith, common_steps)

-- an index's lock is above each lock of an artifact
pub above_artifacts : (gav : Gav) (g a : List ℕ) → slice_cmp nat_cmp (lock_name gav) (index_lock g a) ≡ Less
above_artifacts gav g a = refl
