-- One name is of one coordinate.
use Rattle.std.proofs.Common.{◌≡◌, ℕ, Bool, true, false, ◌==◌, List, [], ◌∷◌, ◌++◌, map, codes, ◌≢◌, length, arith, refl, sym, ap, ◌∙◌, append_assoc, if◌then◌else◌}
use Rattle.std.proofs.lemmas.Bool.Decides.{nat_tests}
use Rattle.std.proofs.lemmas.Grind.{common_steps}
use Rattle.std.proofs.lemmas.List.{append_cancel_left}
use Rattle.mvn_base.specs.declared.gav.Gav.{Gav}
use Rattle.mvn_base.specs.FileName.{IsValid, artifact_folder, classifier_part, file_name, folder_byte, is_classifier}
use Rattle.mvn_base.specs.Gav.{gav_text, lock_name}
use Rattle.mvn_base.specs.Names.{is_name}
use Rattle.mvn_base.specs.Apart.{IsFileOf}
use Rattle.mvn_base.proofs.Cuts.{Lacks, cut_last, head_of, lacks_both, longer, tail_of}
use Rattle.mvn_base.proofs.CoordinateBytes.{classifier_lacks_slash, group_is_name, name_lacks_colon, name_lacks_slash, version_lacks_colon, version_lacks_slash}

-- three equal parts make an equal coordinate
same_parts : (one other : Gav) → one.group ≡ other.group → one.artifact ≡ other.artifact → one.version ≡ other.version → one ≡ other
same_parts one other g a v = λ i. record { group = g i; artifact = a i; version = v i }

-- what stands behind the last `/` of a file's name
abbrev last_step : Gav → List ℕ → List ℕ → List ℕ
last_step gav classifier extension = gav.artifact ++ 45 ∷ gav.version ++ classifier_part classifier ++ 46 ∷ extension

step_lacks_slash : (gav : Gav) (classifier extension : List ℕ) → IsValid gav → is_classifier classifier ≡ true → is_name extension ≡ true → Lacks 47 (last_step gav classifier extension)
step_lacks_slash gav classifier extension valid tag kind =
    lacks_both 47 (gav.artifact ++ 45 ∷ gav.version ++ classifier_part classifier) (46 ∷ extension)
    (lacks_both 47 (gav.artifact ++ 45 ∷ gav.version) (classifier_part classifier)
    (lacks_both 47 gav.artifact (45 ∷ gav.version) (name_lacks_slash gav.artifact valid.artifact) (hyphen, version_lacks_slash gav.version valid.version))
    (classifier_lacks_slash classifier tag))
    (dot, name_lacks_slash extension kind)
  where
    hyphen : (◌≡◌ {A = ℕ} 45 47) → ⊥
    hyphen e = omega (arith, e)

    dot : (◌≡◌ {A = ℕ} 46 47) → ⊥
    dot e = omega (arith, e)

-- a group's byte that isn't a `/` is known by its folder's byte
same_byte : (x y : ℕ) → (x ≢ 47) → (y ≢ 47) → folder_byte x ≡ folder_byte y → x ≡ y
same_byte x y p q e = by (x == 46) (y == 46) refl refl
  where
    by : (a b : Bool) → (x == 46) ≡ a → (y == 46) ≡ b → x ≡ y
    by true true s t = grind (arith, nat_tests, s, t)
    by true false s t = absurd (q (sym (ap (λ b. if b then 47 else y) t) ∙ sym e ∙ ap (λ b. if b then 47 else x) s))
    by false true s t = absurd (p (sym (ap (λ b. if b then 47 else x) s) ∙ e ∙ ap (λ b. if b then 47 else y) t))
    by false false s t = sym (ap (λ b. if b then 47 else x) s) ∙ e ∙ ap (λ b. if b then 47 else y) t

-- folders of groups tell the groups, which have no `/` of their own
same_group : (one other : List ℕ) → Lacks 47 one → Lacks 47 other → map folder_byte one ≡ map folder_byte other → one ≡ other
same_group [] [] p q e = refl
same_group [] (y ∷ other) p q e = absurd (empty_full e)
  where
    empty_full : [] ≡ folder_byte y ∷ map folder_byte other → ⊥
    empty_full e = omega (arith, ap length e)
same_group (x ∷ one) [] p q e = absurd (full_empty e)
  where
    full_empty : folder_byte x ∷ map folder_byte one ≡ [] → ⊥
    full_empty e = omega (arith, ap length e)
same_group (x ∷ one) (y ∷ other) p q e =
    longer x y one other (same_byte x y p.0 q.0 (ap head_of e)) (same_group one other p.1 q.1 (ap tail_of e))

-- what a name says, cut at its last three `/`
file_parts : (one other : Gav) (a b x y : List ℕ) → IsValid one → IsValid other → Lacks 47 (last_step one a x) → Lacks 47 (last_step other b y)
    → file_name one a x ≡ file_name other b y → one ≡ other
unfolding file_name
file_parts one other a b x y v w p q e =
    let third = cut_last 47 (front one) (front other) (last_step one a x) (last_step other b y) p q (sym (laid one a x) ∙ e ∙ laid other b y) in
    let second = cut_last 47 (folders one) (folders other) one.version other.version
    (version_lacks_slash one.version v.version) (version_lacks_slash other.version w.version) third.0 in
    let first = cut_last 47 (map folder_byte one.group) (map folder_byte other.group) one.artifact other.artifact
    (name_lacks_slash one.artifact v.artifact) (name_lacks_slash other.artifact w.artifact) second.0 in
    same_parts one other
    (same_group one.group other.group (name_lacks_slash one.group (group_is_name one.group v.group)) (name_lacks_slash other.group (group_is_name other.group w.group)) first.0)
    first.1 second.1
  where
    folders : Gav → List ℕ
    folders gav = map folder_byte gav.group ++ 47 ∷ gav.artifact

    front : Gav → List ℕ
    front gav = folders gav ++ 47 ∷ gav.version

    laid : (gav : Gav) (c k : List ℕ) → file_name gav c k ≡ front gav ++ 47 ∷ last_step gav c k
    laid gav c k = grind (arith, common_steps)

pub one_of_a_file : (name : List ℕ) (one other : Gav) → IsFileOf one name → IsFileOf other name → one ≡ other
one_of_a_file name one other p q =
    file_parts one other p.classifier q.classifier p.extension q.extension p.coordinate q.coordinate
    (step_lacks_slash one p.classifier p.extension p.coordinate p.tag p.kind) (step_lacks_slash other q.classifier q.extension q.coordinate q.tag q.kind)
    (sym p.named ∙ q.named)

pub one_of_a_lock : (one other : Gav) → IsValid one → IsValid other → lock_name one ≡ lock_name other → one ≡ other
unfolding gav_text
one_of_a_lock one other v w e =
    let whole = append_cancel_left (codes "artifact:") (gav_text one) (gav_text other) e in
    let last = cut_last 58 (one.group ++ 58 ∷ one.artifact) (other.group ++ 58 ∷ other.artifact) one.version other.version
    (version_lacks_colon one.version v.version) (version_lacks_colon other.version w.version) whole in
    let first = cut_last 58 one.group other.group one.artifact other.artifact
    (name_lacks_colon one.artifact v.artifact) (name_lacks_colon other.artifact w.artifact) last.0 in
    same_parts one other first.0 first.1 last.1
