-- The steps of the path of a file of valid coordinates.
use Rattle.std.proofs.Common.{◌≡◌, ◌≢◌, ℕ, suc, ◌+◌, ◌-◌, ◌<◌, ◌==◌, Bool, true, false, cond, nat_lt, List, [], ◌∷◌, ◌++◌, length, length-append, take, map, codes, if◌then◌else◌, refl, sym, ap, ◌∙◌, append_assoc, arith}
use Rattle.std.specs.List.{slice_split, slice_index_or, join_by, onto_first}
use Rattle.std.proofs.lemmas.Bool.Decides.{nat_tests}
use Rattle.std.proofs.lemmas.List.Splits.{length-slice_split}
use Rattle.mvn_base.specs.declared.gav.Gav.{Gav}
use Rattle.mvn_base.specs.FileName.{IsValid, classifier_part, file_name, folder_byte, is_classifier}
use Rattle.mvn_base.specs.Names.{is_dot, is_name}
use Rattle.mvn_base.proofs.CoordinateBytes.{classifier_lacks_slash, group_is_name, name_lacks_slash, version_lacks_slash}
use Rattle.mvn_base.proofs.Cuts.{Lacks, lacks_both}
use Rattle.goal_program.specs.Names.{from_end, group_by, gav_by}

-- the steps of a path
abbrev pub steps : List ℕ → List (List ℕ)
steps path = slice_split (λ b. b == 47) path

abbrev parts : List ℕ → List (List ℕ)
parts group = slice_split is_dot group

other : (x b : ℕ) → (x ≢ b) → (x == b) ≡ false
other x b apart = by (x == b) refl
  where
    by : (t : Bool) → (x == b) ≡ t → t ≡ false
    by true t = let same : x ≡ b = grind (arith, nat_tests, t) in absurd (apart same)
    by false t = refl

-- a text without `/` is one step, also before a `/`
one_step : (text : List ℕ) → Lacks 47 text → steps text ≡ text ∷ []
one_step [] lacks = refl
one_step (x ∷ text) lacks = ap (λ c. cond c ([] ∷ steps text) (onto_first x (steps text))) (other x 47 lacks.0) ∙ ap (onto_first x) (one_step text lacks.1)

first_step : (text rest : List ℕ) → Lacks 47 text → steps (text ++ 47 ∷ rest) ≡ text ∷ steps rest
first_step [] rest lacks = refl
first_step (x ∷ text) rest lacks =
    ap (λ c. cond c ([] ∷ steps (text ++ 47 ∷ rest)) (onto_first x (steps (text ++ 47 ∷ rest)))) (other x 47 lacks.0) ∙ ap (onto_first x) (first_step text rest lacks.1)

some_parts : (group : List ℕ) → 0 < length (parts group)
some_parts group = omega (arith, length-slice_split is_dot group)

onto_both : (b : ℕ) (xs ys : List (List ℕ)) → 0 < length xs → onto_first b (xs ++ ys) ≡ onto_first b xs ++ ys
onto_both b [] ys some = absurd (omega (arith, some))
onto_both b (x ∷ xs) ys some = refl

-- the steps of a group's folder are the group's parts
group_steps : (group rest : List ℕ) → Lacks 47 group → steps (map folder_byte group ++ 47 ∷ rest) ≡ parts group ++ steps rest
group_steps [] rest lacks = refl
group_steps (b ∷ group) rest lacks = by (b == 46) refl (group_steps group rest lacks.1)
  where
    more : List ℕ
    more = map folder_byte group ++ 47 ∷ rest

    by : (t : Bool) → (b == 46) ≡ t → steps (map folder_byte group ++ 47 ∷ rest) ≡ parts group ++ steps rest → steps (folder_byte b ∷ more) ≡ parts (b ∷ group) ++ steps rest
    by true t again =
        let folder : folder_byte b ≡ 47 = ap (λ z. if z then 47 else b) t in
        ap (λ x. steps (x ∷ more)) folder ∙ ap (λ s. [] ∷ s) again ∙ sym (ap (λ z. cond z ([] ∷ parts group) (onto_first b (parts group)) ++ steps rest) t)
    by false t again =
        let folder : folder_byte b ≡ b = ap (λ z. if z then 47 else b) t in
        ap (λ x. steps (x ∷ more)) folder ∙ ap (λ z. cond z ([] ∷ steps more) (onto_first b (steps more))) (other b 47 lacks.0) ∙ ap (onto_first b) again
        ∙ onto_both b (parts group) (steps rest) (some_parts group) ∙ sym (ap (λ z. cond z ([] ∷ parts group) (onto_first b (parts group)) ++ steps rest) t)

abbrev joined : List (List ℕ) → List ℕ
joined xs = join_by (λ s. s) (codes ".") xs

join_dot : (xs : List (List ℕ)) → 0 < length xs → joined ([] ∷ xs) ≡ 46 ∷ joined xs
join_dot [] some = absurd (omega (arith, some))
join_dot (x ∷ xs) some = refl

join_onto : (b : ℕ) (xs : List (List ℕ)) → 0 < length xs → joined (onto_first b xs) ≡ b ∷ joined xs
join_onto b [] some = absurd (omega (arith, some))
join_onto b (x ∷ xs) some = refl

-- the parts of a group, joined, are the group
group_again : (group : List ℕ) → joined (parts group) ≡ group
group_again [] = refl
group_again (b ∷ group) = by (b == 46) refl (group_again group)
  where
    by : (t : Bool) → (b == 46) ≡ t → joined (parts group) ≡ group → joined (parts (b ∷ group)) ≡ b ∷ group
    by true t again =
        let same : b ≡ 46 = grind (arith, nat_tests, t) in
        ap (λ z. joined (cond z ([] ∷ parts group) (onto_first b (parts group)))) t ∙ join_dot (parts group) (some_parts group) ∙ ap (λ g. 46 ∷ g) again ∙ ap (λ x. x ∷ group) (sym same)
    by false t again =
        ap (λ z. joined (cond z ([] ∷ parts group) (onto_first b (parts group)))) t ∙ join_onto b (parts group) (some_parts group) ∙ ap (λ g. b ∷ g) again

-- what stands behind the last `/` of a file's path
abbrev pub last_step : Gav → List ℕ → List ℕ → List ℕ
last_step gav classifier extension = gav.artifact ++ 45 ∷ (gav.version ++ (classifier_part classifier ++ 46 ∷ extension))

last_lacks : (gav : Gav) (classifier extension : List ℕ) → IsValid gav → is_classifier classifier ≡ true → is_name extension ≡ true → Lacks 47 (last_step gav classifier extension)
last_lacks gav classifier extension valid tag kind =
    lacks_both 47 gav.artifact (45 ∷ (gav.version ++ (classifier_part classifier ++ 46 ∷ extension))) (name_lacks_slash gav.artifact valid.artifact) (
      hyphen,
      lacks_both 47 gav.version (classifier_part classifier ++ 46 ∷ extension) (version_lacks_slash gav.version valid.version)
          (lacks_both 47 (classifier_part classifier) (46 ∷ extension) (classifier_lacks_slash classifier tag) (dot, name_lacks_slash extension kind)),
    )
  where
    hyphen : (◌≡◌ {A = ℕ} 45 47) → ⊥
    hyphen e = omega (arith, e)

    dot : (◌≡◌ {A = ℕ} 46 47) → ⊥
    dot e = omega (arith, e)

-- an artifact, a version and a file behind the parts of a group
abbrev pub stepped : Gav → List ℕ → List (List ℕ)
stepped gav last = parts gav.group ++ (gav.artifact ∷ gav.version ∷ last ∷ [])

name_cut : (gav : Gav) (classifier extension : List ℕ) → file_name gav classifier extension ≡ map folder_byte gav.group ++ 47 ∷ (gav.artifact ++ 47 ∷ (gav.version ++ 47 ∷ last_step gav classifier extension))
unfolding file_name
name_cut gav classifier extension =
    let m = map folder_byte gav.group in
    let a = gav.artifact in
    let v = gav.version in
    let one = classifier_part classifier ++ 46 ∷ extension in
    let two = 45 ∷ (v ++ one) in
    let three = 47 ∷ (a ++ two) in
    let folder = (m ++ 47 ∷ a) ++ 47 ∷ [] in
    append_assoc (((folder ++ v) ++ 47 ∷ a) ++ 45 ∷ v) (classifier_part classifier) (46 ∷ extension) ∙ append_assoc ((folder ++ v) ++ 47 ∷ a) (45 ∷ v) one ∙ append_assoc (folder ++ v) (47 ∷ a) two
    ∙ append_assoc folder v three ∙ append_assoc (m ++ 47 ∷ a) (47 ∷ []) (v ++ three) ∙ append_assoc m (47 ∷ a) (47 ∷ (v ++ three))

-- the steps of a file's path
pub file_steps : (gav : Gav) (classifier extension : List ℕ) → IsValid gav → is_classifier classifier ≡ true → is_name extension ≡ true
    → steps (file_name gav classifier extension) ≡ stepped gav (last_step gav classifier extension)
file_steps gav classifier extension valid tag kind =
    let last = last_step gav classifier extension in
    ap steps (name_cut gav classifier extension)
    ∙ group_steps gav.group (gav.artifact ++ 47 ∷ (gav.version ++ 47 ∷ last)) (name_lacks_slash gav.group (group_is_name gav.group valid.group))
    ∙ ap (λ s. parts gav.group ++ s) (first_step gav.artifact (gav.version ++ 47 ∷ last) (name_lacks_slash gav.artifact valid.artifact)
    ∙ ap (λ s. gav.artifact ∷ s) (first_step gav.version last (version_lacks_slash gav.version valid.version)
    ∙ ap (λ s. gav.version ∷ s) (one_step last (last_lacks gav classifier extension valid tag kind))))

-- the last three of some steps, and those before them
third : (front : List (List ℕ)) (a v l : List ℕ) → slice_index_or (front ++ (a ∷ v ∷ l ∷ [])) (length front) [] ≡ a
third [] a v l = refl
third (x ∷ front) a v l = third front a v l

second : (front : List (List ℕ)) (a v l : List ℕ) → slice_index_or (front ++ (a ∷ v ∷ l ∷ [])) (suc (length front)) [] ≡ v
second [] a v l = refl
second (x ∷ front) a v l = second front a v l

last_one : (front : List (List ℕ)) (a v l : List ℕ) → slice_index_or (front ++ (a ∷ v ∷ l ∷ [])) (suc (suc (length front))) [] ≡ l
last_one [] a v l = refl
last_one (x ∷ front) a v l = last_one front a v l

front_of : (front rest : List (List ℕ)) → take (length front) (front ++ rest) ≡ front
front_of [] rest = refl
front_of (x ∷ front) rest = ap (λ xs. x ∷ xs) (front_of front rest)

-- there are three steps and those of the group
pub step_count : (gav : Gav) (last : List ℕ) → length (stepped gav last) ≡ length (parts gav.group) + 3
step_count gav last = length-append (parts gav.group) (gav.artifact ∷ gav.version ∷ last ∷ [])

at_end : (gav : Gav) (last : List ℕ) (back at : ℕ) (step : List ℕ) → (nat_lt (length (stepped gav last)) back ≡ false) → (length (stepped gav last) - back ≡ at) → slice_index_or (stepped gav last) at [] ≡ step → from_end back (stepped gav last) ≡ step
at_end gav last back at step test place is =
    ap (λ z. if z then [] else slice_index_or (stepped gav last) (length (stepped gav last) - back) []) test ∙ ap (λ k. slice_index_or (stepped gav last) k []) place ∙ is

pub last_is : (gav : Gav) (last : List ℕ) → from_end 1 (stepped gav last) ≡ last
last_is gav last =
    let n = step_count gav last in
    let test : nat_lt (length (stepped gav last)) 1 ≡ false = grind (arith, nat_tests, n) in
    let place : length (stepped gav last) - 1 ≡ suc (suc (length (parts gav.group))) = omega (arith, n) in
    at_end gav last 1 (suc (suc (length (parts gav.group)))) last test place (last_one (parts gav.group) gav.artifact gav.version last)

version_is : (gav : Gav) (last : List ℕ) → from_end 2 (stepped gav last) ≡ gav.version
version_is gav last =
    let n = step_count gav last in
    let test : nat_lt (length (stepped gav last)) 2 ≡ false = grind (arith, nat_tests, n) in
    let place : length (stepped gav last) - 2 ≡ suc (length (parts gav.group)) = omega (arith, n) in
    at_end gav last 2 (suc (length (parts gav.group))) gav.version test place (second (parts gav.group) gav.artifact gav.version last)

artifact_is : (gav : Gav) (last : List ℕ) → from_end 3 (stepped gav last) ≡ gav.artifact
artifact_is gav last =
    let n = step_count gav last in
    let test : nat_lt (length (stepped gav last)) 3 ≡ false = grind (arith, nat_tests, n) in
    let place : length (stepped gav last) - 3 ≡ length (parts gav.group) = omega (arith, n) in
    at_end gav last 3 (length (parts gav.group)) gav.artifact test place (third (parts gav.group) gav.artifact gav.version last)

group_is : (gav : Gav) (last : List ℕ) → group_by (stepped gav last) ≡ gav.group
group_is gav last =
    let n = step_count gav last in
    let place : length (stepped gav last) - 3 ≡ length (parts gav.group) = omega (arith, n) in
    ap (λ k. joined (take k (stepped gav last))) place ∙ ap joined (front_of (parts gav.group) (gav.artifact ∷ gav.version ∷ last ∷ [])) ∙ group_again gav.group

-- the coordinates that the steps name
pub gav_is : (gav : Gav) (last : List ℕ) → gav_by (stepped gav last) ≡ gav
gav_is gav last = λ i. record { group = group_is gav last i; artifact = artifact_is gav last i; version = version_is gav last i }

-- there are enough
pub enough_steps : (gav : Gav) (last : List ℕ) → nat_lt (length (stepped gav last)) 3 ≡ false
enough_steps gav last = let n = step_count gav last in grind (arith, nat_tests, n)
