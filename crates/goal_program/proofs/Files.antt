-- The path of a file of valid coordinates is read as its name, and nothing else is.
use Rattle.std.proofs.Common.{◌≡◌, ◌⊎◌, inl, inr, ℕ, ◌==◌, Bool, true, false, not, ◌&&◌, nat_eq, nat_lt, List, [], ◌∷◌, ◌++◌, length, take, drop, codes, Option, Some, None, option_and_then, if◌then◌else◌, refl, sym, ap, ◌∙◌, append_assoc, append-nil, arith}
use Rattle.std.specs.Option.{option_or}
use Rattle.std.specs.Cmp.Lexicographic.{pointwise, nat_list_eq_equiv}
use Rattle.std.proofs.lemmas.Bool.Decides.{nat_tests}
use Rattle.mvn_base.specs.declared.gav.Gav.{Gav}
use Rattle.mvn_base.specs.FileName.{IsValid, classifier_part, file_name, is_classifier}
use Rattle.mvn_base.specs.Names.{is_group, is_name, is_version}
use Rattle.mvn_base.specs.Apart.{IsFileOf}
use Rattle.goal_program.specs.Names.{classifier_in, is_valid, file_at, file_cut, file_behind, file_by, file_in, gav_by, from_end}
use Rattle.goal_program.specs.Texts.{behind, cuts, first_some}
use Rattle.goal_program.proofs.LawSteps.{steps, last_step, stepped, file_steps, last_is, gav_is, enough_steps}

abbrev Cut : Type 0
Cut = List ℕ × List ℕ

-- nothing, or this
abbrev IsOnly : List ℕ → Option (List ℕ) → Type 0
IsOnly path o = (o ≡ None) ⊎ (o ≡ Some path)

-- ---- what is read is the path

test_only : (path : List ℕ) (t : Bool) → IsOnly path (if t then Some path else None)
test_only path true = inr refl
test_only path false = inl refl

at_only : (gav : Gav) (classifier extension path : List ℕ) → IsOnly path (file_at gav classifier extension path)
unfolding file_at
at_only gav classifier extension path = test_only path (is_valid gav classifier extension && pointwise nat_eq (file_name gav classifier extension) path)

cut_only : (gav : Gav) (path : List ℕ) (end : Cut) → IsOnly path (file_cut gav path end)
cut_only gav path end = by (classifier_in end.0)
  where
    by : (o : Option (List ℕ)) → IsOnly path (option_and_then (λ classifier. file_at gav classifier end.1 path) o)
    by None = inl refl
    by (Some classifier) = at_only gav classifier end.1 path

or_only : (path : List ℕ) (a b : Option (List ℕ)) → IsOnly path a → IsOnly path b → IsOnly path (option_or a b)
or_only path a b (inl none) q = by q
  where
    by : IsOnly path b → IsOnly path (option_or a b)
    by (inl f) = inl (ap (λ o. option_or o b) none ∙ f)
    by (inr s) = inr (ap (λ o. option_or o b) none ∙ s)
or_only path a b (inr some) q = inr (ap (λ o. option_or o b) some)

first_only : (gav : Gav) (path : List ℕ) (ends : List Cut) → IsOnly path (first_some (file_cut gav path) ends)
first_only gav path [] = inl refl
first_only gav path (end ∷ ends) = or_only path (file_cut gav path end) (first_some (file_cut gav path) ends) (cut_only gav path end) (first_only gav path ends)

behind_only : (gav : Gav) (last path : List ℕ) → IsOnly path (file_behind gav last path)
behind_only gav last path = by (behind (gav.artifact ++ codes "-" ++ gav.version) last)
  where
    by : (o : Option (List ℕ)) → IsOnly path (option_and_then (λ end. first_some (file_cut gav path) (cuts 46 [] end)) o)
    by None = inl refl
    by (Some end) = first_only gav path (cuts 46 [] end)

by_only : (ss : List (List ℕ)) (path : List ℕ) → IsOnly path (file_by ss path)
by_only ss path = by (nat_lt (length ss) 3)
  where
    by : (t : Bool) → IsOnly path (if t then None else file_behind (gav_by ss) (from_end 1 ss) path)
    by true = inl refl
    by false = behind_only (gav_by ss) (from_end 1 ss) path

-- what is read of a path is the path itself
pub read_is_path : (path : List ℕ) → IsOnly path (file_in path)
unfolding file_in
read_is_path path = by_only (steps path) path

-- ---- a file of valid coordinates is read

both : (a b : Bool) → a ≡ true → b ≡ true → (a && b) ≡ true
both true b p q = q
both false b p q = p

valid_parts : (gav : Gav) (classifier extension : List ℕ) → IsValid gav → is_classifier classifier ≡ true → is_name extension ≡ true → is_valid gav classifier extension ≡ true
unfolding is_valid
valid_parts gav classifier extension valid tag kind =
    both (is_group gav.group && is_name gav.artifact && is_version gav.version && is_classifier classifier) (is_name extension)
    (both (is_group gav.group && is_name gav.artifact && is_version gav.version) (is_classifier classifier)
    (both (is_group gav.group && is_name gav.artifact) (is_version gav.version) (both (is_group gav.group) (is_name gav.artifact) valid.group valid.artifact) valid.version) tag) kind

file_there : (gav : Gav) (classifier extension : List ℕ) → IsValid gav → is_classifier classifier ≡ true → is_name extension ≡ true
    → file_at gav classifier extension (file_name gav classifier extension) ≡ Some (file_name gav classifier extension)
unfolding file_at
file_there gav classifier extension valid tag kind =
    let path = file_name gav classifier extension in
    ap (λ z. if z then Some path else None) (both (is_valid gav classifier extension) (pointwise nat_eq path path) (valid_parts gav classifier extension valid tag kind) (nat_list_eq_equiv.refl path))

-- the classifier's part is read as the classifier
classifier_again : (classifier : List ℕ) → classifier_in (classifier_part classifier) ≡ Some classifier
classifier_again [] = refl
classifier_again (b ∷ classifier) =
    let filled : (length (b ∷ classifier) == 0) ≡ false = grind (arith, nat_tests) in
    ap (λ z. classifier_in (if not z then 45 ∷ b ∷ classifier else [])) filled

-- a cut that gives the file
cut_there : (gav : Gav) (classifier extension : List ℕ) → IsValid gav → is_classifier classifier ≡ true → is_name extension ≡ true
    → file_cut gav (file_name gav classifier extension) (classifier_part classifier, extension) ≡ Some (file_name gav classifier extension)
cut_there gav classifier extension valid tag kind =
    ap (option_and_then (λ c. file_at gav c extension (file_name gav classifier extension))) (classifier_again classifier) ∙ file_there gav classifier extension valid tag kind

-- where one cut gives the path and the others nothing or it, the first that gives something gives it
first_there : (gav : Gav) (path front part extension : List ℕ) → file_cut gav path (front ++ part, extension) ≡ Some path → first_some (file_cut gav path) (cuts 46 front (part ++ 46 ∷ extension)) ≡ Some path
first_there gav path front [] extension there =
    ap (λ o. option_or o (first_some (file_cut gav path) (cuts 46 (front ++ 46 ∷ []) extension))) (ap (λ f. file_cut gav path (f, extension)) (sym (append-nil front)) ∙ there)
first_there gav path front (b ∷ part) extension there = by (b == 46) refl (first_there gav path (front ++ b ∷ []) part extension (ap (λ f. file_cut gav path (f, extension)) (append_assoc front (b ∷ []) part) ∙ there))
  where
    rest : List ℕ
    rest = part ++ 46 ∷ extension

    f : Cut → Option (List ℕ)
    f = file_cut gav path

    either : IsOnly path (f (front, rest)) → first_some f (cuts 46 (front ++ b ∷ []) rest) ≡ Some path → option_or (f (front, rest)) (first_some f (cuts 46 (front ++ b ∷ []) rest)) ≡ Some path
    either (inl none) again = ap (λ o. option_or o (first_some f (cuts 46 (front ++ b ∷ []) rest))) none ∙ again
    either (inr some) again = ap (λ o. option_or o (first_some f (cuts 46 (front ++ b ∷ []) rest))) some

    by : (t : Bool) → (b == 46) ≡ t → first_some f (cuts 46 (front ++ b ∷ []) rest) ≡ Some path → first_some f (cuts 46 front (b ∷ rest)) ≡ Some path
    by true t again = ap (λ z. first_some f (if z then (front, rest) ∷ cuts 46 (front ++ b ∷ []) rest else cuts 46 (front ++ b ∷ []) rest)) t ∙ either (cut_only gav path (front, rest)) again
    by false t again = ap (λ z. first_some f (if z then (front, rest) ∷ cuts 46 (front ++ b ∷ []) rest else cuts 46 (front ++ b ∷ []) rest)) t ∙ again

front_taken : (front rest : List ℕ) → take (length front) (front ++ rest) ≡ front
front_taken [] rest = refl
front_taken (b ∷ front) rest = ap (λ xs. b ∷ xs) (front_taken front rest)

front_dropped : (front rest : List ℕ) → drop (length front) (front ++ rest) ≡ rest
front_dropped [] rest = refl
front_dropped (b ∷ front) rest = front_dropped front rest

-- what stands behind a front
behind_front : (front rest : List ℕ) → behind front (front ++ rest) ≡ Some rest
behind_front front rest =
    ap (λ z. if z then Some (drop (length front) (front ++ rest)) else None) (ap (pointwise nat_eq front) (front_taken front rest) ∙ nat_list_eq_equiv.refl front) ∙ ap Some (front_dropped front rest)

last_cut : (gav : Gav) (classifier extension : List ℕ) → last_step gav classifier extension ≡ (gav.artifact ++ codes "-" ++ gav.version) ++ (classifier_part classifier ++ 46 ∷ extension)
last_cut gav classifier extension = simp append_assoc

behind_there : (gav : Gav) (classifier extension : List ℕ) → IsValid gav → is_classifier classifier ≡ true → is_name extension ≡ true
    → file_behind gav (last_step gav classifier extension) (file_name gav classifier extension) ≡ Some (file_name gav classifier extension)
behind_there gav classifier extension valid tag kind =
    let path = file_name gav classifier extension in
    let front = gav.artifact ++ codes "-" ++ gav.version in
    let end = classifier_part classifier ++ 46 ∷ extension in
    ap (option_and_then (λ e. first_some (file_cut gav path) (cuts 46 [] e))) (ap (behind front) (last_cut gav classifier extension) ∙ behind_front front end)
    ∙ first_there gav path [] (classifier_part classifier) extension (cut_there gav classifier extension valid tag kind)

by_there : (gav : Gav) (last path : List ℕ) → file_by (stepped gav last) path ≡ file_behind gav last path
by_there gav last path =
    ap (λ z. if z then None else file_behind (gav_by (stepped gav last)) (from_end 1 (stepped gav last)) path) (enough_steps gav last)
    ∙ ap (λ g. file_behind g (from_end 1 (stepped gav last)) path) (gav_is gav last) ∙ ap (λ l. file_behind gav l path) (last_is gav last)

file_there_again : (gav : Gav) (classifier extension : List ℕ) → IsValid gav → is_classifier classifier ≡ true → is_name extension ≡ true
    → file_in (file_name gav classifier extension) ≡ Some (file_name gav classifier extension)
unfolding file_in
file_there_again gav classifier extension valid tag kind =
    let path = file_name gav classifier extension in
    ap (λ ss. file_by ss path) (file_steps gav classifier extension valid tag kind) ∙ by_there gav (last_step gav classifier extension) path ∙ behind_there gav classifier extension valid tag kind

-- the path of a file is read as its name
pub file_is_read : (gav : Gav) (name : List ℕ) → IsFileOf gav name → file_in name ≡ Some name
file_is_read gav name is = ap file_in is.named ∙ file_there_again gav is.classifier is.extension is.coordinate is.tag is.kind ∙ ap Some (sym is.named)
