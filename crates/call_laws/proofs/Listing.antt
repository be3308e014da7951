-- The same versions are available over files that have grown by a build of some modules of a project.
use Rattle.std.proofs.Common.{◌≡◌, ◌⊎◌, inl, inr, ◌≤◌, ℕ, suc, Bool, true, false, ◌&&◌, ◌==◌, nat_eq, nat_lt, List, [], ◌∷◌, ◌++◌, Contains, filter_map, length, Option, Some, None, is_some, unwrap_or, refl, sym, ap, subst, ◌∙◌, arith, ltb-true, lt-ltb, if◌then◌else◌}
use Rattle.std.specs.FinMap.{contains_key-keys}
use Rattle.std.specs.FinMap as finite
use Rattle.std.specs.List.{cons_option, slice_split}
use Rattle.std.specs.Str.{bytes_eq}
use Rattle.std.specs.Cmp.Lexicographic.{pointwise, slice_cmp}
use Rattle.std.specs.Ordering.{eq_by_cmp, nat_cmp}
use Rattle.std.proofs.lemmas.Bool.{false≢true, and_from}
use Rattle.std.proofs.lemmas.Slice.Eq.{bytes_eq-Decides}
use Rattle.mvn_shared.specs.Files.{Files, file_at}
use Rattle.mvn_base.specs.FileName.{pom_name, step_before_last, version_in}
use Rattle.mvn_base.specs.Names.{is_group, is_name, is_version}
use Rattle.mvn_base.specs.declared.gav.Gav.{Gav}
use Rattle.mvn_base.specs.Apart.{IsFileOf}
use Rattle.mvn_base.proofs.Coordinates.{one_of_a_file}
use Rattle.event_core.specs.SoundPlans.{TextsClimb}
use Rattle.model_types.specs.declared.model.Model.{Model}
use Rattle.mvn_outside.specs.Versions.{versions_of}
use Rattle.project_libraries.specs.Available.{available, each_once, is_artifact, joined, listed, version_of, within_most}
use Rattle.module_plan.specs.Numbers.{ascending}
use Rattle.plan_law.proofs.FileNames.{of_pom}
use Rattle.plan_law.proofs.Gavs.{left_of, right_of}
use Rattle.plan_law.proofs.Keys.{climb_tail, first_below, key_in, keys_climb, not_below, tied_self}
use Rattle.plan_law.proofs.Members.{Apart, IsIn, from_filter_map, in_either, in_left, in_right, some_passes}
use Rattle.plan_law.proofs.Ones.{same_lists}
use Rattle.plan_law.proofs.Texts.{ascending_climb, from_ascending, in_ascending}
use Rattle.call_laws.specs.Grown.{IsGrown, MayHold}
use Rattle.call_laws.specs.Grown.MayHold.{as_before, fetched, installed}

-- ---- lists

module _ {A B : Type 0} (f : A → Option B) where
  -- what a function gives of an item is among all that it gives
  in_filter_map : (xs : List A) (x : A) (y : B) → IsIn xs x → f x ≡ Some y → IsIn (filter_map f xs) y
  in_filter_map [] x y there e = absurd there
  in_filter_map (z ∷ xs) x y there e = by (f z) refl there (in_filter_map xs x y)
    where
      by : (o : Option B) → f z ≡ o → IsIn (z ∷ xs) x → (IsIn xs x → f x ≡ Some y → IsIn (filter_map f xs) y) → IsIn (cons_option o (filter_map f xs)) y
      by None is (inl same) again = absurd (false≢true (ap is_some (sym is ∙ ap f same ∙ e)))
      by None is (inr h) again = again h e
      by (Some w) is (inl same) again = inl (ap (λ o. unwrap_or o w) (sym is ∙ ap f same ∙ e))
      by (Some w) is (inr h) again = inr (again h e)

  -- if it gives each value of one item alone, all that it gives of distinct items is distinct
  apart_filter_map : ((x y : A) (z : B) → f x ≡ Some z → f y ≡ Some z → x ≡ y) → (xs : List A) → Apart xs → Apart (filter_map f xs)
  apart_filter_map one [] apart = record {}
  apart_filter_map one (x ∷ xs) apart = by (f x) refl (apart_filter_map one xs apart.1)
    where
      by : (o : Option B) → f x ≡ o → Apart (filter_map f xs) → Apart (cons_option o (filter_map f xs))
      by None e rest = rest
      by (Some z) e rest = (none, rest)
        where
          none : IsIn (filter_map f xs) z → ⊥
          none there = let found = from_filter_map f xs z there in apart.0 (subst (IsIn xs) (one found.0 x z found.2 e) found.1)

module _ {A : Type 0} where
  -- a list without one item
  abbrev without : (ys : List A) (x : A) → IsIn ys x → List A
  without [] x there = []
  without (y ∷ ys) x (inl e) = ys
  without (y ∷ ys) x (inr there) = y ∷ without ys x there

  shorter : (ys : List A) (x : A) (there : IsIn ys x) → length ys ≡ suc (length (without ys x there))
  shorter [] x there = absurd there
  shorter (y ∷ ys) x (inl e) = refl
  shorter (y ∷ ys) x (inr there) = ap suc (shorter ys x there)

  still_in : (ys : List A) (x : A) (there : IsIn ys x) (z : A) → (x ≡ z → ⊥) → IsIn ys z → IsIn (without ys x there) z
  still_in [] x there z other h = absurd there
  still_in (y ∷ ys) x (inl e) z other (inl same) = absurd (other (sym e ∙ same))
  still_in (y ∷ ys) x (inl e) z other (inr h) = h
  still_in (y ∷ ys) x (inr there) z other (inl same) = inl same
  still_in (y ∷ ys) x (inr there) z other (inr h) = inr (still_in ys x there z other h)

  -- distinct items that all stand in a list are no more than its items
  no_longer : (xs ys : List A) → Apart xs → ((x : A) → IsIn xs x → IsIn ys x) → length xs ≤ length ys
  no_longer [] ys apart inside = omega arith
  no_longer (x ∷ xs) ys apart inside =
      let there = inside x (inl refl) in
      let rest = no_longer xs (without ys x there) apart.1
      (λ z h. still_in ys x there z (λ same. apart.0 (subst (IsIn xs) (sym same) h)) (inside z (inr h))) in
      let long = shorter ys x there in
      omega (arith, rest, long)

-- texts that ascend are distinct
climb_apart : (xs : List (List ℕ)) → TextsClimb xs → Apart xs
climb_apart [] climbs = record {}
climb_apart (x ∷ xs) climbs = (λ there. not_below x (first_below x xs x climbs there), climb_apart xs (climb_tail x xs climbs))

-- a name that a map has
has_key : (files : Files) (name : List ℕ) → IsIn (finite.keys files) name → is_some (file_at files name) ≡ true
has_key files name there = contains_key-keys files name ∙ some_passes (eq_by_cmp (slice_cmp nat_cmp) name) (finite.keys files) name there (tied_self name)

-- ---- versions

-- what a name says of a version
says_name : (group artifact name version : List ℕ) → version_in group artifact name ≡ Some version → (is_version version ≡ true) × (pom_name group artifact version ≡ name)
unfolding version_in
says_name group artifact name version = by (is_version cut && pointwise nat_eq (pom_name group artifact cut) name) refl
  where
    cut : List ℕ
    cut = step_before_last (slice_split (λ b. b == 47) name)

    by : (b : Bool) → (is_version cut && pointwise nat_eq (pom_name group artifact cut) name) ≡ b → (if b then Some cut else None) ≡ Some version → (is_version version ≡ true) × (pom_name group artifact version ≡ name)
    by false e is = absurd (false≢true (ap is_some is))
    by true e is =
        let same : cut ≡ version = ap (λ o. unwrap_or o cut) is in
        subst (λ v. (is_version v ≡ true) × (pom_name group artifact v ≡ name)) same (
          left_of (is_version cut) (pointwise nat_eq (pom_name group artifact cut) name) e,
          (bytes_eq-Decides (pom_name group artifact cut) name).0 (right_of (is_version cut) (pointwise nat_eq (pom_name group artifact cut) name) e),
        )

module _ (group artifact : List ℕ) where
  one_name : (x y v : List ℕ) → version_in group artifact x ≡ Some v → version_in group artifact y ≡ Some v → x ≡ y
  one_name x y v e f = sym (says_name group artifact x v e).1 ∙ (says_name group artifact y v f).1

  -- the versions of a repository are distinct
  listed_apart : (files : Files) → Apart (listed files group artifact)
  listed_apart files = by (is_artifact group artifact)
    where
      by : (b : Bool) → Apart (if b then versions_of files group artifact else [])
      by true = apart_filter_map (version_in group artifact) one_name (finite.keys files) (climb_apart (finite.keys files) (keys_climb files))
      by false = record {}

  -- a version that is listed: the names are valid, and a file's name says it
  record IsListed (files : Files) (version : List ℕ) : Type 0 where
    valid : is_artifact group artifact ≡ true
    name : List ℕ
    there : is_some (file_at files name) ≡ true
    says : version_in group artifact name ≡ Some version

  from_listed : (files : Files) (version : List ℕ) → IsIn (listed files group artifact) version → IsListed files version
  from_listed files version = by (is_artifact group artifact) refl
    where
      by : (b : Bool) → is_artifact group artifact ≡ b → IsIn (if b then versions_of files group artifact else []) version → IsListed files version
      by false e there = absurd there
      by true e there =
          let found = from_filter_map (version_in group artifact) (finite.keys files) version there in
          record { valid = e; name = found.0; there = has_key files found.0 found.1; says = found.2 }

  in_listed : (files : Files) (version : List ℕ) → IsListed files version → IsIn (listed files group artifact) version
  in_listed files version is =
      subst (λ b. IsIn (if b then versions_of files group artifact else []) version) (sym is.valid)
      (in_filter_map (version_in group artifact) (finite.keys files) is.name version (key_in files is.name is.there) is.says)

  module _ (models : List Model) (start remote files : Files) (built : List Gav) (grown : IsGrown start remote built files)
      (own : (gav : Gav) → Contains built gav → (m : Model) × IsIn models m × (m.gav ≡ gav)) where
    abbrev owned : List (List ℕ)
    owned = filter_map (version_of group artifact) models

    abbrev all : Files → List (List ℕ)
    all local = owned ++ listed local group artifact ++ listed remote group artifact

    -- what was listed still is
    kept : (name : List ℕ) → is_some (file_at start name) ≡ true → is_some (file_at files name) ≡ true
    kept name there = by (grown name)
      where
        by : MayHold start remote built name (file_at files name) → is_some (file_at files name) ≡ true
        by (as_before e) = ap is_some e ∙ there
        by (fetched none e) = absurd (false≢true (sym (ap is_some none) ∙ there))
        by (installed gav inside file is) = is

    still_listed : (v : List ℕ) → IsIn (listed start group artifact) v → IsIn (listed files group artifact) v
    still_listed v h = let is = from_listed start v h in
        in_listed files v (record { valid = is.valid; name = is.name; there = kept is.name is.there; says = is.says })

    -- a version of a module of the project
    version_is : (gav : Gav) (m : Model) → m.gav ≡ gav → gav.group ≡ group → gav.artifact ≡ artifact → version_of group artifact m ≡ Some gav.version
    version_is gav m e g a = ap (λ b. if b then Some m.gav.version else None)
        (and_from (bytes_eq m.gav.group group) (bytes_eq m.gav.artifact artifact)
        ((bytes_eq-Decides m.gav.group group).1 (ap (λ (x : Gav). x.group) e ∙ g)) ((bytes_eq-Decides m.gav.artifact artifact).1 (ap (λ (x : Gav). x.artifact) e ∙ a)))
        ∙ ap (λ (x : Gav). Some x.version) e

    -- what is listed now is a module's, was listed, or is the remote's
    came : (v : List ℕ) → IsListed files v → IsIn owned v ⊎ (IsIn (listed start group artifact) v ⊎ IsIn (listed remote group artifact) v)
    came v is = by (grown is.name)
      where
        gav : Gav
        gav = record { group = group; artifact = artifact; version = v }

        says : (is_version v ≡ true) × (pom_name group artifact v ≡ is.name)
        says = says_name group artifact is.name v is.says

        file : IsFileOf gav is.name
        file = subst (IsFileOf gav) says.1 (of_pom gav (record { group = left_of (is_group group) (is_name artifact) is.valid; artifact = right_of (is_group group) (is_name artifact) is.valid; version = says.0 }))

        by : MayHold start remote built is.name (file_at files is.name) → IsIn owned v ⊎ (IsIn (listed start group artifact) v ⊎ IsIn (listed remote group artifact) v)
        by (as_before e) = inr (inl (in_listed start v (record { valid = is.valid; name = is.name; there = sym (ap is_some e) ∙ is.there; says = is.says })))
        by (fetched none e) = inr (inr (in_listed remote v (record { valid = is.valid; name = is.name; there = sym (ap is_some e) ∙ is.there; says = is.says })))
        by (installed other inside its there) =
            let same = one_of_a_file is.name gav other file its in
            let m = own gav (subst (Contains built) (sym same) inside) in
            inl (in_filter_map (version_of group artifact) models m.0 v m.1 (version_is gav m.0 m.2 refl refl))

    in_all : (local : Files) (v : List ℕ) → IsIn owned v ⊎ (IsIn (listed local group artifact) v ⊎ IsIn (listed remote group artifact) v) → IsIn (all local) v
    in_all local v (inl h) = in_left (owned ++ listed local group artifact) (listed remote group artifact) v (in_left owned (listed local group artifact) v h)
    in_all local v (inr (inl h)) = in_left (owned ++ listed local group artifact) (listed remote group artifact) v (in_right owned (listed local group artifact) v h)
    in_all local v (inr (inr h)) = in_right (owned ++ listed local group artifact) (listed remote group artifact) v h

    from_all : (local : Files) (v : List ℕ) → IsIn (all local) v → IsIn owned v ⊎ (IsIn (listed local group artifact) v ⊎ IsIn (listed remote group artifact) v)
    from_all local v h = by (in_either (owned ++ listed local group artifact) (listed remote group artifact) v h)
      where
        front : IsIn owned v ⊎ IsIn (listed local group artifact) v → IsIn owned v ⊎ (IsIn (listed local group artifact) v ⊎ IsIn (listed remote group artifact) v)
        front (inl a) = inl a
        front (inr b) = inr (inl b)

        by : IsIn (owned ++ listed local group artifact) v ⊎ IsIn (listed remote group artifact) v → IsIn owned v ⊎ (IsIn (listed local group artifact) v ⊎ IsIn (listed remote group artifact) v)
        by (inl a) = front (in_either owned (listed local group artifact) v a)
        by (inr b) = inr (inr b)

    grows : (v : List ℕ) → IsIn (all start) v → IsIn (all files) v
    grows v h = by (from_all start v h)
      where
        by : IsIn owned v ⊎ (IsIn (listed start group artifact) v ⊎ IsIn (listed remote group artifact) v) → IsIn (all files) v
        by (inl a) = in_all files v (inl a)
        by (inr (inl b)) = in_all files v (inr (inl (still_listed v b)))
        by (inr (inr c)) = in_all files v (inr (inr c))

    grows_no_more : (v : List ℕ) → IsIn (all files) v → IsIn (all start) v
    grows_no_more v h = by (from_all files v h)
      where
        by : IsIn owned v ⊎ (IsIn (listed files group artifact) v ⊎ IsIn (listed remote group artifact) v) → IsIn (all start) v
        by (inl a) = in_all start v (inl a)
        by (inr (inl b)) = in_all start v (came v (from_listed files v b))
        by (inr (inr c)) = in_all start v (inr (inr c))

    -- together they are the same
    once_is : (versions : List (List ℕ)) → each_once versions ≡ ascending versions
    unfolding each_once ascending
    once_is versions = refl

    together : each_once (all files) ≡ each_once (all start)
    together = once_is (all files)
        ∙ same_lists (ascending (all files)) (ascending (all start)) (ascending_climb (all files)) (ascending_climb (all start))
        (λ v h. in_ascending (all start) v (grows_no_more v (from_ascending (all files) v h)))
        (λ v h. in_ascending (all files) v (grows v (from_ascending (all start) v h)))
        ∙ sym (once_is (all start))

    -- too many stay too many
    longer : length (listed start group artifact) ≤ length (listed files group artifact)
    longer = no_longer (listed start group artifact) (listed files group artifact) (listed_apart start) still_listed

    as_long : length (listed files group artifact) ≤ length (each_once (all start))
    as_long = no_longer (listed files group artifact) (each_once (all start)) (listed_apart files)
        (λ v h. subst (λ l. IsIn l v) (sym (once_is (all start))) (in_ascending (all start) v (grows_no_more v (in_all files v (inr (inl h))))))

    above : (n m : ℕ) → n ≤ m → nat_lt 4096 n ≡ true → nat_lt 4096 m ≡ true
    above n m le is = let low = ltb-true 4096 n is in lt-ltb 4096 m (omega (arith, le, low))

    -- so the same are available
    abbrev limited : Bool → List (List ℕ) → Option (List (List ℕ))
    limited over list = if over then None else Some list

    pub available_same : available files remote models group artifact ≡ available start remote models group artifact
    unfolding available
    available_same = by (nat_lt 4096 (length (listed files group artifact))) refl (nat_lt 4096 (length (listed start group artifact))) refl (nat_lt 4096 (length (listed remote group artifact)))
      where
        by : (a : Bool) → nat_lt 4096 (length (listed files group artifact)) ≡ a → (b : Bool) → nat_lt 4096 (length (listed start group artifact)) ≡ b → (c : Bool)
            → joined owned (limited a (listed files group artifact)) (limited c (listed remote group artifact)) ≡ joined owned (limited b (listed start group artifact)) (limited c (listed remote group artifact))
        by true e true f c = refl
        by true e false f true = refl
        by true e false f false = sym (ap (λ over. limited over (each_once (all start))) (above (length (listed files group artifact)) (length (each_once (all start))) as_long e))
        by false e true f c = absurd (false≢true (sym e ∙ above (length (listed start group artifact)) (length (listed files group artifact)) longer f))
        by false e false f true = refl
        by false e false f false = ap within_most together
