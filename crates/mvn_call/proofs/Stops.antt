-- Publishes of distinct names leave each name with its old value or its new one, at every moment.
use Rattle.std.proofs.Common.{◌≡◌, ◌≢◌, ◌⊎◌, inl, inr, ℕ, zero, suc, ◌-◌, ◌≤◌, Bool, true, false, cond, List, [], ◌∷◌, ◌++◌, map, fold, length, take, Option, Some, None, Ordering, Less, Equal, Greater, is_eq, bytes_eq, IfSome, refl, sym, ap, subst, ◌∙◌, arith}
use Rattle.std.specs.List.{AllByRecursion}
use Rattle.std.specs.Ordering.{nat_cmp, eq_by_cmp}
use Rattle.std.specs.Cmp.Lexicographic.{slice_cmp, nat_list_cmp_total}
use Rattle.std.specs.FinMap.{get-insert, slice_cmp-IsAntisymmetric, nat_cmp-IsAntisymmetric}
use Rattle.std.proofs.lemmas.Slice.Eq.{bytes_eq-Decides}
use Rattle.mvn_shared.specs.Files.{Files, file_at}
use Rattle.mvn_outside.specs.declared.shelf.Published.{Published}
use Rattle.mvn_outside.specs.declared.shelf.ShelfTold.{ShelfTold}
use Rattle.mvn_outside.specs.Shelf.{with_publish, files_now, Left, Between}
use Rattle.crew.specs.Once.{AreApart}
use Rattle.build_outcome.specs.Once.{PublishesOnce, StopsBetween}

abbrev names : List Published → List (List ℕ)
names ps = map (λ p. p.name) ps

-- ---- a publish of another name changes nothing of a name

by_test : (b : Bool) (o : Ordering) (name other : List ℕ) → slice_cmp nat_cmp name other ≡ o → is_eq o ≡ b → (name ≡ other → ⊥) → is_eq o ≡ false
by_test false o name other e t d = t
by_test true o name other e t d = absurd (d (slice_cmp-IsAntisymmetric nat_cmp-IsAntisymmetric name other (e ∙ equal o t)))
  where
    equal : (o : Ordering) → is_eq o ≡ true → o ≡ Equal
    equal Less t = cc
    equal Equal t = refl
    equal Greater t = cc

is_other : (name other : List ℕ) → (name ≡ other → ⊥) → eq_by_cmp (slice_cmp nat_cmp) name other ≡ false
is_other name other d = by_test (eq_by_cmp (slice_cmp nat_cmp) name other) (slice_cmp nat_cmp name other) name other refl refl d

put_other : (files : Files) (p : Published) (name : List ℕ) → (name ≡ p.name → ⊥) → file_at (with_publish files p) name ≡ file_at files name
put_other files p name d = get-insert nat_list_cmp_total files p.name p.bytes name ∙ ap (λ b. cond b (Some p.bytes) (file_at files name)) (is_other name p.name d)

-- nor do publishes of other names
puts_other : (files : Files) (ps : List Published) (name : List ℕ) → AllByRecursion (λ other. name ≢ other) (names ps) → file_at (fold with_publish files ps) name ≡ file_at files name
puts_other files [] name h = refl
puts_other files (p ∷ ps) name h = puts_other (with_publish files p) ps name h.1 ∙ put_other files p name h.0

-- ---- after some of them each name is as before, or as after all

decided : (name other : List ℕ) (b : Bool) → bytes_eq name other ≡ b → (name ≡ other) ⊎ (name ≡ other → ⊥)
decided name other true e = inl ((bytes_eq-Decides name other).0 e)
decided name other false e = inr (λ s. absurd_bool (sym e ∙ (bytes_eq-Decides name other).1 s))
  where
    absurd_bool : false ≡ true → ⊥
    absurd_bool t = cc

old_or_new : (files : Files) (ps : List Published) (count : ℕ) (name : List ℕ) → AreApart (names ps) → (file_at (fold with_publish files (take count ps)) name ≡ file_at files name) ⊎ (file_at (fold with_publish files (take count ps)) name ≡ file_at (fold with_publish files ps) name)
old_or_new files [] count name h = inl (none count)
  where
    none : (count : ℕ) → file_at (fold with_publish files (take {A = Published} count [])) name ≡ file_at files name
    none zero = refl
    none (suc count) = refl
old_or_new files (p ∷ ps) zero name h = inl refl
old_or_new files (p ∷ ps) (suc count) name h = by (old_or_new (with_publish files p) ps count name h.1) (decided name p.name (bytes_eq name p.name) refl)
  where
    by : (file_at (fold with_publish (with_publish files p) (take count ps)) name ≡ file_at (with_publish files p) name) ⊎ (file_at (fold with_publish (with_publish files p) (take count ps)) name ≡ file_at (fold with_publish (with_publish files p) ps) name)
        → (name ≡ p.name) ⊎ (name ≡ p.name → ⊥)
        → (file_at (fold with_publish (with_publish files p) (take count ps)) name ≡ file_at files name) ⊎ (file_at (fold with_publish (with_publish files p) (take count ps)) name ≡ file_at (fold with_publish (with_publish files p) ps) name)
    by (inr new) d = inr new
    by (inl old) (inr other) = inl (old ∙ put_other files p name other)
    by (inl old) (inl same) = inr (old ∙ sym (puts_other (with_publish files p) ps name (subst (λ n. AllByRecursion (λ other. n ≢ other) (names ps)) (sym same) h.0)))

-- ---- the stop model

fold_append : {A B : Type 0} (f : B → A → B) (start : B) (xs ys : List A) → fold f start (xs ++ ys) ≡ fold f (fold f start xs) ys
fold_append f start [] ys = refl
fold_append f start (x ∷ xs) ys = fold_append f (f start x) xs ys

take_past : (xs ys : List Published) (count : ℕ) → length xs ≤ count → take count (xs ++ ys) ≡ xs ++ take (count - length xs) ys
take_past [] ys count le = ap (λ n. take n ys) (omega arith)
take_past (x ∷ xs) ys zero le = absurd (omega (arith, le))
take_past (x ∷ xs) ys (suc count) le = ap (λ (l : List Published). x ∷ l) (take_past xs ys count (omega (arith, le)) ∙ ap (λ n. xs ++ take n ys) (omega arith))

pub stops_between : (before now : Option ShelfTold) → PublishesOnce before now → StopsBetween before now
stops_between None now h = tt
stops_between (Some told) now (more, settled, is, distinct, low) = λ quiet.
    subst (λ (t : Option ShelfTold). IfSome t (λ after. (files : Files) → Left after (length told.publishes) files → Between (files_now told) files (files_now after))) (sym is)
    (λ files left name. between files name (left name))
  where
    after : ShelfTold
    after = record { opening = told.opening; publishes = told.publishes ++ more; settled = settled }

    between : (files : Files) (name : List ℕ) → ((count : ℕ) × (length told.publishes ≤ count) × (count ≤ length (told.publishes ++ more)) × (file_at files name ≡ file_at (fold with_publish told.opening (take count (told.publishes ++ more))) name))
        → (file_at files name ≡ file_at (files_now told) name) ⊎ (file_at files name ≡ file_at (fold with_publish told.opening (told.publishes ++ more)) name)
    between files name (count, low, high, at) =
        let later = at ∙ ap (λ (ps : List Published). file_at (fold with_publish told.opening ps) name) (take_past told.publishes more count low) ∙ ap (λ (f : Files). file_at f name) (fold_append with_publish told.opening told.publishes (take (count - length told.publishes) more)) in
        by (old_or_new (files_now told) more (count - length told.publishes) name distinct) later
      where
        by : (file_at (fold with_publish (files_now told) (take (count - length told.publishes) more)) name ≡ file_at (files_now told) name) ⊎ (file_at (fold with_publish (files_now told) (take (count - length told.publishes) more)) name ≡ file_at (fold with_publish (files_now told) more) name)
            → file_at files name ≡ file_at (fold with_publish (files_now told) (take (count - length told.publishes) more)) name
            → (file_at files name ≡ file_at (files_now told) name) ⊎ (file_at files name ≡ file_at (fold with_publish told.opening (told.publishes ++ more)) name)
        by (inl old) later = inl (later ∙ old)
        by (inr new) later = inr (later ∙ new ∙ sym (ap (λ (f : Files). file_at f name) (fold_append with_publish told.opening told.publishes more)))
