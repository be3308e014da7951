-- Which files the entries so far come from, with one entry more.
use Rattle.std.proofs.Common.{◌≡◌, ℕ, zero, suc, ◌+◌, ◌<◌, ◌≤◌, ◌⊎◌, inl, inr, Bool, true, false, ◌||◌, nat_eq, find, fold, List, [], ◌∷◌, ◌++◌, slice_get, take, Option, Some, None, unwrap_or, refl, arith, sym, ap, subst, ◌∙◌, if◌then◌else◌}
use Rattle.std.specs.Option.{option_map_or, option_or}
use Rattle.std.proofs.lemmas.Bool.{eqb-true, false≢true}
use Rattle.std.proofs.lemmas.List.Folds.{find-append, list_any-append}
use Rattle.build_core.specs.Locks.{below}
use Rattle.build_core.specs.declared.plan.Entry.{Entry}
use Rattle.build_core.specs.declared.plan.PlanModule.{PlanModule}
use Rattle.event_core.specs.HowFar.{is_this}
use Rattle.scripts.specs.Outlines.{file_of, files_of, is_listed, once_more}
use Rattle.scripts.proofs.Dues.{below_or_not}
use Rattle.event_core.proofs.Weights.{nothing_is}
use Rattle.run_law.specs.Gathered.{files_before, with_file}
use Rattle.run_law.proofs.Paths.{more}
use Rattle.crew_turns.specs.Parts.{is_this_file, place_before}
use Rattle.crew_turns.proofs.PathFirsts.{fresh}

-- what is found is in range and passes the test
found_in : (p : ℕ → Bool) (n x : ℕ) → find p (below n) ≡ Some x → (x < n) × (p x ≡ true)
found_in p zero x is = absurd (nothing_is x is)
found_in p (suc n) x is = by (find p (below n)) refl (p n) refl (found_in p n x) (sym (find-append p (below n) (n ∷ [])) ∙ is)
  where
    by : (o : Option ℕ) → find p (below n) ≡ o → (b : Bool) → p n ≡ b → (find p (below n) ≡ Some x → (x < n) × (p x ≡ true)) → option_or o (if b then Some n else None) ≡ Some x → (x < suc n) × (p x ≡ true)
    by (Some y) e b t again is = let low = again (e ∙ is) in let less = low.0 in (omega (arith, less), low.1)
    by None e true t again is = let same : n ≡ x = ap (λ o. unwrap_or o n) is in (omega (arith, same), subst (λ k. p k ≡ true) same t)
    by None e false t again is = absurd (nothing_is x is)

-- a file that is listed stays so
listed_still : (file : ℕ) (met : List ℕ) (o : Option ℕ) → is_listed file met ≡ true → is_listed file (with_file met o) ≡ true
listed_still file met None is = is
listed_still file met (Some f) is = by (is_listed f met)
  where
    by : (b : Bool) → is_listed file (if b then met else met ++ f ∷ []) ≡ true
    by true = is
    by false = list_any-append (λ y. nat_eq y file) met (f ∷ []) ∙ rw is refl

-- and the file of an entry is listed behind it
listed_now : (file : ℕ) (met : List ℕ) (o : Option ℕ) → is_this o file ≡ true → is_listed file (with_file met o) ≡ true
listed_now file met None this = absurd (false≢true this)
listed_now file met (Some f) this = by (is_listed f met) refl
  where
    last : (b : Bool) → (b || (nat_eq f file || false)) ≡ true
    last true = refl
    last false = ap (λ b. b || false) this

    by : (b : Bool) → is_listed f met ≡ b → is_listed file (if b then met else met ++ f ∷ []) ≡ true
    by true e = ap (λ k. is_listed k met) (sym (eqb-true f file this)) ∙ e
    by false e = list_any-append (λ y. nat_eq y file) met (f ∷ []) ∙ last (is_listed file met)

taken_all : {A : Type 0} (xs : List A) (n : ℕ) → slice_get xs n ≡ None → take (suc n) xs ≡ take n xs
taken_all [] zero is = refl
taken_all [] (suc n) is = refl
taken_all (x ∷ xs) zero is = absurd (nothing_is x (sym is))
taken_all (x ∷ xs) (suc n) is = ap (λ ys. x ∷ ys) (taken_all xs n is)

module _ (m : PlanModule) (file : ℕ) where
  abbrev test : ℕ → Bool
  test at = option_map_or (is_this_file file) (slice_get m.entries at) false

  one_on : (n : ℕ) → (o : Option Entry) → slice_get m.entries n ≡ o → (is_listed file (files_before m n) ≡ true) ⊎ (test n ≡ true) → is_listed file (files_before m (suc n)) ≡ true
  one_on n None e (inl met) = ap (λ es. is_listed file (fold once_more [] (files_of es))) (taken_all m.entries n e) ∙ met
  one_on n None e (inr this) = absurd (false≢true (sym (ap (λ o. option_map_or (is_this_file file) o false) e) ∙ this))
  one_on n (Some x) e (inl met) =
      let next : suc n ≡ n + 1 = omega arith in
      ap (λ k. is_listed file (files_before m k)) next ∙ ap (is_listed file) (more m n x e) ∙ listed_still file (files_before m n) (file_of x.origin) met
  one_on n (Some x) e (inr this) =
      let next : suc n ≡ n + 1 = omega arith in
      ap (λ k. is_listed file (files_before m k)) next ∙ ap (is_listed file) (more m n x e)
      ∙ listed_now file (files_before m n) (file_of x.origin) (sym (ap (λ o. option_map_or (is_this_file file) o false) e) ∙ this)

  listed_by : (n before : ℕ) → test before ≡ true → before < n → is_listed file (files_before m n) ≡ true
  listed_by zero before this low = absurd (omega (arith, low))
  listed_by (suc n) before this low = by (listed_by n before this) (below_or_not before n)
    where
      by : (before < n → is_listed file (files_before m n) ≡ true) → (before < n) ⊎ (n ≤ before) → is_listed file (files_before m (suc n)) ≡ true
      by again (inl less) = one_on n (slice_get m.entries n) refl (inl (again less))
      by again (inr more) =
          let same : before ≡ n = omega (arith, more, low) in
          one_on n (slice_get m.entries n) refl (inr (subst (λ k. test k ≡ true) same this))

  -- a file that an entry so far comes from: that entry is one of them, and the file is listed
  pub met : (count before : ℕ) → place_before m.entries count file ≡ Some before → (before < count) × (is_listed file (files_before m count) ≡ true)
  met count before is = let found = found_in test count before is in (found.0, listed_by count before found.1 found.0)

  module _ (at : ℕ) (e : Entry) (is : slice_get m.entries at ≡ Some e) where
    -- so with it no file more is read
    pub met_again : (before : ℕ) → file_of e.origin ≡ Some file → place_before m.entries at file ≡ Some before → files_before m (at + 1) ≡ files_before m at
    met_again before its found =
        more m at e is ∙ ap (with_file (files_before m at)) its ∙ ap (λ b. if b then files_before m at else files_before m at ++ file ∷ []) (met at before found).1

    -- one that no entry so far comes from is read behind the others
    pub met_first : file_of e.origin ≡ Some file → place_before m.entries at file ≡ None → files_before m (at + 1) ≡ files_before m at ++ file ∷ []
    met_first its found =
        more m at e is ∙ ap (with_file (files_before m at)) its ∙ ap (λ b. if b then files_before m at else files_before m at ++ file ∷ []) (fresh m file at found)

-- an entry that comes from no file leaves them
pub met_none : (m : PlanModule) (at : ℕ) (e : Entry) → slice_get m.entries at ≡ Some e → file_of e.origin ≡ None → files_before m (at + 1) ≡ files_before m at
met_none m at e is its = more m at e is ∙ ap (with_file (files_before m at)) its
