-- What the first entry says that comes from a file, and what it says that there is none.
use Rattle.std.proofs.Common.{◌≡◌, ℕ, zero, suc, ◌+◌, Bool, true, false, nat_eq, find, fold, List, [], ◌∷◌, ◌++◌, map, slice_get, take, Option, Some, None, unwrap_or, refl, arith, sym, ap, subst, ◌∙◌, if◌then◌else◌}
use Rattle.std.specs.Option.{option_map_or, option_or}
use Rattle.std.proofs.lemmas.Bool.{false≢true}
use Rattle.std.proofs.lemmas.Bool.Decides.{nat_tests}
use Rattle.std.proofs.lemmas.List.Folds.{find-append, list_any-append}
use Rattle.mvn_shared.specs.Files.{Files, file_at}
use Rattle.goal_types.specs.declared.goal.OwnBytes.{OwnBytes}
use Rattle.goal_types.specs.declared.goal.PathEntry.{PathEntry}
use Rattle.build_core.specs.Locks.{below}
use Rattle.build_core.specs.OneThread.{name_of, origin_bytes, path_entry}
use Rattle.build_core.specs.declared.plan.Entry.{Entry}
use Rattle.build_core.specs.declared.plan.Origin.{Origin}
use Rattle.build_core.specs.declared.plan.Origin.TheVariants as origin
use Rattle.build_core.specs.declared.plan.Plan.{Plan}
use Rattle.build_core.specs.declared.plan.PlanModule.{PlanModule}
use Rattle.event_core.specs.HowFar.{is_this}
use Rattle.scripts.specs.Outlines.{file_of, files_of, is_listed, once_more}
use Rattle.event_core.proofs.Weights.{nothing_is}
use Rattle.run_law.specs.Gathered.{files_before, with_file}
use Rattle.run_law.proofs.Paths.{more}
use Rattle.crew_turns.specs.Parts.{IsPart, is_this_file, place_before}

-- what is found passes the test
found_met : (p : ℕ → Bool) (xs : List ℕ) (x : ℕ) → find p xs ≡ Some x → p x ≡ true
found_met p [] x is = absurd (nothing_is x is)
found_met p (y ∷ xs) x is = by (p y) refl (found_met p xs x) is
  where
    by : (b : Bool) → p y ≡ b → (find p xs ≡ Some x → p x ≡ true) → (if b then Some y else find p xs) ≡ Some x → p x ≡ true
    by true e again is = subst (λ z. p z ≡ true) (ap (λ o. unwrap_or o y) is) e
    by false e again is = again is

same_number : (a b : ℕ) → nat_eq a b ≡ true → a ≡ b
same_number a b is = grind (arith, nat_tests, is)

module _ (plan : Plan) (files : Files) (outputs : List (List OwnBytes)) (file : ℕ) where
  of_file : (e : Entry) → is_this_file file e ≡ true → origin_bytes plan files outputs e.origin ≡ file_at files (name_of plan file)
  of_file e this = by e.origin this
    where
      by : (o : Origin) → is_this (file_of o) file ≡ true → origin_bytes plan files outputs o ≡ file_at files (name_of plan file)
      by (origin.File f) this = ap (λ n. file_at files (name_of plan n)) (same_number f file this)
      by (origin.Module m s) this = absurd (false≢true this)
      by origin.Nothing this = absurd (false≢true this)

  again_at : (es : List Entry) (count i : ℕ) (p : PathEntry) → slice_get (map (path_entry plan files outputs) (take count es)) i ≡ Some p → option_map_or (is_this_file file) (slice_get es i) false ≡ true
      → p.bytes ≡ file_at files (name_of plan file)
  again_at [] zero i p is this = absurd (nothing_is p is)
  again_at [] (suc count) i p is this = absurd (nothing_is p is)
  again_at (x ∷ es) zero i p is this = absurd (nothing_is p is)
  again_at (x ∷ es) (suc count) zero p is this = ap (λ (q : PathEntry). q.bytes) (sym (ap (λ o. unwrap_or o (path_entry plan files outputs x)) is)) ∙ of_file x this
  again_at (x ∷ es) (suc count) (suc i) p is this = again_at es count i p is this

  -- an entry that was gathered from the file has its bytes
  pub again : (entries : List Entry) (count before : ℕ) (paths : List PathEntry) (p : PathEntry) → place_before entries count file ≡ Some before → IsPart plan files outputs entries count paths → slice_get paths before ≡ Some p
      → p.bytes ≡ file_at files (name_of plan file)
  again entries count before paths p found are is =
      again_at entries count before p (ap (λ ps. slice_get ps before) (sym are) ∙ is) (found_met (λ at. option_map_or (is_this_file file) (slice_get entries at) false) (below count) before found)

-- ---- a file that no entry comes from isn't among theirs

taken_all : {A : Type 0} (xs : List A) (n : ℕ) → slice_get xs n ≡ None → take (suc n) xs ≡ take n xs
taken_all [] zero is = refl
taken_all [] (suc n) is = refl
taken_all (x ∷ xs) zero is = absurd (nothing_is x (sym is))
taken_all (x ∷ xs) (suc n) is = ap (λ ys. x ∷ ys) (taken_all xs n is)

still_new : (file : ℕ) (met : List ℕ) (o : Option ℕ) → is_listed file met ≡ false → is_this o file ≡ false → is_listed file (with_file met o) ≡ false
still_new file met None new other = new
still_new file met (Some f) new other = by (is_listed f met)
  where
    by : (b : Bool) → is_listed file (if b then met else met ++ f ∷ []) ≡ false
    by true = new
    by false = list_any-append (λ y. nat_eq y file) met (f ∷ []) ∙ rw new (rw other refl)

module _ (m : PlanModule) (file : ℕ) where
  abbrev test : ℕ → Bool
  test at = option_map_or (is_this_file file) (slice_get m.entries at) false

  one_on : (n : ℕ) → is_listed file (files_before m n) ≡ false → test n ≡ false → is_listed file (files_before m (suc n)) ≡ false
  one_on n new other = by (slice_get m.entries n) refl
    where
      by : (o : Option Entry) → slice_get m.entries n ≡ o → is_listed file (files_before m (suc n)) ≡ false
      by None e = ap (λ es. is_listed file (fold once_more [] (files_of es))) (taken_all m.entries n e) ∙ new
      by (Some x) e =
          let next : suc n ≡ n + 1 = omega arith in
          ap (λ k. is_listed file (files_before m k)) next ∙ ap (is_listed file) (more m n x e)
          ∙ still_new file (files_before m n) (file_of x.origin) new (sym (ap (λ o. option_map_or (is_this_file file) o false) e) ∙ other)

  none_before : (n : ℕ) → find test (below (suc n)) ≡ None → (find test (below n) ≡ None) × (test n ≡ false)
  none_before n none = by (find test (below n)) refl (test n) refl (sym (find-append test (below n) (n ∷ [])) ∙ none)
    where
      by : (o : Option ℕ) → find test (below n) ≡ o → (b : Bool) → test n ≡ b → option_or o (if b then Some n else None) ≡ None → (find test (below n) ≡ None) × (test n ≡ false)
      by (Some x) e b t is = absurd (nothing_is x (sym is))
      by None e true t is = absurd (nothing_is n (sym is))
      by None e false t is = (e, t)

  -- a file that no entry so far comes from is new
  pub fresh : (count : ℕ) → place_before m.entries count file ≡ None → is_listed file (files_before m count) ≡ false
  fresh zero none = by m.entries
    where
      by : (es : List Entry) → is_listed file (fold once_more [] (files_of (take 0 es))) ≡ false
      by [] = refl
      by (e ∷ es) = refl
  fresh (suc n) none = let parts = none_before n none in one_on n (fresh n parts.0) parts.1
