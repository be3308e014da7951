-- Texts in ascending order, and files by their first mention: the members of both.
use Rattle.std.proofs.Common.{◌≡◌, ◌⊎◌, inl, inr, ℕ, Bool, true, false, List, [], ◌∷◌, ◌++◌, is_some, Some, cond, fold, refl, sym, ap, subst, ◌∙◌, if◌then◌else◌}
use Rattle.std.specs.List.{list_any}
use Rattle.std.specs.Ordering.{nat_cmp, eq_by_cmp}
use Rattle.std.specs.Str.{bytes_eq}
use Rattle.std.specs.Cmp.Lexicographic.{slice_cmp, nat_list_cmp_total}
use Rattle.std.specs.FinMap.{get-insert, get-empty, contains_key-keys}
use Rattle.std.specs.FinMap as finite
use Rattle.std.proofs.lemmas.Bool.{false≢true}
use Rattle.std.proofs.lemmas.Slice.Eq.{bytes_eq-Decides}
use Rattle.mvn_shared.specs.Files.{Files}
use Rattle.classpaths.specs.Classpaths.{with_name}
use Rattle.event_core.specs.SoundPlans.{TextsClimb, same_text}
use Rattle.module_plan.specs.Numbers.{ascending, with_text, with_texts}
use Rattle.plan_law.proofs.Gavs.{left_of, right_of}
use Rattle.plan_law.proofs.Keys.{key_in, keys_climb, tied, tied_self}
use Rattle.plan_law.proofs.Members.{Apart, IsIn, apart_push, in_either, in_left, in_right, passing, some_passes}
use Rattle.std.proofs.Common.{nat_eq, eqb-true}

abbrev has_key : Files → List ℕ → Bool
has_key texts x = is_some (finite.get texts x)

-- a text more
one_more : (texts : Files) (k x : List ℕ) → has_key (with_text texts k) x ≡ true → (x ≡ k) ⊎ (has_key texts x ≡ true)
one_more texts k x is = by (eq_by_cmp (slice_cmp nat_cmp) x k) refl (sym (ap is_some (get-insert nat_list_cmp_total texts k [] x)) ∙ is)
  where
    by : (b : Bool) → eq_by_cmp (slice_cmp nat_cmp) x k ≡ b → is_some (cond b (Some []) (finite.get texts x)) ≡ true → (x ≡ k) ⊎ (has_key texts x ≡ true)
    by true e h = inl (tied x k e)
    by false e h = inr h

its_own : (texts : Files) (k x : List ℕ) → k ≡ x → has_key (with_text texts k) x ≡ true
its_own texts k x e = ap is_some (get-insert nat_list_cmp_total texts k [] x)
    ∙ ap (λ b. is_some (cond b (Some []) (finite.get texts x))) (subst (λ y. eq_by_cmp (slice_cmp nat_cmp) x y ≡ true) (sym e) (tied_self x))

still : (texts : Files) (k x : List ℕ) → has_key texts x ≡ true → has_key (with_text texts k) x ≡ true
still texts k x is = ap is_some (get-insert nat_list_cmp_total texts k [] x) ∙ by (eq_by_cmp (slice_cmp nat_cmp) x k)
  where
    by : (b : Bool) → is_some (cond b (Some []) (finite.get texts x)) ≡ true
    by true = refl
    by false = is

stays : (texts : Files) (more : List (List ℕ)) (x : List ℕ) → has_key texts x ≡ true → has_key (with_texts texts more) x ≡ true
stays texts [] x is = is
stays texts (k ∷ more) x is = stays (with_text texts k) more x (still texts k x is)

comes : (texts : Files) (more : List (List ℕ)) (x : List ℕ) → IsIn more x → has_key (with_texts texts more) x ≡ true
comes texts [] x there = absurd there
comes texts (k ∷ more) x (inl e) = stays (with_text texts k) more x (its_own texts k x e)
comes texts (k ∷ more) x (inr there) = comes (with_text texts k) more x there

came : (texts : Files) (more : List (List ℕ)) (x : List ℕ) → has_key (with_texts texts more) x ≡ true → (has_key texts x ≡ true) ⊎ IsIn more x
came texts [] x is = inl is
came texts (k ∷ more) x is = by (came (with_text texts k) more x is)
  where
    by : (has_key (with_text texts k) x ≡ true) ⊎ IsIn more x → (has_key texts x ≡ true) ⊎ IsIn (k ∷ more) x
    by (inr there) = inr (inr there)
    by (inl h) = which (one_more texts k x h)
      where
        which : (x ≡ k) ⊎ (has_key texts x ≡ true) → (has_key texts x ≡ true) ⊎ IsIn (k ∷ more) x
        which (inl e) = inr (inl (sym e))
        which (inr old) = inl old

-- they ascend
pub ascending_climb : (texts : List (List ℕ)) → TextsClimb (ascending texts)
unfolding ascending
ascending_climb texts = keys_climb (with_texts finite.empty texts)

-- and they are those of the list
pub in_ascending : (texts : List (List ℕ)) (x : List ℕ) → IsIn texts x → IsIn (ascending texts) x
unfolding ascending
in_ascending texts x there = key_in (with_texts finite.empty texts) x (comes finite.empty texts x there)

pub from_ascending : (texts : List (List ℕ)) (x : List ℕ) → IsIn (ascending texts) x → IsIn texts x
unfolding ascending
from_ascending texts x there = by (came finite.empty texts x key)
  where
    key : has_key (with_texts finite.empty texts) x ≡ true
    key = contains_key-keys (with_texts finite.empty texts) x ∙ some_passes (eq_by_cmp (slice_cmp nat_cmp) x) (finite.keys (with_texts finite.empty texts)) x there (tied_self x)

    by : (has_key finite.empty x ≡ true) ⊎ IsIn texts x → IsIn texts x
    by (inl h) = absurd (false≢true (sym (ap is_some (get-empty (slice_cmp nat_cmp) x)) ∙ h))
    by (inr there) = there

-- ---- names, each once, by their first mention

one_name : (names : List (List ℕ)) (x y : List ℕ) → IsIn (with_name names x) y → IsIn names y ⊎ (x ≡ y)
one_name names x y = by (list_any (bytes_eq x) names)
  where
    last : IsIn names y ⊎ IsIn (x ∷ []) y → IsIn names y ⊎ (x ≡ y)
    last (inl a) = inl a
    last (inr (inl e)) = inr e
    last (inr (inr b)) = absurd b

    by : (b : Bool) → IsIn (if b then names else names ++ x ∷ []) y → IsIn names y ⊎ (x ≡ y)
    by true h = inl h
    by false h = last (in_either names (x ∷ []) y h)

name_stays : (names : List (List ℕ)) (x y : List ℕ) → IsIn names y → IsIn (with_name names x) y
name_stays names x y there = by (list_any (bytes_eq x) names)
  where
    by : (b : Bool) → IsIn (if b then names else names ++ x ∷ []) y
    by true = there
    by false = in_left names (x ∷ []) y there

name_comes : (names : List (List ℕ)) (x : List ℕ) → IsIn (with_name names x) x
name_comes names x = by (list_any (bytes_eq x) names) refl
  where
    by : (b : Bool) → list_any (bytes_eq x) names ≡ b → IsIn (if b then names else names ++ x ∷ []) x
    by true e = let found = passing (bytes_eq x) names e in subst (λ y. IsIn names y) (sym ((bytes_eq-Decides x found.0).0 found.2)) found.1
    by false e = in_right names (x ∷ []) x (inl refl)

names_stay : (names more : List (List ℕ)) (y : List ℕ) → IsIn names y → IsIn (fold with_name names more) y
names_stay names [] y there = there
names_stay names (x ∷ more) y there = names_stay (with_name names x) more y (name_stays names x y there)

pub in_fold : (names more : List (List ℕ)) (y : List ℕ) → IsIn more y → IsIn (fold with_name names more) y
in_fold names [] y there = absurd there
in_fold names (x ∷ more) y (inl e) = subst (λ z. IsIn (fold with_name (with_name names x) more) z) e (names_stay (with_name names x) more x (name_comes names x))
in_fold names (x ∷ more) y (inr there) = in_fold (with_name names x) more y there

pub from_fold : (names more : List (List ℕ)) (y : List ℕ) → IsIn (fold with_name names more) y → IsIn names y ⊎ IsIn more y
from_fold names [] y there = inl there
from_fold names (x ∷ more) y there = by (from_fold (with_name names x) more y there)
  where
    by : IsIn (with_name names x) y ⊎ IsIn more y → IsIn names y ⊎ IsIn (x ∷ more) y
    by (inr b) = inr (inr b)
    by (inl a) = which (one_name names x y a)
      where
        which : IsIn names y ⊎ (x ≡ y) → IsIn names y ⊎ IsIn (x ∷ more) y
        which (inl old) = inl old
        which (inr e) = inr (inl e)

once_more : (names : List (List ℕ)) (x : List ℕ) → Apart names → Apart (with_name names x)
once_more names x apart = by (list_any (bytes_eq x) names) refl
  where
    by : (b : Bool) → list_any (bytes_eq x) names ≡ b → Apart (if b then names else names ++ x ∷ [])
    by true e = apart
    by false e = apart_push names x apart (λ there. false≢true (sym e ∙ some_passes (bytes_eq x) names x there ((bytes_eq-Decides x x).1 refl)))

pub fold_apart : (names more : List (List ℕ)) → Apart names → Apart (fold with_name names more)
fold_apart names [] apart = apart
fold_apart names (x ∷ more) apart = fold_apart (with_name names x) more (once_more names x apart)

-- the test by which a plan's files differ
pub text_same : (a b : List ℕ) → same_text a b ≡ true → a ≡ b
text_same [] [] e = refl
text_same [] (y ∷ b) e = absurd (false≢true e)
text_same (x ∷ a) [] e = absurd (false≢true e)
text_same (x ∷ a) (y ∷ b) e = λ i. eqb-true x y (left_of (nat_eq x y) (same_text a b) e) i ∷ text_same a b (right_of (nat_eq x y) (same_text a b) e) i
