-- A value for each item, one item at a time.
use Rattle.std.proofs.Common.{◌≡◌, ℕ, ◌+◌, ◌<◌, ◌≤◌, List, [], ◌∷◌, ◌++◌, drop, get_or, length, Ok, Err, refl, sym, ap, subst, ◌∙◌}
use Rattle.std.specs.List.{AllByRecursion}
use Rattle.std.proofs.lemmas.List.{append-nil, append_assoc, drop_all, drop_more, length-append}
use Rattle.pom_source.specs.Answers.{Built, Fails, ◌>>=◌}
use Rattle.pom_source.specs.Chains.{stop_fails}
use Rattle.pom_source.specs.declared.fault.BuildFault.{BuildFault}
use Rattle.project_models.specs.Found.{each}

-- all that items have, and one more
pub all_more : {A : Type 0} (P : A → Type 0) (xs : List A) (x : A) → AllByRecursion P xs → P x → AllByRecursion P (xs ++ x ∷ [])
all_more P [] x all one = (one, tt)
all_more P (y ∷ xs) x all one = (all.0, all_more P xs x all.1 one)

pub all_both : {A : Type 0} (P : A → Type 0) (xs ys : List A) → AllByRecursion P xs → AllByRecursion P ys → AllByRecursion P (xs ++ ys)
all_both P [] ys all more = more
all_both P (x ∷ xs) ys all more = (all.0, all_both P xs ys all.1 more)

-- one more
pub count_more : {A : Type 0} (done next : List A) (i : ℕ) (y : A) → next ≡ done ++ y ∷ [] → length done ≡ i → length next ≡ i + 1
count_more done next i y more count = let one : length next ≡ length done + 1 = ap length more ∙ length-append done (y ∷ []) in one ∙ ap (λ n. n + 1) count

pub none_left : {A : Type 0} (items : List A) (i : ℕ) → length items ≤ i → drop i items ≡ []
none_left items i low = drop_all i items low

module _ {A B : Type 0} (f : A → Built B) where
  -- the values so far, and those of the rest
  abbrev pub with_rest : List B → List A → Built (List B)
  with_rest done rest = each f rest >>= (λ ys. Ok (done ++ ys))

  pub none_yet : (items : List A) → with_rest [] (drop 0 items) ≡ each f items
  none_yet items = by (each f items)
    where
      by : (r : Built (List B)) → (r >>= (λ ys. Ok ([] ++ ys))) ≡ r
      by (Ok ys) = refl
      by (Err e) = refl

  step : (done : List B) (x : A) (rest : List A) (y : B) → f x ≡ Ok y → with_rest done (x ∷ rest) ≡ with_rest (done ++ y ∷ []) rest
  unfolding each
  step done x rest y is = ap (λ r. (r >>= (λ z. each f rest >>= (λ zs. Ok (z ∷ zs)))) >>= (λ ys. Ok (done ++ ys))) is ∙ by (each f rest)
    where
      by : (r : Built (List B)) → ((r >>= (λ zs. Ok (y ∷ zs))) >>= (λ ys. Ok (done ++ ys))) ≡ (r >>= (λ ys. Ok ((done ++ y ∷ []) ++ ys)))
      by (Ok ys) = ap (λ l. Ok l) (sym (append_assoc done (y ∷ []) ys))
      by (Err e) = refl

  pub one_more : (done next : List B) (items : List A) (i : ℕ) (x : A) (y : B) → i < length items → x ≡ get_or items i x → next ≡ done ++ y ∷ [] → f x ≡ Ok y
      → with_rest done (drop i items) ≡ each f items → with_rest next (drop (i + 1) items) ≡ each f items
  one_more done next items i x y low at more is so =
      ap (λ l. with_rest l (drop (i + 1) items)) more ∙ sym (step done x (drop (i + 1) items) y is)
      ∙ ap (λ l. with_rest done l) (sym (drop_more items i x low ∙ ap (λ z. z ∷ drop (i + 1) items) (sym at))) ∙ so

  fails : (done : List B) (x : A) (rest : List A) (fault : BuildFault) → Fails (f x) fault → Fails (with_rest done (x ∷ rest)) fault
  unfolding each
  fails done x rest fault h = stop_fails (f x >>= (λ z. each f rest >>= (λ zs. Ok (z ∷ zs)))) (λ ys. Ok (done ++ ys)) fault (stop_fails (f x) (λ z. each f rest >>= (λ zs. Ok (z ∷ zs))) fault h)

  pub one_fails : (done : List B) (items : List A) (i : ℕ) (x : A) (fault : BuildFault) → i < length items → x ≡ get_or items i x → Fails (f x) fault
      → with_rest done (drop i items) ≡ each f items → Fails (each f items) fault
  one_fails done items i x fault low at h so =
      subst (λ r. Fails r fault) so
      (subst (λ l. Fails (with_rest done l) fault) (sym (drop_more items i x low ∙ ap (λ z. z ∷ drop (i + 1) items) (sym at))) (fails done x (drop (i + 1) items) fault h))

  pub all_done : (done : List B) (items : List A) (i : ℕ) → drop i items ≡ [] → with_rest done (drop i items) ≡ each f items → each f items ≡ Ok done
  unfolding each
  all_done done items i none so = sym so ∙ ap (λ l. with_rest done l) none ∙ ap (λ l. Ok l) (append-nil done)
