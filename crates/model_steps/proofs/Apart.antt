-- A list of which each artifact has one item is settled.
use Rattle.std.proofs.Common.{◌≡◌, ℕ, suc, ◌+◌, ◌<◌, Bool, true, false, not, ◌&&◌, ◌||◌, List, [], ◌∷◌, ◌++◌, length, get_or, drop, fold, refl, arith, sym, ap, ◌∙◌, if◌then◌else◌}
use Rattle.std.specs.List.{list_any}
use Rattle.std.specs.Str.{bytes_eq}
use Rattle.std.proofs.Math.Seq.{drop-cons}
use Rattle.std.proofs.lemmas.Bool.{false≢true}
use Rattle.std.proofs.lemmas.Slice.Eq.{bytes_eq-Decides}
use Rattle.mvn_base.specs.declared.key.Key.{Key}
use Rattle.model_merge.specs.Keyed.{put, same_key, settled}
use Rattle.model_steps.specs.Once.{are_new}

text_self : (t : List ℕ) → bytes_eq t t ≡ true
text_self t = (bytes_eq-Decides t t).1 refl

and_one : (a b : Bool) → (a && b) ≡ true → a ≡ true
and_one true b e = refl
and_one false b e = e

and_other : (a b : Bool) → (a && b) ≡ true → b ≡ true
and_other true b e = e
and_other false b e = absurd (false≢true e)

not_true : (b : Bool) → not b ≡ true → b ≡ false
not_true true e = absurd (false≢true e)
not_true false e = refl

or_none : (a b : Bool) → (a || b) ≡ false → a ≡ false
or_none true b e = e
or_none false b e = refl

or_rest : (a b : Bool) → (a || b) ≡ false → b ≡ false
or_rest true b e = absurd (false≢true (sym e))
or_rest false b e = e

-- equal keys name one artifact
one_artifact : (a b : Key) → same_key a b ≡ true → a.artifact ≡ b.artifact
one_artifact a b e = (bytes_eq-Decides a.artifact b.artifact).0 (and_one (bytes_eq a.artifact b.artifact) _ (and_other (bytes_eq a.group b.group) _ e))

module _ {T : Type 0} (key : T → Key) where
  -- whether an item of a list names an artifact
  abbrev names : List T → List ℕ → Bool
  names items name = list_any (λ x. bytes_eq (key x).artifact name) items

  -- an item whose artifact isn't there stands at the end
  put_new : (items : List T) (x : T) → names items (key x).artifact ≡ false → put key items x ≡ items ++ x ∷ []
  put_new [] x new = refl
  put_new (y ∷ items) x new = by (same_key (key x) (key y)) refl (put_new items x (or_rest (bytes_eq (key y).artifact (key x).artifact) (names items (key x).artifact) new))
    where
      by : (b : Bool) → same_key (key x) (key y) ≡ b → put key items x ≡ items ++ x ∷ [] → (if b then x ∷ items else y ∷ put key items x) ≡ y ∷ (items ++ x ∷ [])
      by true s rest =
          absurd (false≢true (sym (or_none (bytes_eq (key y).artifact (key x).artifact) (names items (key x).artifact) new)
          ∙ ap (λ t. bytes_eq (key y).artifact t) (one_artifact (key x) (key y) s) ∙ text_self (key y).artifact))
      by false s rest = ap (λ l. y ∷ l) rest

  names_more : (items : List T) (x : T) (name : List ℕ) → names (items ++ x ∷ []) name ≡ (bytes_eq (key x).artifact name || names items name)
  names_more [] x name = refl
  names_more (y ∷ items) x name = ap (λ b. bytes_eq (key y).artifact name || b) (names_more items x name) ∙ swap (bytes_eq (key y).artifact name) (bytes_eq (key x).artifact name) (names items name)
    where
      swap : (a b c : Bool) → (a || (b || c)) ≡ (b || (a || c))
      swap true true c = refl
      swap true false c = refl
      swap false true c = refl
      swap false false c = refl

  nested : (xs : List T) (x : T) (ys : List T) → (xs ++ x ∷ []) ++ ys ≡ xs ++ x ∷ ys
  nested [] x ys = refl
  nested (y ∷ xs) x ys = ap (λ l. y ∷ l) (nested xs x ys)

  none_behind : (xs : List T) → xs ≡ xs ++ []
  none_behind [] = refl
  none_behind (x ∷ xs) = ap (λ l. x ∷ l) (none_behind xs)

  -- what is told apart may be told apart by any test that is the same for each name
  alike : (there other : List ℕ → Bool) (items : List T) → ((name : List ℕ) → there name ≡ other name) → are_new key there items ≡ are_new key other items
  alike there other items e = λ i. are_new key (λ name. e name i) items

  kept_behind : (done items : List T) → are_new key (names done) items ≡ true → fold (put key) done items ≡ done ++ items
  kept_behind done [] new = none_behind done
  kept_behind done (x ∷ items) new =
      ap (λ l. fold (put key) l items) (put_new done x (not_true (names done (key x).artifact) (and_one (not (names done (key x).artifact)) (are_new key (λ name. bytes_eq (key x).artifact name || names done name) items) new)))
      ∙ kept_behind (done ++ x ∷ []) items
      (alike (names (done ++ x ∷ [])) (λ name. bytes_eq (key x).artifact name || names done name) items (names_more done x)
      ∙ and_other (not (names done (key x).artifact)) (are_new key (λ name. bytes_eq (key x).artifact name || names done name) items) new)
      ∙ nested done x items

  pub kept : (items list : List T) → are_new key (λ name. false) items ≡ true → list ≡ items → list ≡ settled key items
  kept items list new is = is ∙ sym (kept_behind [] items new)

  -- the turns of the loop: an item more, and one whose artifact is there
  pub one_more : (items : List T) (i : ℕ) (x : T) (old new : List ℕ → Bool) (whole : Bool) → i < length items → x ≡ get_or items i x
      → ((name : List ℕ) → new name ≡ (bytes_eq (key x).artifact name || old name)) → old (key x).artifact ≡ false
      → are_new key old (drop i items) ≡ whole → are_new key new (drop (i + 1) items) ≡ whole
  one_more items i x old new whole low is more apart so =
      let one : i + 1 ≡ suc i = omega arith in
      ap (λ k. are_new key new (drop k items)) one
      ∙ alike new (λ name. bytes_eq (key x).artifact name || old name) (drop (suc i) items) more
      ∙ ap (λ b. not b && are_new key (λ name. bytes_eq (key x).artifact name || old name) (drop (suc i) items)) (sym apart)
      ∙ ap (λ y. are_new key old (y ∷ drop (suc i) items)) is
      ∙ sym (ap (are_new key old) (drop-cons items i x low))
      ∙ so

  pub one_again : (items : List T) (i : ℕ) (x : T) (old : List ℕ → Bool) (whole : Bool) → i < length items → x ≡ get_or items i x
      → old (key x).artifact ≡ true → are_new key old (drop i items) ≡ whole → false ≡ whole
  one_again items i x old whole low is there so =
      ap (λ b. not b && are_new key (λ name. bytes_eq (key x).artifact name || old name) (drop (suc i) items)) (sym there)
      ∙ ap (λ y. are_new key old (y ∷ drop (suc i) items)) is
      ∙ sym (ap (are_new key old) (drop-cons items i x low))
      ∙ so

  -- so of an item that is lent, by what adding its artifact says
  pub turned : (items : List T) (i : ℕ) (x : T) (old new : List ℕ → Bool) (whole added : Bool) (name : List ℕ) (lent : T) → i < length items → x ≡ get_or items i x
      → lent ≡ x → name ≡ (key lent).artifact → added ≡ true → added ≡ not (old name) → ((t : List ℕ) → new t ≡ (bytes_eq name t || old t))
      → are_new key old (drop i items) ≡ whole → are_new key new (drop (i + 1) items) ≡ whole
  turned items i x old new whole added name lent low is same named added_is alone more so =
      let n : name ≡ (key x).artifact = named ∙ ap (λ y. (key y).artifact) same in
      one_more items i x old new whole low is
      (λ t. more t ∙ ap (λ m. bytes_eq m t || old t) n)
      (ap old (sym n) ∙ not_true (old name) (sym alone ∙ added_is))
      so
