-- Items under their keys.
use Rattle.std.proofs.Common.{◌≡◌, ℕ, suc, ◌+◌, ◌<◌, Bool, true, false, ◌&&◌, List, [], ◌∷◌, map, length, get_or, drop, fold, Some, refl, arith, sym, ap, ◌∙◌, if◌then◌else◌}
use Rattle.std.specs.Map.{lookup}
use Rattle.std.specs.Str.{bytes_eq}
use Rattle.std.proofs.Math.Seq.{drop-cons}
use Rattle.std.proofs.lemmas.Bool.{false≢true}
use Rattle.std.proofs.lemmas.Slice.Eq.{bytes_eq-Decides}
use Rattle.indexmap.specs.IndexMap.{insert_entry}
use Rattle.mvn_base.specs.declared.key.Key.{Key}
use Rattle.model_merge.specs.Keyed.{item_of, keyed, put, same_key}

pub and_left : (a b : Bool) → (a && b) ≡ true → a ≡ true
and_left true b e = refl
and_left false b e = e

pub and_right : (a b : Bool) → (a && b) ≡ true → b ≡ true
and_right true b e = e
and_right false b e = absurd (false≢true e)

same_text : (a b : List ℕ) → bytes_eq a b ≡ true → a ≡ b
same_text a b e = (bytes_eq-Decides a b).0 e

pub same_key_is : (a b : Key) → same_key a b ≡ true → a ≡ b
same_key_is a b e =
    let group = same_text a.group b.group (and_left _ _ e) in
    let rest = and_right (bytes_eq a.group b.group) _ e in
    let artifact = same_text a.artifact b.artifact (and_left _ _ rest) in
    let last = and_right (bytes_eq a.artifact b.artifact) _ rest in
    let kind = same_text a.kind b.kind (and_left _ _ last) in
    let classifier = same_text a.classifier b.classifier (and_right (bytes_eq a.kind b.kind) _ last) in
    λ i. record { group = group i; artifact = artifact i; kind = kind i; classifier = classifier i }

-- a fold, one item further
pub fold_more : {A B : Type 0} (step : A → B → A) (items : List B) (done : A) (i : ℕ) (x : B) (whole : A) → i < length items → x ≡ get_or items i x → fold step done (drop i items) ≡ whole → fold step (step done x) (drop (i + 1) items) ≡ whole
fold_more step items done i x whole low is so =
    let one : i + 1 ≡ suc i = omega arith in
    ap (λ k. fold step (step done x) (drop k items)) one
    ∙ ap (λ y. fold step (step done y) (drop (suc i) items)) is
    ∙ sym (ap (fold step done) (drop-cons items i x low))
    ∙ so

module _ {T : Type 0} (key : T → Key) where
  -- one item more, as the index has it
  pub put_keyed : (items : List T) (x : T) → insert_entry same_key (keyed key items) (key x) x ≡ keyed key (put key items x)
  put_keyed [] x = refl
  put_keyed (y ∷ items) x = by (same_key (key x) (key y)) refl (put_keyed items x)
    where
      by : (b : Bool) → same_key (key x) (key y) ≡ b → insert_entry same_key (keyed key items) (key x) x ≡ keyed key (put key items x)
          → insert_entry same_key (keyed key (y ∷ items)) (key x) x ≡ keyed key (put key (y ∷ items) x)
      by true s further =
          ap (λ b. if b then (key y, x) ∷ keyed key items else (key y, y) ∷ insert_entry same_key (keyed key items) (key x) x) s
          ∙ ap (λ k. (k, x) ∷ keyed key items) (sym (same_key_is (key x) (key y) s))
          ∙ sym (ap (λ b. keyed key (if b then x ∷ items else y ∷ put key items x)) s)
      by false s further =
          ap (λ b. if b then (key y, x) ∷ keyed key items else (key y, y) ∷ insert_entry same_key (keyed key items) (key x) x) s
          ∙ ap (λ l. (key y, y) ∷ l) further
          ∙ sym (ap (λ b. keyed key (if b then x ∷ items else y ∷ put key items x)) s)

  pub put_at : (entries : List (Key × T)) (items : List T) (k : Key) (x : T) → k ≡ key x → entries ≡ keyed key items → insert_entry same_key entries k x ≡ keyed key (put key items x)
  put_at entries items k x is so = ap (λ l. insert_entry same_key l k x) so ∙ ap (λ k. insert_entry same_key (keyed key items) k x) is ∙ put_keyed items x

  pub values_keyed : (items : List T) → map (λ e. e.1) (keyed key items) ≡ items
  values_keyed [] = refl
  values_keyed (x ∷ items) = ap (λ l. x ∷ l) (values_keyed items)

  pub find_keyed : (items : List T) (k : Key) → lookup (same_key k) (keyed key items) ≡ item_of key items k
  find_keyed [] k = refl
  find_keyed (x ∷ items) k = ap (λ o. if same_key k (key x) then Some x else o) (find_keyed items k)
