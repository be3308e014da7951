-- Lists whose items are told apart by a key: which keys they have, each once, and what is found under a key.
use Rattle.std.proofs.Common.{◌≡◌, ℕ, Bool, true, false, not, ◌&&◌, ◌||◌, List, [], ◌∷◌, ◌++◌, map, fold, Option, Some, None, is_some, is_none, refl, sym, ap, ◌∙◌, if◌then◌else◌}
use Rattle.std.specs.Option.{option_or}
use Rattle.std.specs.Str.{bytes_eq}
use Rattle.std.proofs.lemmas.Bool.{false≢true}
use Rattle.std.proofs.lemmas.Slice.Eq.{bytes_eq-Decides}
use Rattle.mvn_base.specs.declared.key.Key.{Key}
use Rattle.model_merge.specs.Keyed.{item_of, others, put, same_key, settled, with_others}
use Rattle.model_merge.proofs.UnderKeys.{and_left, and_right, same_key_is}
use Rattle.model_laws.specs.Keys.{each_once, has, last_of}

text_self : (t : List ℕ) → bytes_eq t t ≡ true
text_self t = (bytes_eq-Decides t t).1 refl

pub same_key_self : (k : Key) → same_key k k ≡ true
same_key_self k =
    ap (λ b. b && (bytes_eq k.artifact k.artifact && (bytes_eq k.kind k.kind && bytes_eq k.classifier k.classifier))) (text_self k.group)
    ∙ ap (λ b. b && (bytes_eq k.kind k.kind && bytes_eq k.classifier k.classifier)) (text_self k.artifact)
    ∙ ap (λ b. b && bytes_eq k.classifier k.classifier) (text_self k.kind)
    ∙ text_self k.classifier

true_not_false : (b : Bool) → b ≡ true → b ≡ false → ⊥
true_not_false b t f = false≢true (sym f ∙ t)

pub same_key_flip : (a b : Key) → same_key a b ≡ same_key b a
same_key_flip a b = by (same_key a b) (same_key b a) refl refl
  where
    by : (s t : Bool) → same_key a b ≡ s → same_key b a ≡ t → same_key a b ≡ same_key b a
    by true true s t = s ∙ sym t
    by false false s t = s ∙ sym t
    by true false s t = absurd (true_not_false (same_key b a) (ap (λ k. same_key k a) (sym (same_key_is a b s)) ∙ same_key_self a) t)
    by false true s t = absurd (true_not_false (same_key a b) (ap (λ k. same_key k b) (sym (same_key_is b a t)) ∙ same_key_self b) s)

-- equal keys are found alike
like : (k a b : Key) → same_key a b ≡ true → same_key k a ≡ same_key k b
like k a b s = ap (same_key k) (same_key_is a b s)

or_twice : (a h : Bool) → (a || (a || h)) ≡ (a || h)
or_twice true h = refl
or_twice false h = refl

or_swap : (a b h : Bool) → (b || (a || h)) ≡ (a || (b || h))
or_swap true true h = refl
or_swap true false h = refl
or_swap false true h = refl
or_swap false false h = refl

or_turn : (a d h : Bool) → ((a || d) || h) ≡ (d || (a || h))
or_turn true true h = refl
or_turn true false h = refl
or_turn false true h = refl
or_turn false false h = refl

not_or : (a b : Bool) → not a ≡ true → not b ≡ true → not (a || b) ≡ true
not_or true b e f = e
not_or false b e f = f

pub both_true : (a b : Bool) → a ≡ true → b ≡ true → (a && b) ≡ true
both_true true b e f = f
both_true false b e f = e

pub not_true : (a : Bool) → not a ≡ true → a ≡ false
not_true true e = absurd (false≢true e)
not_true false e = refl

module _ {T : Type 0} (key : T → Key) where
  -- an item more gives its key
  pub has_put : (items : List T) (x : T) (k : Key) → has key (put key items x) k ≡ (same_key k (key x) || has key items k)
  has_put [] x k = refl
  has_put (y ∷ items) x k = by (same_key (key x) (key y)) refl (has_put items x k)
    where
      by : (b : Bool) → same_key (key x) (key y) ≡ b → has key (put key items x) k ≡ (same_key k (key x) || has key items k)
          → has key (if b then x ∷ items else y ∷ put key items x) k ≡ (same_key k (key x) || (same_key k (key y) || has key items k))
      by true s further = sym (or_twice (same_key k (key x)) (has key items k)) ∙ ap (λ b. same_key k (key x) || (b || has key items k)) (like k (key x) (key y) s)
      by false s further = ap (λ b. same_key k (key y) || b) further ∙ or_swap (same_key k (key x)) (same_key k (key y)) (has key items k)

  has_folded : (done items : List T) (k : Key) → has key (fold (put key) done items) k ≡ (has key done k || has key items k)
  has_folded done [] k = none (has key done k)
    where
      none : (b : Bool) → b ≡ (b || false)
      none true = refl
      none false = refl
  has_folded done (x ∷ items) k =
      has_folded (put key done x) items k
      ∙ ap (λ b. b || has key items k) (has_put done x k)
      ∙ or_turn (same_key k (key x)) (has key done k) (has key items k)

  -- a settled list has the same keys
  pub has_settled : (items : List T) (k : Key) → has key (settled key items) k ≡ has key items k
  has_settled items k = has_folded [] items k

  -- an item more stands once
  pub once_put : (items : List T) (x : T) → each_once key items ≡ true → each_once key (put key items x) ≡ true
  once_put [] x once = refl
  once_put (y ∷ items) x once = by (same_key (key x) (key y)) refl (once_put items x (and_right (not (has key items (key y))) (each_once key items) once))
    where
      by : (b : Bool) → same_key (key x) (key y) ≡ b → each_once key (put key items x) ≡ true → each_once key (if b then x ∷ items else y ∷ put key items x) ≡ true
      by true s further = ap (λ k. not (has key items k) && each_once key items) (same_key_is (key x) (key y) s) ∙ once
      by false s further =
          both_true (not (has key (put key items x) (key y))) (each_once key (put key items x))
          (ap not (has_put items x (key y)) ∙ ap (λ b. not (b || has key items (key y))) (same_key_flip (key y) (key x) ∙ s) ∙ and_left (not (has key items (key y))) (each_once key items) once)
          further

  once_folded : (done items : List T) → each_once key done ≡ true → each_once key (fold (put key) done items) ≡ true
  once_folded done [] once = once
  once_folded done (x ∷ items) once = once_folded (put key done x) items (once_put done x once)

  -- a settled list has each key once
  pub once_settled : (items : List T) → each_once key (settled key items) ≡ true
  once_settled items = once_folded [] items refl

  -- the keys of two lists, one behind the other
  pub has_append : (xs ys : List T) (k : Key) → has key (xs ++ ys) k ≡ (has key xs k || has key ys k)
  has_append [] ys k = refl
  has_append (x ∷ xs) ys k = ap (λ b. same_key k (key x) || b) (has_append xs ys k) ∙ nested (same_key k (key x)) (has key xs k) (has key ys k)
    where
      nested : (a b c : Bool) → (a || (b || c)) ≡ ((a || b) || c)
      nested true b c = refl
      nested false b c = refl

  -- an item is found exactly where its key is there
  pub found_has : (items : List T) (k : Key) → is_none (item_of key items k) ≡ not (has key items k)
  found_has [] k = refl
  found_has (x ∷ items) k = by (same_key k (key x)) (found_has items k)
    where
      by : (b : Bool) → is_none (item_of key items k) ≡ not (has key items k) → is_none (if b then Some x else item_of key items k) ≡ not (b || has key items k)
      by true further = refl
      by false further = further

  pub has_found : (items : List T) (k : Key) → is_some (item_of key items k) ≡ has key items k
  has_found [] k = refl
  has_found (x ∷ items) k = by (same_key k (key x)) (has_found items k)
    where
      by : (b : Bool) → is_some (item_of key items k) ≡ has key items k → is_some (if b then Some x else item_of key items k) ≡ (b || has key items k)
      by true further = refl
      by false further = further

  -- of the others none has a key of the first list's, and each of theirs stands as often as before
  pub has_others : (items further : List T) (k : Key) → has key (others key items further) k ≡ (not (has key items k) && has key further k)
  has_others items [] k = none (not (has key items k))
    where
      none : (b : Bool) → false ≡ (b && false)
      none true = refl
      none false = refl
  has_others items (x ∷ further) k = by (is_none (item_of key items (key x))) refl (same_key k (key x)) refl (has_others items further k)
    where
      same : same_key k (key x) ≡ true → not (has key items k) ≡ is_none (item_of key items (key x))
      same s = ap (λ k. not (has key items k)) (same_key_is k (key x) s) ∙ sym (found_has items (key x))

      by : (n : Bool) → is_none (item_of key items (key x)) ≡ n → (s : Bool) → same_key k (key x) ≡ s → has key (others key items further) k ≡ (not (has key items k) && has key further k)
          → has key (if n then x ∷ others key items further else others key items further) k ≡ (not (has key items k) && (same_key k (key x) || has key further k))
      by true n true s rest = ap (λ b. b || has key (others key items further) k) s ∙ sym (ap (λ b. b && (same_key k (key x) || has key further k)) (same s ∙ n) ∙ ap (λ b. b || has key further k) s)
      by true n false s rest = ap (λ b. b || has key (others key items further) k) s ∙ rest ∙ ap (λ b. not (has key items k) && (b || has key further k)) (sym s)
      by false n true s rest =
          rest
          ∙ ap (λ b. b && has key further k) (same s ∙ n)
          ∙ sym (ap (λ b. b && (same_key k (key x) || has key further k)) (same s ∙ n))
      by false n false s rest = rest ∙ ap (λ b. not (has key items k) && (b || has key further k)) (sym s)

  pub once_others : (items further : List T) → each_once key further ≡ true → each_once key (others key items further) ≡ true
  once_others items [] once = refl
  once_others items (x ∷ further) once = by (is_none (item_of key items (key x))) (once_others items further (and_right (not (has key further (key x))) (each_once key further) once))
    where
      by : (b : Bool) → each_once key (others key items further) ≡ true → each_once key (if b then x ∷ others key items further else others key items further) ≡ true
      by true rest =
          both_true (not (has key (others key items further) (key x))) (each_once key (others key items further))
          (ap not (has_others items further (key x)) ∙ ap (λ b. not (not (has key items (key x)) && b)) (not_true (has key further (key x)) (and_left (not (has key further (key x))) (each_once key further) once)) ∙ never (not (has key items (key x))))
          rest
        where
          never : (b : Bool) → not (b && false) ≡ true
          never true = refl
          never false = refl
      by false rest = rest

  -- one list behind another, if no key of the one is the other's
  pub once_append : (xs ys : List T) → each_once key xs ≡ true → each_once key ys ≡ true → ((k : Key) → has key xs k ≡ true → has key ys k ≡ false) → each_once key (xs ++ ys) ≡ true
  once_append [] ys first second apart = second
  once_append (x ∷ xs) ys first second apart =
      both_true (not (has key (xs ++ ys) (key x))) (each_once key (xs ++ ys))
      (ap not (has_append xs ys (key x) ∙ ap (λ b. b || has key ys (key x)) (not_true (has key xs (key x)) (and_left (not (has key xs (key x))) (each_once key xs) first)) ∙ apart (key x) (ap (λ b. b || has key xs (key x)) (same_key_self (key x)))))
      (once_append xs ys (and_right (not (has key xs (key x))) (each_once key xs) first) second (λ k there. apart k (behind (same_key k (key x)) (has key xs k) there)))
    where
      behind : (a b : Bool) → b ≡ true → (a || b) ≡ true
      behind true b e = refl
      behind false b e = e

  -- a list and the others of a second have the keys of both, each once
  pub keys_with_others : (first second : List T) (k : Key) → has key (first ++ others key first second) k ≡ (has key first k || has key second k)
  keys_with_others first second k = has_append first (others key first second) k ∙ ap (λ b. has key first k || b) (has_others first second k) ∙ by (has key first k) (has key second k)
    where
      by : (a b : Bool) → (a || (not a && b)) ≡ (a || b)
      by true b = refl
      by false b = refl

  pub once_with_others : (first second : List T) → each_once key first ≡ true → each_once key second ≡ true → each_once key (first ++ others key first second) ≡ true
  once_with_others first second one other =
      once_append first (others key first second) one (once_others first second other)
      (λ k there. has_others first second k ∙ ap (λ b. not b && has key second k) there)

  -- what keeps keys keeps them each once
  pub has_map : (f : T → T) → ((x : T) → key (f x) ≡ key x) → (items : List T) (k : Key) → has key (map f items) k ≡ has key items k
  has_map f keeps [] k = refl
  has_map f keeps (x ∷ items) k = ap (λ q. same_key k q || has key (map f items) k) (keeps x) ∙ ap (λ b. same_key k (key x) || b) (has_map f keeps items k)

  pub once_map : (f : T → T) → ((x : T) → key (f x) ≡ key x) → (items : List T) → each_once key (map f items) ≡ each_once key items
  once_map f keeps [] = refl
  once_map f keeps (x ∷ items) =
      ap (λ q. not (has key (map f items) q) && each_once key (map f items)) (keeps x)
      ∙ ap (λ b. not b && each_once key (map f items)) (has_map f keeps items (key x))
      ∙ ap (λ b. not (has key items (key x)) && b) (once_map f keeps items)

  -- what is found where an item more is put
  item_put : (items : List T) (x : T) (k : Key) → item_of key (put key items x) k ≡ (if same_key k (key x) then Some x else item_of key items k)
  item_put [] x k = refl
  item_put (y ∷ items) x k = by (same_key (key x) (key y)) refl (item_put items x k)
    where
      twice : (b : Bool) (o : Option T) → (if b then Some x else o) ≡ (if b then Some x else (if b then Some y else o))
      twice true o = refl
      twice false o = refl

      swap : (a b : Bool) → (a ≡ true → b ≡ false) → (o : Option T) → (if b then Some y else (if a then Some x else o)) ≡ (if a then Some x else (if b then Some y else o))
      swap true b apart o = ap (λ b. if b then Some y else Some x) (apart refl)
      swap false b apart o = refl

      by : (b : Bool) → same_key (key x) (key y) ≡ b → item_of key (put key items x) k ≡ (if same_key k (key x) then Some x else item_of key items k)
          → item_of key (if b then x ∷ items else y ∷ put key items x) k ≡ (if same_key k (key x) then Some x else (if same_key k (key y) then Some y else item_of key items k))
      by true s rest = twice (same_key k (key x)) (item_of key items k) ∙ ap (λ b. if same_key k (key x) then Some x else (if b then Some y else item_of key items k)) (like k (key x) (key y) s)
      by false s rest =
          ap (λ o. if same_key k (key y) then Some y else o) rest
          ∙ swap (same_key k (key x)) (same_key k (key y)) (λ is. ap (λ q. same_key q (key y)) (same_key_is k (key x) is) ∙ s) (item_of key items k)

  item_folded : (done items : List T) (k : Key) → item_of key (fold (put key) done items) k ≡ option_or (last_of key items k) (item_of key done k)
  item_folded done [] k = refl
  item_folded done (x ∷ items) k =
      item_folded (put key done x) items k
      ∙ ap (option_or (last_of key items k)) (item_put done x k)
      ∙ by (last_of key items k) (same_key k (key x))
    where
      by : (o : Option T) (b : Bool) → option_or o (if b then Some x else item_of key done k) ≡ option_or (option_or o (if b then Some x else None)) (item_of key done k)
      by (Some y) b = refl
      by None true = refl
      by None false = refl

  -- in a settled list the last of each key is found
  pub item_settled : (items : List T) (k : Key) → item_of key (settled key items) k ≡ last_of key items k
  item_settled items k = item_folded [] items k ∙ none (last_of key items k)
    where
      none : (o : Option T) → option_or o None ≡ o
      none (Some x) = refl
      none None = refl

  pub item_append : (xs ys : List T) (k : Key) → item_of key (xs ++ ys) k ≡ option_or (item_of key xs k) (item_of key ys k)
  item_append [] ys k = refl
  item_append (x ∷ xs) ys k = ap (λ o. if same_key k (key x) then Some x else o) (item_append xs ys k) ∙ by (same_key k (key x))
    where
      by : (b : Bool) → (if b then Some x else option_or (item_of key xs k) (item_of key ys k)) ≡ option_or (if b then Some x else item_of key xs k) (item_of key ys k)
      by true = refl
      by false = refl

  pub item_others : (items further : List T) (k : Key) → item_of key (others key items further) k ≡ (if is_none (item_of key items k) then item_of key further k else None)
  item_others items [] k = none (is_none (item_of key items k))
    where
      none : (b : Bool) → ◌≡◌ {A = Option T} None (if b then None else None)
      none true = refl
      none false = refl
  item_others items (x ∷ further) k = by (is_none (item_of key items (key x))) refl (same_key k (key x)) refl (item_others items further k)
    where
      same : same_key k (key x) ≡ true → is_none (item_of key items k) ≡ is_none (item_of key items (key x))
      same s = ap (λ k. is_none (item_of key items k)) (same_key_is k (key x) s)

      by : (n : Bool) → is_none (item_of key items (key x)) ≡ n → (s : Bool) → same_key k (key x) ≡ s
          → item_of key (others key items further) k ≡ (if is_none (item_of key items k) then item_of key further k else None)
          → item_of key (if n then x ∷ others key items further else others key items further) k ≡ (if is_none (item_of key items k) then (if same_key k (key x) then Some x else item_of key further k) else None)
      by true n true s rest =
          ap (λ b. if b then Some x else item_of key (others key items further) k) s
          ∙ sym (ap (λ b. if b then (if same_key k (key x) then Some x else item_of key further k) else None) (same s ∙ n) ∙ ap (λ b. if b then Some x else item_of key further k) s)
      by true n false s rest =
          ap (λ b. if b then Some x else item_of key (others key items further) k) s
          ∙ rest
          ∙ ap (λ b. if is_none (item_of key items k) then (if b then Some x else item_of key further k) else None) (sym s)
      by false n true s rest =
          rest
          ∙ ap (λ b. if b then item_of key further k else None) (same s ∙ n)
          ∙ sym (ap (λ b. if b then (if same_key k (key x) then Some x else item_of key further k) else None) (same s ∙ n))
      by false n false s rest = rest ∙ ap (λ b. if is_none (item_of key items k) then (if b then Some x else item_of key further k) else None) (sym s)

  -- under a key the first list's item is found, or else the second's
  item_with : (first second : List T) (k : Key) → item_of key (first ++ others key first second) k ≡ option_or (item_of key first k) (item_of key second k)
  item_with first second k = item_append first (others key first second) k ∙ ap (option_or (item_of key first k)) (item_others first second k) ∙ by (item_of key first k)
    where
      by : (o : Option T) → option_or o (if is_none o then item_of key second k else None) ≡ option_or o (item_of key second k)
      by (Some x) = refl
      by None = refl

  pub item_with_others : (first second : List T) (k : Key) → item_of key (with_others key first second) k ≡ option_or (last_of key first k) (last_of key second k)
  item_with_others first second k =
      item_with (settled key first) (settled key second) k
      ∙ ap (λ o. option_or o (item_of key (settled key second) k)) (item_settled first k)
      ∙ ap (option_or (last_of key first k)) (item_settled second k)
