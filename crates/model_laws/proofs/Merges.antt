-- Lists whose items are merged by their keys.
use Rattle.std.proofs.Common.{◌≡◌, Bool, true, false, not, ◌&&◌, ◌||◌, List, [], ◌∷◌, ◌++◌, map, fold, Option, Some, None, is_none, refl, sym, ap, ◌∙◌, if◌then◌else◌}
use Rattle.std.specs.List.{list_all}
use Rattle.std.specs.Option.{option_or, option_map, option_map_or}
use Rattle.mvn_base.specs.declared.key.Key.{Key}
use Rattle.model_merge.specs.Keyed.{absorb, item_of, merged_lists, others, overlaid, put, same_key, settled, underlaid, with_others}
use Rattle.model_merge.proofs.UnderKeys.{and_left, and_right, same_key_is}
use Rattle.model_laws.specs.Keys.{IsJoin, both, each_once, has, last_of}
use Rattle.model_laws.proofs.Keys.{both_true, has_append, has_others, has_put, has_settled, has_map, item_append, item_others, item_settled, once_append, once_map, once_others, once_put, once_settled, same_key_flip}

or_behind : (a b : Bool) → (a || (not a && b)) ≡ (a || b)
or_behind true b = refl
or_behind false b = refl

or_flip : (a b : Bool) → (a || b) ≡ (b || a)
or_flip true true = refl
or_flip true false = refl
or_flip false true = refl
or_flip false false = refl

module _ {T : Type 0} (key : T → Key) where
  no_item : (c : T) → ◌≡◌ {A = Option T} None (Some c) → ⊥
  no_item c e = cc

  same_item : (x c : T) → ◌≡◌ {A = Option T} (Some x) (Some c) → x ≡ c
  same_item x c e = cc

  -- what is found under a key has it
  pub found_key : (items : List T) (k : Key) (c : T) → item_of key items k ≡ Some c → key c ≡ k
  found_key [] k c is = absurd (no_item c is)
  found_key (x ∷ items) k c is = by (same_key k (key x)) refl (found_key items k c)
    where
      by : (b : Bool) → same_key k (key x) ≡ b → (item_of key items k ≡ Some c → key c ≡ k) → key c ≡ k
      by true s further = ap key (sym (same_item x c (sym (ap (λ b. if b then Some x else item_of key items k) s) ∙ is))) ∙ sym (same_key_is k (key x) s)
      by false s further = further (sym (ap (λ b. if b then Some x else item_of key items k) s) ∙ is)

  -- what changes the items of a list, but not their keys, and the others of a second list behind them
  changed_keys : (first changed second : List T) (f : T → T) → ((k : Key) → has key changed k ≡ has key first k) → ((x : T) → key (f x) ≡ key x) → (k : Key)
      → has key (changed ++ map f (others key first second)) k ≡ (has key first k || has key second k)
  changed_keys first changed second f same keeps k =
      has_append key changed (map f (others key first second)) k
      ∙ ap (λ b. b || has key (map f (others key first second)) k) (same k)
      ∙ ap (λ b. has key first k || b) (has_map key f keeps (others key first second) k ∙ has_others key first second k)
      ∙ or_behind (has key first k) (has key second k)

  changed_once : (first changed second : List T) (f : T → T) → ((k : Key) → has key changed k ≡ has key first k) → ((x : T) → key (f x) ≡ key x) → each_once key changed ≡ true → each_once key second ≡ true
      → each_once key (changed ++ map f (others key first second)) ≡ true
  changed_once first changed second f same keeps one other =
      once_append key changed (map f (others key first second)) one
      (once_map key f keeps (others key first second) ∙ once_others key first second other)
      (λ k there. has_map key f keeps (others key first second) k ∙ has_others key first second k ∙ ap (λ b. not b && has key second k) (sym (same k) ∙ there))

  itself : (items : List T) → map (λ x. x) items ≡ items
  itself [] = refl
  itself (x ∷ items) = ap (λ l. x ∷ l) (itself items)

  -- a list and the others of a second, both settled
  pub join_with_others : (first second : List T) → IsJoin key first second (with_others key first second)
  join_with_others first second =
      let one = settled key first in
      let other = settled key second in
      let plain = itself (others key one other) in record {
        keys = λ k. sym (ap (λ l. has key (one ++ l) k) plain) ∙ changed_keys one one other (λ x. x) (λ k. refl) (λ x. refl) k
            ∙ ap (λ b. b || has key other k) (has_settled key first k) ∙ ap (λ b. has key first k || b) (has_settled key second k);
        once = sym (ap (λ l. each_once key (one ++ l)) plain) ∙ changed_once one one other (λ x. x) (λ k. refl) (λ x. refl) (once_settled key first) (once_settled key second);
      }

  pub item_map : (f : T → T) → ((x : T) → key (f x) ≡ key x) → (items : List T) (k : Key) → item_of key (map f items) k ≡ option_map f (item_of key items k)
  item_map f keeps [] k = refl
  item_map f keeps (x ∷ items) k =
      ap (λ q. if same_key k q then Some (f x) else item_of key (map f items) k) (keeps x)
      ∙ ap (λ o. if same_key k (key x) then Some (f x) else o) (item_map f keeps items k)
      ∙ by (same_key k (key x))
    where
      by : (b : Bool) → (if b then Some (f x) else option_map f (item_of key items k)) ≡ option_map f (if b then Some x else item_of key items k)
      by true = refl
      by false = refl

  pub keys_map : (f : T → T) → ((x : T) → key (f x) ≡ key x) → (items : List T) → map key (map f items) ≡ map key items
  keys_map f keeps [] = refl
  keys_map f keeps (x ∷ items) = ap (λ k. k ∷ map key (map f items)) (keeps x) ∙ ap (λ l. key x ∷ l) (keys_map f keeps items)

  pub keys_append : (xs ys : List T) → map key (xs ++ ys) ≡ map key xs ++ map key ys
  keys_append [] ys = refl
  keys_append (x ∷ xs) ys = ap (λ l. key x ∷ l) (keys_append xs ys)

  module _ (merge : T → T → T) (keeps : (c p : T) → key (merge c p) ≡ key c) where
    pub overlaid_key : (child : List T) (p : T) → key (overlaid key merge child p) ≡ key p
    overlaid_key child p = by (item_of key child (key p)) refl
      where
        by : (o : Option T) → item_of key child (key p) ≡ o → key (option_map_or (λ c. merge c p) o p) ≡ key p
        by None is = refl
        by (Some c) is = keeps c p ∙ found_key child (key p) c is

    pub underlaid_key : (parent : List T) (c : T) → key (underlaid key merge parent c) ≡ key c
    underlaid_key parent c = by (item_of key parent (key c))
      where
        by : (o : Option T) → key (option_map_or (λ p. merge c p) o c) ≡ key c
        by None = refl
        by (Some p) = keeps c p

    -- the parent's items, merged with the child's of their keys, and the child's others
    pub join_merged : (child parent : List T) → IsJoin key parent child (merged_lists key merge child parent)
    join_merged child parent =
        let one = settled key parent in
        let other = settled key child in
        let over = map (overlaid key merge other) one in
        let plain = itself (others key one other) in
        let same = has_map key (overlaid key merge other) (overlaid_key other) one in record {
          keys = λ k. sym (ap (λ l. has key (over ++ l) k) plain) ∙ changed_keys one over other (λ x. x) same (λ x. refl) k
              ∙ ap (λ b. b || has key other k) (has_settled key parent k) ∙ ap (λ b. has key parent k || b) (has_settled key child k);
          once = sym (ap (λ l. each_once key (over ++ l)) plain) ∙ changed_once one over other (λ x. x) same (λ x. refl)
              (once_map key (overlaid key merge other) (overlaid_key other) one ∙ once_settled key parent) (once_settled key child);
        }

    -- under a key the child's is found, merged with the parent's where both have one
    pub item_merged : (child parent : List T) (k : Key) → item_of key (merged_lists key merge child parent) k ≡ both merge (last_of key child k) (last_of key parent k)
    item_merged child parent k =
        item_append key (map (overlaid key merge (settled key child)) (settled key parent)) (others key (settled key parent) (settled key child)) k
        ∙ ap (λ o. option_or o (item_of key (others key (settled key parent) (settled key child)) k)) (item_map (overlaid key merge (settled key child)) (overlaid_key (settled key child)) (settled key parent) k)
        ∙ ap (option_or (option_map (overlaid key merge (settled key child)) (item_of key (settled key parent) k))) (item_others key (settled key parent) (settled key child) k)
        ∙ by (item_of key (settled key parent) k) refl
        ∙ ap (λ o. both merge o (item_of key (settled key parent) k)) (item_settled key child k)
        ∙ ap (both merge (last_of key child k)) (item_settled key parent k)
      where
        alone : (o : Option T) → o ≡ both merge o None
        alone (Some c) = refl
        alone None = refl

        one : (p : T) (o : Option T) → Some (option_map_or (λ c. merge c p) o p) ≡ both merge o (Some p)
        one p (Some c) = refl
        one p None = refl

        by : (o : Option T) → item_of key (settled key parent) k ≡ o
            → option_or (option_map (overlaid key merge (settled key child)) o) (if is_none o then item_of key (settled key child) k else None) ≡ both merge (item_of key (settled key child) k) o
        by None is = alone (item_of key (settled key child) k)
        by (Some p) is = ap (λ q. Some (option_map_or (λ c. merge c p) (item_of key (settled key child) q) p)) (found_key (settled key parent) k p is) ∙ one p (item_of key (settled key child) k)

    has_absorbed : (done further : List T) (k : Key) → has key (fold (absorb key merge) done further) k ≡ (has key done k || has key further k)
    has_absorbed done [] k = none (has key done k)
      where
        none : (b : Bool) → b ≡ (b || false)
        none true = refl
        none false = refl
    has_absorbed done (x ∷ further) k =
        has_absorbed (absorb key merge done x) further k
        ∙ ap (λ b. b || has key further k) (has_put key done (underlaid key merge done x) k ∙ ap (λ q. same_key k q || has key done k) (underlaid_key done x))
        ∙ turn (same_key k (key x)) (has key done k) (has key further k)
      where
        turn : (a d h : Bool) → ((a || d) || h) ≡ (d || (a || h))
        turn true true h = refl
        turn true false h = refl
        turn false true h = refl
        turn false false h = refl

    once_absorbed : (done further : List T) → each_once key done ≡ true → each_once key (fold (absorb key merge) done further) ≡ true
    once_absorbed done [] once = once
    once_absorbed done (x ∷ further) once = once_absorbed (absorb key merge done x) further (once_put key done (underlaid key merge done x) once)

    -- further items, merged one by one
    pub join_absorbed : (items further : List T) → IsJoin key items further (fold (absorb key merge) (settled key items) further)
    join_absorbed items further = record {
      keys = λ k. has_absorbed (settled key items) further k ∙ ap (λ b. b || has key further k) (has_settled key items k);
      once = once_absorbed (settled key items) further (once_settled key items);
    }

    -- items over those of their keys, and the others of these below what else has their keys
    pub join_over : (items managed bound : List T) → IsJoin key items bound
        (map (underlaid key merge (settled key bound)) (settled key items) ++ map (overlaid key merge managed) (others key (settled key items) (settled key bound)))
    join_over items managed bound =
        let one = settled key items in
        let other = settled key bound in
        let over = map (underlaid key merge other) one in
        let same = has_map key (underlaid key merge other) (underlaid_key other) one in record {
          keys = λ k. changed_keys one over other (overlaid key merge managed) same (overlaid_key managed) k
              ∙ ap (λ b. b || has key other k) (has_settled key items k) ∙ ap (λ b. has key items k || b) (has_settled key bound k);
          once = changed_once one over other (overlaid key merge managed) same (overlaid_key managed)
              (once_map key (underlaid key merge other) (underlaid_key other) one ∙ once_settled key items) (once_settled key bound);
        }

  -- a list that has each key once is settled
  put_new : (items : List T) (x : T) → has key items (key x) ≡ false → put key items x ≡ items ++ x ∷ []
  put_new [] x new = refl
  put_new (y ∷ items) x new = by (same_key (key x) (key y)) refl (put_new items x)
    where
      left : (a b : Bool) → (a || b) ≡ false → a ≡ false
      left true b e = e
      left false b e = refl

      right : (a b : Bool) → (a || b) ≡ false → b ≡ false
      right true b e = absurd (true_or b e)
        where
          true_or : (b : Bool) → true ≡ false → ⊥
          true_or b e = cc
      right false b e = e

      by : (b : Bool) → same_key (key x) (key y) ≡ b → (has key items (key x) ≡ false → put key items x ≡ items ++ x ∷ []) → (if b then x ∷ items else y ∷ put key items x) ≡ y ∷ (items ++ x ∷ [])
      by true s rest = absurd (clash (sym s ∙ left (same_key (key x) (key y)) (has key items (key x)) new))
        where
          clash : true ≡ false → ⊥
          clash e = cc
      by false s rest = ap (λ l. y ∷ l) (rest (right (same_key (key x) (key y)) (has key items (key x)) new))

  pub nested : (xs : List T) (x : T) (ys : List T) → (xs ++ x ∷ []) ++ ys ≡ xs ++ x ∷ ys
  nested [] x ys = refl
  nested (y ∷ xs) x ys = ap (λ l. y ∷ l) (nested xs x ys)

  -- an item of a list that has each key once has no key of those before it
  pub new_behind : (done : List T) (x : T) (items : List T) → each_once key (done ++ x ∷ items) ≡ true → has key done (key x) ≡ false
  new_behind [] x items once = refl
  new_behind (y ∷ done) x items once =
      ap (λ b. b || has key done (key x)) (same_key_flip (key x) (key y) ∙ first (same_key (key y) (key x)) (has key done (key y)) (has key items (key y))
      (sym (ap not (has_append key done (x ∷ items) (key y))) ∙ and_left (not (has key (done ++ x ∷ items) (key y))) (each_once key (done ++ x ∷ items)) once))
      ∙ new_behind done x items (and_right (not (has key (done ++ x ∷ items) (key y))) (each_once key (done ++ x ∷ items)) once)
    where
      first : (a d h : Bool) → not (d || (a || h)) ≡ true → a ≡ false
      first true true h e = sym e
      first true false h e = sym e
      first false d h e = refl

  kept_folded : (done items : List T) → each_once key (done ++ items) ≡ true → fold (put key) done items ≡ done ++ items
  kept_folded done [] once = none done
    where
      none : (xs : List T) → xs ≡ xs ++ []
      none [] = refl
      none (x ∷ xs) = ap (λ l. x ∷ l) (none xs)
  kept_folded done (x ∷ items) once =
      ap (λ l. fold (put key) l items) (put_new done x (new_behind done x items once))
      ∙ kept_folded (done ++ x ∷ []) items (ap (each_once key) (nested done x items) ∙ once)
      ∙ nested done x items

  pub settled_kept : (items : List T) → each_once key items ≡ true → settled key items ≡ items
  settled_kept items once = kept_folded [] items once

  -- what holds of each item holds of each that is left
  module _ (test : T → Bool) where
    all_put : (items : List T) (x : T) → list_all test items ≡ true → test x ≡ true → list_all test (put key items x) ≡ true
    all_put [] x all one = both_true (test x) true one refl
    all_put (y ∷ items) x all one = by (same_key (key x) (key y)) (all_put items x (and_right (test y) (list_all test items) all) one)
      where
        by : (b : Bool) → list_all test (put key items x) ≡ true → list_all test (if b then x ∷ items else y ∷ put key items x) ≡ true
        by true rest = both_true (test x) (list_all test items) one (and_right (test y) (list_all test items) all)
        by false rest = both_true (test y) (list_all test (put key items x)) (and_left (test y) (list_all test items) all) rest

    all_folded : (done items : List T) → list_all test done ≡ true → list_all test items ≡ true → list_all test (fold (put key) done items) ≡ true
    all_folded done [] before all = before
    all_folded done (x ∷ items) before all = all_folded (put key done x) items (all_put done x before (and_left (test x) (list_all test items) all)) (and_right (test x) (list_all test items) all)

    pub all_settled : (items : List T) → list_all test items ≡ true → list_all test (settled key items) ≡ true
    all_settled items all = all_folded [] items refl all

    pub all_append : (xs ys : List T) → list_all test xs ≡ true → list_all test ys ≡ true → list_all test (xs ++ ys) ≡ true
    all_append [] ys first second = second
    all_append (x ∷ xs) ys first second = both_true (test x) (list_all test (xs ++ ys)) (and_left (test x) (list_all test xs) first) (all_append xs ys (and_right (test x) (list_all test xs) first) second)

    pub all_others : (items further : List T) → list_all test further ≡ true → list_all test (others key items further) ≡ true
    all_others items [] all = refl
    all_others items (x ∷ further) all = by (is_none (item_of key items (key x))) (all_others items further (and_right (test x) (list_all test further) all))
      where
        by : (b : Bool) → list_all test (others key items further) ≡ true → list_all test (if b then x ∷ others key items further else others key items further) ≡ true
        by true rest = both_true (test x) (list_all test (others key items further)) (and_left (test x) (list_all test further) all) rest
        by false rest = rest

    pub all_map : (f : T → T) → ((x : T) → test x ≡ true → test (f x) ≡ true) → (items : List T) → list_all test items ≡ true → list_all test (map f items) ≡ true
    all_map f holds [] all = refl
    all_map f holds (x ∷ items) all = both_true (test (f x)) (list_all test (map f items)) (holds x (and_left (test x) (list_all test items) all)) (all_map f holds items (and_right (test x) (list_all test items) all))
