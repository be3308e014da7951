-- Which of the child's plugins stand in front of which, as one more comes behind them.
use Rattle.std.proofs.Common.{◌≡◌, ℕ, suc, length, arith, Bool, true, false, not, ◌&&◌, List, [], ◌∷◌, ◌++◌, map, flat_map, Option, Some, None, Result, Ok, Err, IfOk, refl, sym, ap, ◌∙◌, if◌then◌else◌}
use Rattle.std.specs.Option.{option_eq, option_map_or}
use Rattle.mvn_base.specs.declared.key.Key.{Key}
use Rattle.model_types.specs.declared.plugin.Plugin.{Plugin}
use Rattle.model_merge.specs.Keyed.{item_of, overlaid, same_key, settled}
use Rattle.model_merge.specs.Keys.{key_of_plugin}
use Rattle.model_merge.specs.Merging.{merged_plugin}
use Rattle.model_merge.proofs.UnderKeys.{same_key_is}
use Rattle.inheritance.specs.Placing.{inheritable, is_shared, leading, next_shared, placed}

abbrev one_of : Bool → Plugin → List Plugin → List Plugin
one_of b x xs = if b then x ∷ xs else xs

abbrev or_next : Option Key → Option Key → Option Key
or_next (Some j) o = Some j
or_next None o = o

-- the next shared one, as one more comes
next_more : (parent : List Plugin) (xs : List Plugin) (c : Plugin) → next_shared parent (xs ++ c ∷ []) ≡ or_next (next_shared parent xs) (if is_shared parent c then Some (key_of_plugin c) else None)
next_more parent [] c = refl
next_more parent (x ∷ xs) c = by (is_shared parent x) (next_more parent xs c)
  where
    by : (b : Bool) → next_shared parent (xs ++ c ∷ []) ≡ or_next (next_shared parent xs) (if is_shared parent c then Some (key_of_plugin c) else None) → (if b then Some (key_of_plugin x) else next_shared parent (xs ++ c ∷ [])) ≡ or_next (if b then Some (key_of_plugin x) else next_shared parent xs) (if is_shared parent c then Some (key_of_plugin c) else None)
    by true further = refl
    by false further = further

none_some : (k : Key) → ◌≡◌ {A = Option Key} (Some k) None → ⊥
none_some k e = cc

-- nothing stands in front of a shared one where none comes
none_leading : (parent : List Plugin) (q : Key) (xs : List Plugin) → next_shared parent xs ≡ None → leading parent (Some q) xs ≡ []
none_leading parent q [] none = refl
none_leading parent q (x ∷ xs) none = by (is_shared parent x) refl (none_leading parent q xs)
  where
    by : (b : Bool) → is_shared parent x ≡ b → (next_shared parent xs ≡ None → leading parent (Some q) xs ≡ []) → leading parent (Some q) (x ∷ xs) ≡ []
    by true s rest = absurd (none_some (key_of_plugin x) (sym (ap (λ b. if b then Some (key_of_plugin x) else next_shared parent xs) s) ∙ none))
    by false s rest =
        let further : next_shared parent xs ≡ None = sym (ap (λ b. if b then Some (key_of_plugin x) else next_shared parent xs) s) ∙ none in
        ap (λ b. one_of (not b && option_eq same_key (next_shared parent xs) (Some q)) x (leading parent (Some q) xs)) s
        ∙ ap (λ o. one_of (option_eq same_key o (Some q)) x (leading parent (Some q) xs)) further
        ∙ rest further

combine : (sx : Bool) (o : Option Key) (k q : Key) (x : Plugin) (first second whole : List Plugin) → (o ≡ None → first ≡ []) → whole ≡ (if same_key k q then first ++ second else first)
    → one_of (not sx && option_eq same_key (or_next o (Some k)) (Some q)) x whole
    ≡ (if same_key k q then one_of (not sx && option_eq same_key o (Some q)) x first ++ one_of (not sx && option_eq same_key o None) x second else one_of (not sx && option_eq same_key o (Some q)) x first)
combine true o k q x first second whole none is = is
combine false (Some j) k q x first second whole none is = ap (one_of (same_key j q) x) is ∙ by (same_key j q) (same_key k q)
  where
    by : (a b : Bool) → one_of a x (if b then first ++ second else first) ≡ (if b then one_of a x first ++ second else one_of a x first)
    by true true = refl
    by true false = refl
    by false true = refl
    by false false = refl
combine false None k q x first second whole none is = ap (one_of (same_key k q) x) is ∙ by (same_key k q)
  where
    by : (b : Bool) → one_of b x (if b then first ++ second else first) ≡ (if b then first ++ x ∷ second else first)
    by true = ap (λ l. x ∷ (l ++ second)) (none refl) ∙ sym (ap (λ l. l ++ x ∷ second) (none refl))
    by false = refl

next_with : (parent : List Plugin) (xs : List Plugin) (c : Plugin) → is_shared parent c ≡ true → next_shared parent (xs ++ c ∷ []) ≡ or_next (next_shared parent xs) (Some (key_of_plugin c))
next_with parent xs c shared = next_more parent xs c ∙ ap (λ b. or_next (next_shared parent xs) (if b then Some (key_of_plugin c) else None)) shared

or_none : (o : Option Key) → or_next o None ≡ o
or_none None = refl
or_none (Some j) = refl

next_without : (parent : List Plugin) (xs : List Plugin) (c : Plugin) → is_shared parent c ≡ false → next_shared parent (xs ++ c ∷ []) ≡ next_shared parent xs
next_without parent xs c shared = next_more parent xs c ∙ ap (λ b. or_next (next_shared parent xs) (if b then Some (key_of_plugin c) else None)) shared ∙ or_none (next_shared parent xs)

and_false : (b : Bool) → (b && false) ≡ false
and_false true = refl
and_false false = refl

-- a shared one comes: what stood behind all stands in front of it
pub shared_more : (parent : List Plugin) (xs : List Plugin) (c : Plugin) (q : Key) → is_shared parent c ≡ true
    → leading parent (Some q) (xs ++ c ∷ []) ≡ (if same_key (key_of_plugin c) q then leading parent (Some q) xs ++ leading parent None xs else leading parent (Some q) xs)
shared_more parent [] c q shared = ap (λ b. one_of (not b && false) c []) shared ∙ by (same_key (key_of_plugin c) q)
  where
    by : (b : Bool) → ◌≡◌ {A = List Plugin} [] (if b then [] else [])
    by true = refl
    by false = refl
shared_more parent (x ∷ xs) c q shared =
    ap (λ o. one_of (not (is_shared parent x) && option_eq same_key o (Some q)) x (leading parent (Some q) (xs ++ c ∷ []))) (next_with parent xs c shared)
    ∙ combine (is_shared parent x) (next_shared parent xs) (key_of_plugin c) q x (leading parent (Some q) xs) (leading parent None xs) (leading parent (Some q) (xs ++ c ∷ [])) (none_leading parent q xs) (shared_more parent xs c q shared)

some_next : (o : Option Key) (k : Key) → option_eq same_key (or_next o (Some k)) None ≡ false
some_next None k = refl
some_next (Some j) k = refl

pub shared_last : (parent : List Plugin) (xs : List Plugin) (c : Plugin) → is_shared parent c ≡ true → leading parent None (xs ++ c ∷ []) ≡ []
shared_last parent [] c shared = ap (λ b. one_of (not b && true) c []) shared
shared_last parent (x ∷ xs) c shared =
    ap (λ o. one_of (not (is_shared parent x) && option_eq same_key o None) x (leading parent None (xs ++ c ∷ []))) (next_with parent xs c shared)
    ∙ ap (λ b. one_of (not (is_shared parent x) && b) x (leading parent None (xs ++ c ∷ []))) (some_next (next_shared parent xs) (key_of_plugin c))
    ∙ ap (λ b. one_of b x (leading parent None (xs ++ c ∷ []))) (and_false (not (is_shared parent x)))
    ∙ shared_last parent xs c shared

-- one that isn't shared comes: it stands behind all
pub other_more : (parent : List Plugin) (xs : List Plugin) (c : Plugin) (q : Key) → is_shared parent c ≡ false → leading parent (Some q) (xs ++ c ∷ []) ≡ leading parent (Some q) xs
other_more parent [] c q shared = ap (λ b. one_of (not b && false) c []) shared
other_more parent (x ∷ xs) c q shared =
    ap (λ o. one_of (not (is_shared parent x) && option_eq same_key o (Some q)) x (leading parent (Some q) (xs ++ c ∷ []))) (next_without parent xs c shared)
    ∙ ap (one_of (not (is_shared parent x) && option_eq same_key (next_shared parent xs) (Some q)) x) (other_more parent xs c q shared)

pub other_last : (parent : List Plugin) (xs : List Plugin) (c : Plugin) → is_shared parent c ≡ false → leading parent None (xs ++ c ∷ []) ≡ leading parent None xs ++ c ∷ []
other_last parent [] c shared = ap (λ b. one_of (not b && true) c []) shared
other_last parent (x ∷ xs) c shared =
    ap (λ o. one_of (not (is_shared parent x) && option_eq same_key o None) x (leading parent None (xs ++ c ∷ []))) (next_without parent xs c shared)
    ∙ ap (one_of (not (is_shared parent x) && option_eq same_key (next_shared parent xs) None) x) (other_last parent xs c shared)
    ∙ by (not (is_shared parent x) && option_eq same_key (next_shared parent xs) None)
  where
    by : (b : Bool) → one_of b x (leading parent None xs ++ c ∷ []) ≡ one_of b x (leading parent None xs) ++ c ∷ []
    by true = refl
    by false = refl

pub if_ok_both : {T E : Type 0} {P Q R : T → Type 0} (r : Result T E) → ((x : T) → P x → Q x → R x) → IfOk r P → IfOk r Q → IfOk r R
if_ok_both (Ok x) h p q = h x p q
if_ok_both (Err e) h p q = q

abbrev pub Stand : List Plugin → List Plugin → (Key → List Plugin) → List Plugin → Type 0
Stand parent done listed last = ((q : Key) → listed q ≡ leading parent (Some q) done) × (last ≡ leading parent None done)

pub shared_stands : (parent done : List Plugin) (c : Plugin) (key : Key) (listed after : Key → List Plugin) (last after_last : List Plugin) → is_shared parent c ≡ true → key ≡ key_of_plugin c → Stand parent done listed last
    → ((q : Key) → after q ≡ (if same_key key q then listed q ++ last else listed q)) → after_last ≡ [] → Stand parent (done ++ c ∷ []) after after_last
shared_stands parent done c key listed after last after_last shared named stands more none = (
  (λ q. more q
      ∙ ap (λ k. if same_key k q then listed q ++ last else listed q) named
      ∙ ap (λ l. if same_key (key_of_plugin c) q then l ++ last else l) (stands.0 q)
      ∙ ap (λ l. if same_key (key_of_plugin c) q then leading parent (Some q) done ++ l else leading parent (Some q) done) stands.1
      ∙ sym (shared_more parent done c q shared)),
  none ∙ sym (shared_last parent done c shared),
)

pub other_stands : (parent done : List Plugin) (c : Plugin) (listed after : Key → List Plugin) (last after_last : List Plugin) → is_shared parent c ≡ false → Stand parent done listed last
    → ((q : Key) → after q ≡ listed q) → after_last ≡ last ++ c ∷ [] → Stand parent (done ++ c ∷ []) after after_last
other_stands parent done c listed after last after_last shared stands same more = (
  (λ q. same q ∙ stands.0 q ∙ sym (other_more parent done c q shared)),
  more ∙ ap (λ l. l ++ c ∷ []) stands.1 ∙ sym (other_last parent done c shared),
)

no_plugin : (c : Plugin) → ◌≡◌ {A = Option Plugin} None (Some c) → ⊥
no_plugin c e = cc

some_plugin : (x c : Plugin) → ◌≡◌ {A = Option Plugin} (Some x) (Some c) → x ≡ c
some_plugin x c e = cc

-- what is found under a key has it
found_key : (child : List Plugin) (k : Key) (c : Plugin) → item_of key_of_plugin child k ≡ Some c → key_of_plugin c ≡ k
found_key [] k c is = absurd (no_plugin c is)
found_key (x ∷ child) k c is = by (same_key k (key_of_plugin x)) refl (found_key child k c)
  where
    by : (b : Bool) → same_key k (key_of_plugin x) ≡ b → (item_of key_of_plugin child k ≡ Some c → key_of_plugin c ≡ k) → key_of_plugin c ≡ k
    by true s further = ap key_of_plugin (sym (some_plugin x c (sym (ap (λ b. if b then Some x else item_of key_of_plugin child k) s) ∙ is))) ∙ sym (same_key_is k (key_of_plugin x) s)
    by false s further = further (sym (ap (λ b. if b then Some x else item_of key_of_plugin child k) s) ∙ is)

-- a merged plugin has its parent's key
overlaid_key : (child : List Plugin) (p : Plugin) → key_of_plugin (overlaid key_of_plugin merged_plugin child p) ≡ key_of_plugin p
unfolding merged_plugin
overlaid_key child p = by (item_of key_of_plugin child (key_of_plugin p)) refl
  where
    by : (o : Option Plugin) → item_of key_of_plugin child (key_of_plugin p) ≡ o → key_of_plugin (option_map_or (λ c. merged_plugin c p) o p) ≡ key_of_plugin p
    by None is = refl
    by (Some c) is = found_key child (key_of_plugin p) c is

all_placed : (child whole parent : List Plugin) (listed : Key → List Plugin) → ((q : Key) → listed q ≡ leading whole (Some q) child)
    → flat_map (λ p. listed (key_of_plugin p) ++ p ∷ []) (map (overlaid key_of_plugin merged_plugin child) parent) ≡ flat_map (λ p. leading whole (Some (key_of_plugin p)) child ++ overlaid key_of_plugin merged_plugin child p ∷ []) parent
all_placed child whole [] listed stands = refl
all_placed child whole (p ∷ parent) listed stands =
    let m = overlaid key_of_plugin merged_plugin child p in
    ap (λ l. (l ++ m ∷ []) ++ flat_map (λ p. listed (key_of_plugin p) ++ p ∷ []) (map (overlaid key_of_plugin merged_plugin child) parent)) (stands (key_of_plugin m) ∙ ap (λ k. leading whole (Some k) child) (overlaid_key child p))
    ∙ ap (λ l. (leading whole (Some (key_of_plugin p)) child ++ m ∷ []) ++ l) (all_placed child whole parent listed stands)

-- all of them in place
pub whole_placed : (child parent merged list last whole : List Plugin) (listed : Key → List Plugin) → Stand parent child listed last → merged ≡ map (overlaid key_of_plugin merged_plugin child) parent
    → list ≡ flat_map (λ p. listed (key_of_plugin p) ++ p ∷ []) merged → whole ≡ list ++ last → whole ≡ placed child parent
whole_placed child parent merged list last whole listed stands is placed_all joined =
    joined ∙ ap (λ l. list ++ l) stands.1 ∙ ap (λ l. l ++ leading parent None child) (placed_all ∙ ap (flat_map (λ p. listed (key_of_plugin p) ++ p ∷ [])) is ∙ all_placed child parent parent listed stands.0)

pub one_behind : (xs : List Plugin) (x : Plugin) (ys : List Plugin) → (xs ++ x ∷ []) ++ ys ≡ xs ++ x ∷ ys
one_behind [] x ys = refl
one_behind (y ∷ xs) x ys = ap (λ l. y ∷ l) (one_behind xs x ys)

pub nothing_behind : (xs : List Plugin) → xs ++ [] ≡ xs
nothing_behind [] = refl
nothing_behind (x ∷ xs) = ap (λ l. x ∷ l) (nothing_behind xs)

pub inherited_whole : (child parent parents children merged list last whole : List Plugin) (listed : Key → List Plugin) → Stand parents children listed last → parents ≡ inheritable parent → children ≡ settled key_of_plugin child
    → merged ≡ map (overlaid key_of_plugin merged_plugin (settled key_of_plugin child)) parents → list ≡ flat_map (λ p. listed (key_of_plugin p) ++ p ∷ []) merged → whole ≡ list ++ last → whole ≡ placed (settled key_of_plugin child) (inheritable parent)
inherited_whole child parent parents children merged list last whole listed stands are these is placed_all joined =
    whole_placed children parents merged list last whole listed stands (is ∙ ap (λ l. map (overlaid key_of_plugin merged_plugin l) parents) (sym these)) placed_all joined
    ∙ ap (λ l. placed l parents) these ∙ ap (placed (settled key_of_plugin child)) are

pub no_items : (xs : List Plugin) → length xs ≡ 0 → xs ≡ []
no_items [] e = refl
no_items (x ∷ xs) e = absurd (some_items (length xs) e)
  where
    some_items : (n : ℕ) → suc n ≡ 0 → ⊥
    some_items n e = omega (arith, e)
