-- Where a child's plugins stand among its parent's: each of them stands once.
use Rattle.std.proofs.Common.{◌≡◌, ℕ, zero, suc, ◌+◌, ◌≤◌, Bool, true, false, not, ◌&&◌, ◌||◌, List, [], ◌∷◌, ◌++◌, map, filter, flat_map, Option, Some, None, refl, arith, sym, ap, ◌∙◌, if◌then◌else◌}
use Rattle.std.specs.Option.{option_eq}
use Rattle.std.proofs.lemmas.Bool.{false≢true}
use Rattle.mvn_base.specs.declared.key.Key.{Key}
use Rattle.model_types.specs.declared.plugin.Plugin.{Plugin}
use Rattle.model_merge.specs.Keyed.{overlaid, same_key}
use Rattle.model_merge.specs.Keys.{key_of_plugin}
use Rattle.model_merge.specs.Merging.{merged_plugin, settled_plugin, settled_plugins}
use Rattle.model_merge.proofs.UnderKeys.{and_left, and_right, same_key_is}
use Rattle.inheritance.specs.Placing.{handed_on, inheritable, inherited_plugins, is_shared, leading, next_shared, placed}
use Rattle.model_laws.specs.Keys.{IsJoin, each_once, has}
use Rattle.model_laws.proofs.Keys.{both_true, has_map, has_settled, not_true, once_map, once_settled, same_key_flip, same_key_self}
use Rattle.model_laws.proofs.Merges.{overlaid_key}
use Rattle.model_laws.proofs.Plugins.{plugin_keeps, settled_keeps}

abbrev one : Bool → ℕ
one b = if b then 1 else 0

abbrev some : ℕ → Bool
some zero = false
some (suc n) = true

-- how many plugins of a list have a key
abbrev times : Key → List Plugin → ℕ
times k [] = 0
times k (x ∷ xs) = one (same_key k (key_of_plugin x)) + times k xs

-- nothing more
plus_none : (a n : ℕ) → a ≡ 0 → n ≡ a + n
plus_none a n e = omega (arith, e)

times_append : (k : Key) (xs ys : List Plugin) → times k (xs ++ ys) ≡ times k xs + times k ys
times_append k [] ys = plus_none 0 (times k ys) refl
times_append k (x ∷ xs) ys = let rest = times_append k xs ys in omega (arith, rest)

some_more : (n : ℕ) → some (1 + n) ≡ true
some_more n =
    let e : 1 + n ≡ suc n = omega arith in
    ap some e

some_same : (n : ℕ) → some (0 + n) ≡ some n
some_same n =
    let e : 0 + n ≡ n = omega arith in
    ap some e

has_times : (k : Key) (xs : List Plugin) → has key_of_plugin xs k ≡ some (times k xs)
has_times k [] = refl
has_times k (x ∷ xs) = by (same_key k (key_of_plugin x)) (has_times k xs)
  where
    by : (b : Bool) → has key_of_plugin xs k ≡ some (times k xs) → (b || has key_of_plugin xs k) ≡ some (one b + times k xs)
    by true rest = sym (some_more (times k xs))
    by false rest = rest ∙ sym (some_same (times k xs))

lacks_times : (k : Key) (xs : List Plugin) → has key_of_plugin xs k ≡ false → times k xs ≡ 0
lacks_times k xs lacks = by (times k xs) (sym (has_times k xs) ∙ lacks)
  where
    clash : true ≡ false → ⊥
    clash e = cc

    by : (n : ℕ) → some n ≡ false → n ≡ 0
    by zero e = refl
    by (suc n) e = absurd (clash e)

once_times : (k : Key) (xs : List Plugin) → each_once key_of_plugin xs ≡ true → has key_of_plugin xs k ≡ true → times k xs ≡ 1
once_times k [] once there = absurd (false≢true there)
once_times k (x ∷ xs) once there = by (same_key k (key_of_plugin x)) refl there (once_times k xs (and_right (not (has key_of_plugin xs (key_of_plugin x))) (each_once key_of_plugin xs) once))
  where
    by : (b : Bool) → same_key k (key_of_plugin x) ≡ b → (b || has key_of_plugin xs k) ≡ true → (has key_of_plugin xs k ≡ true → times k xs ≡ 1) → one (same_key k (key_of_plugin x)) + times k xs ≡ 1
    by true s e further =
        let none = lacks_times k xs (ap (has key_of_plugin xs) (same_key_is k (key_of_plugin x) s) ∙ not_true (has key_of_plugin xs (key_of_plugin x)) (and_left (not (has key_of_plugin xs (key_of_plugin x))) (each_once key_of_plugin xs) once)) in
        let first : one (same_key k (key_of_plugin x)) ≡ 1 = ap one s in
        omega (arith, none, first)
    by false s e further =
        let rest = further e in
        let first : one (same_key k (key_of_plugin x)) ≡ 0 = ap one s in
        omega (arith, rest, first)

few_once : (xs : List Plugin) → ((k : Key) → times k xs ≤ 1) → each_once key_of_plugin xs ≡ true
few_once [] few = refl
few_once (x ∷ xs) few =
    let first : one (same_key (key_of_plugin x) (key_of_plugin x)) ≡ 1 = ap one (same_key_self (key_of_plugin x)) in
    both_true (not (has key_of_plugin xs (key_of_plugin x))) (each_once key_of_plugin xs)
    (lacks (has key_of_plugin xs (key_of_plugin x)) (has_times (key_of_plugin x) xs) first)
    (few_once xs (λ k. less k (few k)))
  where
    less : (k : Key) → one (same_key k (key_of_plugin x)) + times k xs ≤ 1 → times k xs ≤ 1
    less k low = omega (arith, low)

    empty : (n : ℕ) → 1 + n ≤ 1 → not (some n) ≡ true
    empty zero low = refl
    empty (suc n) low = absurd (omega (arith, low))

    lacks : (b : Bool) → b ≡ some (times (key_of_plugin x) xs) → one (same_key (key_of_plugin x) (key_of_plugin x)) ≡ 1 → not b ≡ true
    lacks b is first =
        let whole = few (key_of_plugin x) in
        let low : 1 + times (key_of_plugin x) xs ≤ 1 = omega (arith, whole, first) in
        ap not is ∙ empty (times (key_of_plugin x) xs) low

-- whether a parent has a child's plugin
shared_has : (parent : List Plugin) (c : Plugin) → is_shared parent c ≡ has key_of_plugin parent (key_of_plugin c)
shared_has [] c = refl
shared_has (p ∷ parent) c = ap (λ b. b || is_shared parent c) (same_key_flip (key_of_plugin p) (key_of_plugin c)) ∙ ap (λ b. same_key (key_of_plugin c) (key_of_plugin p) || b) (shared_has parent c)

-- the next shared plugin is among the parent's
next_has : (parent child : List Plugin) (j : Key) → next_shared parent child ≡ Some j → has key_of_plugin parent j ≡ true
next_has parent [] j is = absurd (clash is)
  where
    clash : ◌≡◌ {A = Option Key} None (Some j) → ⊥
    clash e = cc
next_has parent (c ∷ child) j is = by (is_shared parent c) refl (next_has parent child j)
  where
    same : ◌≡◌ {A = Option Key} (Some (key_of_plugin c)) (Some j) → key_of_plugin c ≡ j
    same e = cc

    by : (b : Bool) → is_shared parent c ≡ b → (next_shared parent child ≡ Some j → has key_of_plugin parent j ≡ true) → has key_of_plugin parent j ≡ true
    by true s rest = ap (has key_of_plugin parent) (sym (same (sym (ap (λ b. if b then Some (key_of_plugin c) else next_shared parent child) s) ∙ is))) ∙ sym (shared_has parent c) ∙ s
    by false s rest = rest (sym (ap (λ b. if b then Some (key_of_plugin c) else next_shared parent child) s) ∙ is)

-- how many of these plugins are the next shared one
abbrev hits : Option Key → List Plugin → ℕ
hits n [] = 0
hits n (p ∷ ps) = one (option_eq same_key n (Some (key_of_plugin p))) + hits n ps

hits_none : (ps : List Plugin) → hits None ps ≡ 0
hits_none [] = refl
hits_none (p ∷ ps) = let rest = hits_none ps in omega (arith, rest)

hits_some : (j : Key) (ps : List Plugin) → hits (Some j) ps ≡ times j ps
hits_some j [] = refl
hits_some j (p ∷ ps) = ap (λ n. one (same_key j (key_of_plugin p)) + n) (hits_some j ps)

-- one of the parent's plugins is next, or none follows
one_hit : (parent child : List Plugin) → each_once key_of_plugin parent ≡ true → hits (next_shared parent child) parent + one (option_eq same_key (next_shared parent child) None) ≡ 1
one_hit parent child once = by (next_shared parent child) refl
  where
    by : (o : Option Key) → next_shared parent child ≡ o → hits o parent + one (option_eq same_key o None) ≡ 1
    by None is = let none = hits_none parent in omega (arith, none)
    by (Some j) is = let all = hits_some j parent ∙ once_times j parent once (next_has parent child j is) in omega (arith, all)

-- how often a key stands in front of these plugins
abbrev spread : List Plugin → List Plugin → Key → List Plugin → ℕ
spread parent child k [] = 0
spread parent child k (p ∷ ps) = times k (leading parent (Some (key_of_plugin p)) child) + spread parent child k ps

one_led : (u e s : Bool) (k : Key) (c : Plugin) (l : List Plugin) → same_key k (key_of_plugin c) ≡ s → times k (if u && e then c ∷ l else l) ≡ (if u && s then one e else 0) + times k l
one_led true true true k c l is = ap (λ n. n + times k l) (ap one is)
one_led true true false k c l is = ap (λ n. n + times k l) (ap one is)
one_led true false true k c l is = plus_none 0 (times k l) refl
one_led true false false k c l is = plus_none 0 (times k l) refl
one_led false e s k c l is = plus_none 0 (times k l) refl

spread_more : (parent child : List Plugin) (c : Plugin) (k : Key) (ps : List Plugin) → spread parent (c ∷ child) k ps
    ≡ (if not (is_shared parent c) && same_key k (key_of_plugin c) then hits (next_shared parent child) ps else 0) + spread parent child k ps
spread_more parent child c k [] = none (not (is_shared parent c) && same_key k (key_of_plugin c))
  where
    none : (b : Bool) → 0 ≡ (if b then 0 else 0) + 0
    none true = refl
    none false = refl
spread_more parent child c k (p ∷ ps) =
    let e = option_eq same_key (next_shared parent child) (Some (key_of_plugin p)) in
    let first = one_led (not (is_shared parent c)) e (same_key k (key_of_plugin c)) k c (leading parent (Some (key_of_plugin p)) child) refl in
    let rest = spread_more parent child c k ps in
    by (not (is_shared parent c) && same_key k (key_of_plugin c)) first rest
  where
    by : (b : Bool)
        → times k (leading parent (Some (key_of_plugin p)) (c ∷ child)) ≡ (if b then one (option_eq same_key (next_shared parent child) (Some (key_of_plugin p))) else 0) + times k (leading parent (Some (key_of_plugin p)) child)
        → spread parent (c ∷ child) k ps ≡ (if b then hits (next_shared parent child) ps else 0) + spread parent child k ps
        → times k (leading parent (Some (key_of_plugin p)) (c ∷ child)) + spread parent (c ∷ child) k ps
        ≡ (if b then one (option_eq same_key (next_shared parent child) (Some (key_of_plugin p))) + hits (next_shared parent child) ps else 0) + (times k (leading parent (Some (key_of_plugin p)) child) + spread parent child k ps)
    by true first rest = omega (arith, first, rest)
    by false first rest = omega (arith, first, rest)

-- each of the child's others stands in front of one plugin, or at the end
spread_all : (parent : List Plugin) → each_once key_of_plugin parent ≡ true → (child : List Plugin) (k : Key)
    → spread parent child k parent + times k (leading parent None child) ≡ times k (filter (λ c. not (is_shared parent c)) child)
spread_all parent once [] k = none parent
  where
    none : (ps : List Plugin) → spread parent [] k ps + 0 ≡ 0
    none [] = refl
    none (p ∷ ps) = let rest = none ps in omega (arith, rest)
spread_all parent once (c ∷ child) k =
    let more = spread_more parent child c k parent in
    let e = option_eq same_key (next_shared parent child) None in
    let last = one_led (not (is_shared parent c)) e (same_key k (key_of_plugin c)) k c (leading parent None child) refl in
    by (not (is_shared parent c)) (same_key k (key_of_plugin c)) refl more last (one_hit parent child once) (spread_all parent once child k)
  where
    by : (u s : Bool) → same_key k (key_of_plugin c) ≡ s
        → spread parent (c ∷ child) k parent ≡ (if u && s then hits (next_shared parent child) parent else 0) + spread parent child k parent
        → times k (leading parent None (c ∷ child)) ≡ (if u && s then one (option_eq same_key (next_shared parent child) None) else 0) + times k (leading parent None child)
        → hits (next_shared parent child) parent + one (option_eq same_key (next_shared parent child) None) ≡ 1
        → spread parent child k parent + times k (leading parent None child) ≡ times k (filter (λ c. not (is_shared parent c)) child)
        → spread parent (c ∷ child) k parent + times k (leading parent None (c ∷ child)) ≡ times k (if u then c ∷ filter (λ c. not (is_shared parent c)) child else filter (λ c. not (is_shared parent c)) child)
    by true true s more last hit rest = let first : one (same_key k (key_of_plugin c)) ≡ 1 = ap one s in omega (arith, more, last, hit, rest, first)
    by true false s more last hit rest = let first : one (same_key k (key_of_plugin c)) ≡ 0 = ap one s in omega (arith, more, last, rest, first)
    by false s is more last hit rest = omega (arith, more, last, rest)

-- of the child's others none has a key of the parent's
times_lone : (parent child : List Plugin) (k : Key) → times k (filter (λ c. not (is_shared parent c)) child) ≡ (if has key_of_plugin parent k then 0 else times k child)
times_lone parent [] k = none (has key_of_plugin parent k)
  where
    none : (b : Bool) → ◌≡◌ {A = ℕ} 0 (if b then 0 else 0)
    none true = refl
    none false = refl
times_lone parent (c ∷ child) k = by (same_key k (key_of_plugin c)) refl (is_shared parent c) refl (has key_of_plugin parent k) refl (times_lone parent child k)
  where
    same : same_key k (key_of_plugin c) ≡ true → is_shared parent c ≡ has key_of_plugin parent k
    same s = shared_has parent c ∙ ap (has key_of_plugin parent) (sym (same_key_is k (key_of_plugin c) s))

    clash : true ≡ false → ⊥
    clash e = cc

    by : (s : Bool) → same_key k (key_of_plugin c) ≡ s → (u : Bool) → is_shared parent c ≡ u → (h : Bool) → has key_of_plugin parent k ≡ h
        → times k (filter (λ c. not (is_shared parent c)) child) ≡ (if h then 0 else times k child)
        → times k (if not u then c ∷ filter (λ c. not (is_shared parent c)) child else filter (λ c. not (is_shared parent c)) child) ≡ (if h then 0 else (one (same_key k (key_of_plugin c)) + times k child))
    by true s true u true h rest = rest
    by true s false u false h rest = ap (λ n. one (same_key k (key_of_plugin c)) + n) rest
    by true s true u false h rest = absurd (clash (sym u ∙ same s ∙ h))
    by true s false u true h rest = absurd (clash (sym h ∙ sym (same s) ∙ u))
    by false s true u true h rest = rest
    by false s true u false h rest = rest ∙ plus_none (one (same_key k (key_of_plugin c))) (times k child) (ap one s)
    by false s false u true h rest = sym (plus_none (one (same_key k (key_of_plugin c))) (times k (filter (λ c. not (is_shared parent c)) child)) (ap one s)) ∙ rest
    by false s false u false h rest = ap (λ n. one (same_key k (key_of_plugin c)) + n) rest

-- one plugin of a key behind some, and in front of others
behind_one : (k : Key) (front : List Plugin) (m p : Plugin) (rest : List Plugin) (n : ℕ) → key_of_plugin m ≡ key_of_plugin p → times k rest ≡ n
    → times k ((front ++ m ∷ []) ++ rest) ≡ times k front + (one (same_key k (key_of_plugin p)) + n)
behind_one k front m p rest n same is =
    times_append k (front ++ m ∷ []) rest
    ∙ ap (λ a. a + times k rest) (times_append k front (m ∷ []))
    ∙ ap (λ q. (times k front + (one (same_key k q) + 0)) + times k rest) same
    ∙ ap (λ a. (times k front + (one (same_key k (key_of_plugin p)) + 0)) + a) is
    ∙ turned (times k front) (one (same_key k (key_of_plugin p))) n
  where
    turned : (a b c : ℕ) → (a + (b + 0)) + c ≡ a + (b + c)
    turned a b c = omega arith

-- the parent's plugins, each behind those that stand in front of it
times_led : (parent child ps : List Plugin) (k : Key)
    → times k (flat_map (λ p. leading parent (Some (key_of_plugin p)) child ++ overlaid key_of_plugin merged_plugin child p ∷ []) ps) ≡ spread parent child k ps + times k ps
times_led parent child [] k = refl
times_led parent child (p ∷ ps) k =
    behind_one k (leading parent (Some (key_of_plugin p)) child) (overlaid key_of_plugin merged_plugin child p) p
    (flat_map (λ p. leading parent (Some (key_of_plugin p)) child ++ overlaid key_of_plugin merged_plugin child p ∷ []) ps) (spread parent child k ps + times k ps)
    (overlaid_key key_of_plugin merged_plugin plugin_keeps child p) (times_led parent child ps k)
    ∙ turned (times k (leading parent (Some (key_of_plugin p)) child)) (one (same_key k (key_of_plugin p))) (spread parent child k ps) (times k ps)
  where
    turned : (a b c d : ℕ) → a + (b + (c + d)) ≡ (a + c) + (b + d)
    turned a b c d = omega arith

times_placed : (child parent : List Plugin) (k : Key) → each_once key_of_plugin parent ≡ true → times k (placed child parent) ≡ (if has key_of_plugin parent k then 0 else times k child) + times k parent
times_placed child parent k once =
    times_append k (flat_map (λ p. leading parent (Some (key_of_plugin p)) child ++ overlaid key_of_plugin merged_plugin child p ∷ []) parent) (leading parent None child)
    ∙ ap (λ a. a + times k (leading parent None child)) (times_led parent child parent k)
    ∙ turned (spread parent child k parent) (times k parent) (times k (leading parent None child))
    ∙ ap (λ a. a + times k parent) (spread_all parent once child k ∙ times_lone parent child k)
  where
    turned : (a b c : ℕ) → (a + b) + c ≡ (a + c) + b
    turned a b c = omega arith

pub placed_keys : (child parent : List Plugin) → each_once key_of_plugin parent ≡ true → (k : Key) → has key_of_plugin (placed child parent) k ≡ (has key_of_plugin parent k || has key_of_plugin child k)
placed_keys child parent once k = has_times k (placed child parent) ∙ ap some (times_placed child parent k once) ∙ by (has key_of_plugin parent k) refl
  where
    by : (b : Bool) → has key_of_plugin parent k ≡ b → some ((if b then 0 else times k child) + times k parent) ≡ (b || has key_of_plugin child k)
    by true there = some_same (times k parent) ∙ sym (has_times k parent) ∙ there
    by false lacks =
        let none = lacks_times k parent lacks in
        let same : times k child + times k parent ≡ times k child = omega (arith, none) in
        ap some same ∙ sym (has_times k child)

pub placed_once : (child parent : List Plugin) → each_once key_of_plugin child ≡ true → each_once key_of_plugin parent ≡ true → each_once key_of_plugin (placed child parent) ≡ true
placed_once child parent one_child one_parent = few_once (placed child parent) (λ k. by k (has key_of_plugin parent k) refl (times_placed child parent k one_parent))
  where
    low : (k : Key) (b : Bool) → has key_of_plugin child k ≡ b → times k child ≤ 1
    low k true there = let n = once_times k child one_child there in omega (arith, n)
    low k false lacks = let n = lacks_times k child lacks in omega (arith, n)

    by : (k : Key) (b : Bool) → has key_of_plugin parent k ≡ b → times k (placed child parent) ≡ (if b then 0 else times k child) + times k parent → times k (placed child parent) ≤ 1
    by k true there whole = let n = once_times k parent one_parent there in omega (arith, n, whole)
    by k false lacks whole =
        let n = lacks_times k parent lacks in
        let m = low k (has key_of_plugin child k) refl in
        omega (arith, n, m, whole)

once_filtered : (test : Plugin → Bool) (xs : List Plugin) → each_once key_of_plugin xs ≡ true → each_once key_of_plugin (filter test xs) ≡ true
once_filtered test [] once = refl
once_filtered test (x ∷ xs) once = by (test x) (once_filtered test xs (and_right (not (has key_of_plugin xs (key_of_plugin x))) (each_once key_of_plugin xs) once))
  where
    fewer : (ys : List Plugin) (k : Key) → has key_of_plugin ys k ≡ false → has key_of_plugin (filter test ys) k ≡ false
    fewer [] k lacks = refl
    fewer (y ∷ ys) k lacks = each (same_key k (key_of_plugin y)) refl (test y) (fewer ys k)
      where
        clash : true ≡ false → ⊥
        clash e = cc

        each : (s : Bool) → same_key k (key_of_plugin y) ≡ s → (b : Bool) → (has key_of_plugin ys k ≡ false → has key_of_plugin (filter test ys) k ≡ false) → has key_of_plugin (if b then y ∷ filter test ys else filter test ys) k ≡ false
        each true s b rest = absurd (clash (sym (ap (λ b. b || has key_of_plugin ys k) s) ∙ lacks))
        each false s true rest = ap (λ b. b || has key_of_plugin (filter test ys) k) s ∙ rest (sym (ap (λ b. b || has key_of_plugin ys k) s) ∙ lacks)
        each false s false rest = rest (sym (ap (λ b. b || has key_of_plugin ys k) s) ∙ lacks)

    by : (b : Bool) → each_once key_of_plugin (filter test xs) ≡ true → each_once key_of_plugin (if b then x ∷ filter test xs else filter test xs) ≡ true
    by true rest =
        both_true (not (has key_of_plugin (filter test xs) (key_of_plugin x))) (each_once key_of_plugin (filter test xs))
        (ap not (fewer xs (key_of_plugin x) (not_true (has key_of_plugin xs (key_of_plugin x)) (and_left (not (has key_of_plugin xs (key_of_plugin x))) (each_once key_of_plugin xs) once))))
        rest
    by false rest = rest

once_inheritable : (parent : List Plugin) → each_once key_of_plugin (inheritable parent) ≡ true
once_inheritable parent =
    once_map key_of_plugin handed_on (λ p. refl) (filter (λ (p : Plugin). p.inherited) (settled_plugins parent))
    ∙ once_filtered (λ (p : Plugin). p.inherited) (settled_plugins parent) (once_settled key_of_plugin (map settled_plugin parent))

-- the plugins of a child, and those that its parent passes on
pub join_inherited : (child parent : List Plugin) → IsJoin key_of_plugin (inheritable parent) child (inherited_plugins child parent)
unfolding inherited_plugins
join_inherited child parent = record {
  keys = λ k. placed_keys (settled_plugins child) (inheritable parent) (once_inheritable parent) k
      ∙ ap (λ b. has key_of_plugin (inheritable parent) k || b) (has_settled key_of_plugin (map settled_plugin child) k ∙ has_map key_of_plugin settled_plugin settled_keeps child k);
  once = placed_once (settled_plugins child) (inheritable parent) (once_settled key_of_plugin (map settled_plugin child)) (once_inheritable parent);
}
