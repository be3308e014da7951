-- Settings by name and number, and a level in another.
use Rattle.std.proofs.Common.{◌≡◌, ℕ, zero, suc, ◌+◌, ◌<◌, Bool, true, false, not, ◌||◌, List, [], ◌∷◌, ◌++◌, map, filter, zip, length, get_or, drop, count_by, fold, slice_get, Option, Some, None, option_and_then, refl, arith, sym, ap, subst, ◌∙◌, if◌then◌else◌}
use Rattle.std.specs.List.{list_any}
use Rattle.std.specs.Str.{bytes_eq}
use Rattle.std.proofs.Math.Seq.{drop-cons}
use Rattle.std.proofs.lemmas.Option.{slice_get-get_or}
use Rattle.mvn_base.specs.declared.setting.Setting.{Setting}
use Rattle.mvn_base.specs.declared.setting.Setting.TheOpen.{Setting-F}
use Rattle.mvn_base.specs.declared.setting.Setting.TheViews.{out-Setting, roll-Setting}
use Rattle.mvn_base.specs.declared.setting.Setting.TheFolds.{fold_out-Setting, fold-roll-Setting, ind-Setting}
use Rattle.model_merge.specs.Configuration.{Part, chosen_text, merged_configuration, merged_level, merged_or, merged_setting, name_of, nth_named, part, part_step, partners, unnamed, with_partner}
use Rattle.model_merge.specs.Names.{places_from}

-- one place more in what a map has, and one less in the rest
pub place_added : (q name : List ℕ) (settings : List Setting) (i : ℕ) (s : Setting) (before after whole : List ℕ) → i < length settings → s ≡ get_or settings i s → name ≡ name_of s
    → after ≡ (if bytes_eq name q then before ++ i ∷ [] else before) → before ++ places_from q i (drop i settings) ≡ whole → after ++ places_from q (i + 1) (drop (i + 1) settings) ≡ whole
place_added q name settings i s before after whole low is named added so =
    let one : i + 1 ≡ suc i = omega arith in
    ap (λ k. after ++ places_from q k (drop k settings)) one
    ∙ ap (λ l. l ++ places_from q (suc i) (drop (suc i) settings)) (added ∙ ap (λ n. if bytes_eq n q then before ++ i ∷ [] else before) named)
    ∙ by (bytes_eq (name_of s) q) refl
    ∙ ap (λ l. before ++ places_from q i l) (sym (drop-cons settings i s low ∙ ap (λ x. x ∷ drop (suc i) settings) (sym is)))
    ∙ so
  where
    rest : List ℕ
    rest = places_from q (suc i) (drop (suc i) settings)

    joined : (xs : List ℕ) → (xs ++ i ∷ []) ++ rest ≡ xs ++ i ∷ rest
    joined [] = refl
    joined (x ∷ xs) = ap (λ l. x ∷ l) (joined xs)

    by : (b : Bool) → bytes_eq (name_of s) q ≡ b → (if bytes_eq (name_of s) q then before ++ i ∷ [] else before) ++ rest ≡ before ++ places_from q i (s ∷ drop (suc i) settings)
    by true e = ap (λ b. (if b then before ++ i ∷ [] else before) ++ rest) e ∙ joined before ∙ sym (ap (λ b. before ++ (if b then i ∷ rest else rest)) e)
    by false e = ap (λ b. (if b then before ++ i ∷ [] else before) ++ rest) e ∙ sym (ap (λ b. before ++ (if b then i ∷ rest else rest)) e)

-- a name more in a set of names, and one less in the rest
pub name_added : (q : List ℕ) (settings : List Setting) (i : ℕ) (s : Setting) (before after whole : Bool) → i < length settings → s ≡ get_or settings i s
    → after ≡ (bytes_eq (name_of s) q || before) → (before || list_any (λ n. bytes_eq n q) (map name_of (drop i settings))) ≡ whole
    → (after || list_any (λ n. bytes_eq n q) (map name_of (drop (i + 1) settings))) ≡ whole
name_added q settings i s before after whole low is added so =
    let one : i + 1 ≡ suc i = omega arith in
    let rest = list_any (λ n. bytes_eq n q) (map name_of (drop (suc i) settings)) in
    ap (λ k. after || list_any (λ n. bytes_eq n q) (map name_of (drop k settings))) one
    ∙ ap (λ b. b || rest) added
    ∙ swapped (bytes_eq (name_of s) q) before rest
    ∙ ap (λ l. before || list_any (λ n. bytes_eq n q) (map name_of l)) (sym (drop-cons settings i s low ∙ ap (λ x. x ∷ drop (suc i) settings) (sym is)))
    ∙ so
  where
    swapped : (a b c : Bool) → ((a || b) || c) ≡ (b || (a || c))
    swapped true true c = refl
    swapped true false c = refl
    swapped false b c = refl

-- what the levels of a configuration are, by their settings
children_whole : (ss : List ((s : Setting) × ((part s).0 ≡ s))) → map (λ (p : Part). p.0) (map part (map (λ e. e.0) ss)) ≡ map (λ e. e.0) ss
children_whole [] = refl
children_whole (s ∷ ss) = λ i. s.1 i ∷ children_whole ss i

pub part_whole : (s : Setting) → (part s).0 ≡ s
part_whole = ind-Setting (λ s. (part s).0 ≡ s) (λ x y is.
    let inner = subst (λ (z : Setting-F Setting). map (λ (p : Part). p.0) (map part z.children) ≡ z.children) is (children_whole y.children) in
    ap (λ (p : Part). p.0) (fold-roll-Setting Part part_step x) ∙ ap (λ l. roll-Setting (record { name = x.name; text = x.text; children = l })) inner)

names_whole : (cs : List Setting) → map (λ (p : Part). name_of p.0) (map part cs) ≡ map name_of cs
names_whole [] = refl
names_whole (c ∷ cs) = λ i. name_of (part_whole c i) ∷ names_whole cs i

with_or : (c : Setting) (o : Option Setting) → with_partner (part c) o ≡ merged_or c o
with_or c None = part_whole c
with_or c (Some p) = refl

zip_whole : (cs : List Setting) (os : List (Option Setting)) → map (λ e. with_partner e.0 e.1) (zip (map part cs) os) ≡ map (λ e. merged_or e.0 e.1) (zip cs os)
zip_whole [] os = refl
zip_whole (c ∷ cs) [] = refl
zip_whole (c ∷ cs) (o ∷ os) = λ i. with_or c o i ∷ zip_whole cs os i

level_whole : (cs ps : List Setting) → merged_level (λ part. name_of part.0) with_partner (map part cs) ps ≡ merged_level name_of merged_or cs ps
level_whole cs ps =
    ap (λ ns. map (λ e. with_partner e.0 e.1) (zip (map part cs) (partners [] ns ps)) ++ unnamed ns ps) (names_whole cs)
    ∙ ap (λ l. l ++ unnamed (map name_of cs) ps) (zip_whole cs (partners [] (map name_of cs) ps))

-- a setting that is put together from what its parts are merged to
pub setting_merged : (c p : Setting) (name text : List ℕ) (children : List Setting) → name ≡ (out-Setting c).name → text ≡ chosen_text (out-Setting c).text (out-Setting p).text
    → children ≡ merged_configuration (out-Setting c).children (out-Setting p).children → roll-Setting (record { name = name; text = text; children = children }) ≡ merged_setting c p
unfolding merged_configuration
setting_merged c p name text children named said nested =
    (λ i. roll-Setting (record { name = named i; text = said i; children = (nested ∙ sym (level_whole (out-Setting c).children (out-Setting p).children)) i }))
    ∙ sym (ap (λ (x : Part). x.1 p) (fold_out-Setting Part part_step c))

-- as many partners as names
pub length_partners : (before names : List (List ℕ)) (parent : List Setting) → length (partners before names parent) ≡ length names
length_partners before [] parent = refl
length_partners before (n ∷ names) parent = ap suc (length_partners (before ++ n ∷ []) names parent)

pub length_map : {A B : Type 0} (f : A → B) (xs : List A) → length (map f xs) ≡ length xs
length_map f [] = refl
length_map f (x ∷ xs) = ap suc (length_map f xs)

nil_cons : {A : Type 0} (x : A) (rest : List A) → [] ≡ x ∷ rest → ⊥
nil_cons x rest e = cc

drop_next : {A : Type 0} (whole : List A) (k : ℕ) (x : A) (rest : List A) → drop k whole ≡ x ∷ rest → drop (suc k) whole ≡ rest
drop_next [] zero x rest is = absurd (nil_cons x rest is)
drop_next [] (suc k) x rest is = absurd (nil_cons x rest is)
drop_next (y ∷ whole) zero x rest is = ap (drop 1) is
drop_next (y ∷ whole) (suc k) x rest is = drop_next whole k x rest is

get_at : {A : Type 0} (whole : List A) (k : ℕ) (x : A) (rest : List A) → drop k whole ≡ x ∷ rest → slice_get whole k ≡ Some x
get_at [] zero x rest is = absurd (nil_cons x rest is)
get_at [] (suc k) x rest is = absurd (nil_cons x rest is)
get_at (y ∷ whole) zero x rest is = ap (λ l. slice_get l 0) is
get_at (y ∷ whole) (suc k) x rest is = get_at whole k x rest is

-- the k-th place of a name is the place of its k-th setting
pub nth_place : (q : List ℕ) (whole settings : List Setting) (from k : ℕ) → drop from whole ≡ settings → option_and_then (slice_get whole) (slice_get (places_from q from settings) k) ≡ nth_named q k settings
nth_place q whole [] from k is = refl
nth_place q whole (s ∷ settings) from k is = by (bytes_eq (name_of s) q) refl k (λ k. nth_place q whole settings (suc from) k (drop_next whole from s settings is))
  where
    by : (b : Bool) → bytes_eq (name_of s) q ≡ b → (k : ℕ) → ((k : ℕ) → option_and_then (slice_get whole) (slice_get (places_from q (suc from) settings) k) ≡ nth_named q k settings)
        → option_and_then (slice_get whole) (slice_get (places_from q from (s ∷ settings)) k) ≡ nth_named q k (s ∷ settings)
    by false e k further =
        ap (λ b. option_and_then (slice_get whole) (slice_get (if b then from ∷ places_from q (suc from) settings else places_from q (suc from) settings) k)) e ∙ further k
        ∙ sym (ap (λ b. slice_get (if b then s ∷ filter (λ s. bytes_eq (name_of s) q) settings else filter (λ s. bytes_eq (name_of s) q) settings) k) e)
    by true e zero further =
        ap (λ b. option_and_then (slice_get whole) (slice_get (if b then from ∷ places_from q (suc from) settings else places_from q (suc from) settings) zero)) e ∙ get_at whole from s settings is
        ∙ sym (ap (λ b. slice_get (if b then s ∷ filter (λ s. bytes_eq (name_of s) q) settings else filter (λ s. bytes_eq (name_of s) q) settings) zero) e)
    by true e (suc k) further =
        ap (λ b. option_and_then (slice_get whole) (slice_get (if b then from ∷ places_from q (suc from) settings else places_from q (suc from) settings) (suc k))) e ∙ further k
        ∙ sym (ap (λ b. slice_get (if b then s ∷ filter (λ s. bytes_eq (name_of s) q) settings else filter (λ s. bytes_eq (name_of s) q) settings) (suc k)) e)

count_one : (p : List ℕ → Bool) (before : List (List ℕ)) (n : List ℕ) → count_by p (before ++ n ∷ []) ≡ (if p n then count_by p before + 1 else count_by p before)
count_one p before n = one_more 0 before ∙ by (p n)
  where
    one_more : (start : ℕ) (before : List (List ℕ)) → fold (λ a x. a + (if p x then 1 else 0)) start (before ++ n ∷ []) ≡ fold (λ a x. a + (if p x then 1 else 0)) start before + (if p n then 1 else 0)
    one_more start [] = refl
    one_more start (x ∷ before) = one_more (start + (if p x then 1 else 0)) before

    by : (b : Bool) → count_by p before + (if b then 1 else 0) ≡ (if b then count_by p before + 1 else count_by p before)
    by true = refl
    by false = omega arith

-- what is paired so far: the names before, how many of each there are, and their partners
abbrev pub IsPairedTo : List Setting → List Setting → ℕ → (List ℕ → ℕ) → List (Option Setting) → Type 0
IsPairedTo child parent i counts done =
    (before : List (List ℕ)) × (length before ≡ i) × ((q : List ℕ) → counts q ≡ count_by (λ b. bytes_eq b q) before) × (done ++ partners before (map name_of (drop i child)) parent ≡ partners [] (map name_of child) parent)

pub paired_more : (child parent : List Setting) (i : ℕ) (counts after : List ℕ → ℕ) (done more : List (Option Setting)) (s : Setting) (o : Option Setting) → IsPairedTo child parent i counts done → i < length child → s ≡ get_or child i s
    → ((q : List ℕ) → after q ≡ (if bytes_eq (name_of s) q then counts q + 1 else counts q)) → o ≡ nth_named (name_of s) (counts (name_of s)) parent → more ≡ done ++ o ∷ [] → IsPairedTo child parent (i + 1) after more
paired_more child parent i counts after done more s o paired low is counted partner pushed =
    let before = paired.0 in
    let n = name_of s in
    let one : i + 1 ≡ suc i = omega arith in (
      before ++ n ∷ [],
      length_one before n ∙ ap (λ k. k + 1) paired.1,
      (λ q. counted q ∙ ap (λ k. if bytes_eq n q then k + 1 else k) (paired.2 q) ∙ sym (count_one (λ b. bytes_eq b q) before n)),
      ap (λ l. l ++ partners (before ++ n ∷ []) (map name_of (drop (i + 1) child)) parent) pushed
          ∙ ap (λ k. (done ++ o ∷ []) ++ partners (before ++ n ∷ []) (map name_of (drop k child)) parent) one
          ∙ joined done o (partners (before ++ n ∷ []) (map name_of (drop (suc i) child)) parent)
          ∙ ap (λ x. done ++ x ∷ partners (before ++ n ∷ []) (map name_of (drop (suc i) child)) parent) (partner ∙ ap (λ k. nth_named n k parent) (paired.2 n))
          ∙ ap (λ l. done ++ partners before (map name_of l) parent) (sym (drop-cons child i s low ∙ ap (λ x. x ∷ drop (suc i) child) (sym is)))
          ∙ paired.3,
    )
  where
    length_one : {A : Type 0} (xs : List A) (x : A) → length (xs ++ x ∷ []) ≡ length xs + 1
    length_one [] x = refl
    length_one (y ∷ xs) x = ap suc (length_one xs x) ∙ omega arith

    joined : {A : Type 0} (xs : List A) (x : A) (ys : List A) → (xs ++ x ∷ []) ++ ys ≡ xs ++ x ∷ ys
    joined [] x ys = refl
    joined (y ∷ xs) x ys = ap (λ l. y ∷ l) (joined xs x ys)

-- the parent's setting with those after it
pub unnamed_more : (child : List (List ℕ)) (parent : List Setting) (i : ℕ) (s : Setting) (done after whole : List Setting) → i < length parent → s ≡ get_or parent i s
    → after ≡ done ++ unnamed child (s ∷ []) → done ++ unnamed child (drop i parent) ≡ whole → after ++ unnamed child (drop (i + 1) parent) ≡ whole
unnamed_more child parent i s done after whole low is added so =
    let one : i + 1 ≡ suc i = omega arith in
    let rest = unnamed child (drop (suc i) parent) in
    ap (λ k. after ++ unnamed child (drop k parent)) one
    ∙ ap (λ l. l ++ rest) added
    ∙ by (not (list_any (λ n. bytes_eq n (name_of s)) child))
    ∙ ap (λ l. done ++ unnamed child l) (sym (drop-cons parent i s low ∙ ap (λ x. x ∷ drop (suc i) parent) (sym is)))
    ∙ so
  where
    nested : (xs ys zs : List Setting) → (xs ++ ys) ++ zs ≡ xs ++ (ys ++ zs)
    nested [] ys zs = refl
    nested (x ∷ xs) ys zs = ap (λ l. x ∷ l) (nested xs ys zs)

    by : (b : Bool) → (done ++ (if b then s ∷ [] else [])) ++ unnamed child (drop (suc i) parent) ≡ done ++ (if b then s ∷ unnamed child (drop (suc i) parent) else unnamed child (drop (suc i) parent))
    by true = nested done (s ∷ []) (unnamed child (drop (suc i) parent))
    by false = nested done [] (unnamed child (drop (suc i) parent))

-- one more of a child's settings with its partner
pub zip_more : (f : Setting × Option Setting → Setting) (child : List Setting) (os : List (Option Setting)) (i : ℕ) (c : Setting) (o : Option Setting) (done after whole : List Setting) → length os ≡ length child → i < length child
    → c ≡ get_or child i c → o ≡ option_and_then (λ x. x) (slice_get os i) → after ≡ done ++ f (c, o) ∷ []
    → done ++ map f (zip (drop i child) (drop i os)) ≡ whole → after ++ map f (zip (drop (i + 1) child) (drop (i + 1) os)) ≡ whole
zip_more f child os i c o done after whole same low is partner pushed so =
    let one : i + 1 ≡ suc i = omega arith in
    let within : i < length os = subst (λ k. i < k) (sym same) low in
    let there : get_or os i None ≡ o = sym (partner ∙ ap (option_and_then (λ x. x)) (slice_get-get_or os i None within)) in
    ap (λ k. after ++ map f (zip (drop k child) (drop k os))) one
    ∙ ap (λ l. l ++ map f (zip (drop (suc i) child) (drop (suc i) os))) pushed
    ∙ joined done (f (c, o)) (map f (zip (drop (suc i) child) (drop (suc i) os)))
    ∙ sym (ap (λ l. done ++ map f (zip l (drop i os))) (drop-cons child i c low)
    ∙ ap (λ l. done ++ map f (zip (get_or child i c ∷ drop (suc i) child) l)) (drop-cons os i None within)
    ∙ ap (λ x. done ++ f (x, get_or os i None) ∷ map f (zip (drop (suc i) child) (drop (suc i) os))) (sym is)
    ∙ ap (λ x. done ++ f (c, x) ∷ map f (zip (drop (suc i) child) (drop (suc i) os))) there)
    ∙ so
  where
    joined : {A : Type 0} (xs : List A) (x : A) (ys : List A) → (xs ++ x ∷ []) ++ ys ≡ xs ++ x ∷ ys
    joined [] x ys = refl
    joined (y ∷ xs) x ys = ap (λ l. y ∷ l) (joined xs x ys)

-- all of a level: each child with its partner, and then the others
pub level_done : (child parent : List Setting) (at : ℕ) (list : List Setting) → drop at child ≡ []
    → list ++ map (λ e. merged_or e.0 e.1) (zip (drop at child) (drop at (partners [] (map name_of child) parent))) ≡ map (λ e. merged_or e.0 e.1) (zip child (partners [] (map name_of child) parent))
    → list ++ unnamed (map name_of child) parent ≡ merged_configuration child parent
unfolding merged_configuration
level_done child parent at list end so =
    ap (λ l. l ++ unnamed (map name_of child) parent) (sym (nothing_more list) ∙ sym (ap (λ l. list ++ map (λ e. merged_or e.0 e.1) (zip l (drop at (partners [] (map name_of child) parent)))) end) ∙ so)
  where
    nothing_more : (xs : List Setting) → xs ++ [] ≡ xs
    nothing_more [] = refl
    nothing_more (x ∷ xs) = ap (λ l. x ∷ l) (nothing_more xs)

pub map_one : {A B : Type 0} (f : A → B) (xs : List A) (x : A) → map f (xs ++ x ∷ []) ≡ map f xs ++ f x ∷ []
map_one f [] x = refl
map_one f (y ∷ xs) x = ap (λ l. f y ∷ l) (map_one f xs x)
