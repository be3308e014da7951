-- The folders that a name stands in, from the last slash on, and the sets that have them.
use Rattle.std.proofs.Common.{◌≡◌, ◌≢◌, ℕ, suc, ◌<◌, ◌≤◌, Bool, true, false, ◌==◌, ◌||◌, List, [], ◌∷◌, ◌++◌, if◌then◌else◌, Some, None, length, get_or, map, take, drop, refl, sym, ap, ◌∙◌, length-append, arith}
use Rattle.std.proofs.lemmas.Bool.{false≢true}
use Rattle.std.proofs.lemmas.Bool.Decides.{nat_tests}
use Rattle.std.proofs.lemmas.List.{map-append, take-append-drop}
use Rattle.std.proofs.lemmas.List.Folds.{list_any-append}
use Rattle.std.proofs.lemmas.Str.Pattern.{NoCharPasses-char, drop_at_char}
use Rattle.std.specs.List.{list_any}
use Rattle.std.specs.Str.Pattern.{RFindsChar}
use Rattle.outside_real.specs.FullPath.{full_path}
use Rattle.std.specs.Ordering.{nat_cmp}
use Rattle.std.specs.Cmp.Lexicographic.{slice_cmp}
use Rattle.std.specs.BTreeMap.{is_at}
use Rattle.std.specs.BTreeSet.{BTreeSet, contains}
use Rattle.outside_real.specs.Ways.{folders_above, way, Gains, HasWay, Keeps}

-- a name without a slash stands in no folder
pub no_slash : (name : List ℕ) → ((i : ℕ) → i < length name → get_or name i 0 ≢ 47) → folders_above name ≡ []
no_slash [] none = refl
no_slash (b ∷ name) none =
    let other : (b == 47) ≡ false = grind (arith, nat_tests, none 0 (omega arith)) in
    rw other (ap (map (λ folder. b ∷ folder)) (no_slash name (λ i low. none (suc i) (omega (arith, low)))))

-- the last folder is what stands before the last slash
pub at_slash : (front back : List ℕ) → folders_above back ≡ [] → folders_above (front ++ 47 ∷ back) ≡ folders_above front ++ front ∷ []
at_slash [] back none = ap (λ folders. [] ∷ map (λ folder. 47 ∷ folder) folders) none
at_slash (b ∷ front) back none =
    by (b == 47) refl (ap (map (λ folder. b ∷ folder)) (at_slash front back none) ∙ map-append (λ folder. b ∷ folder) (folders_above front) (front ∷ []))
  where
    by : (t : Bool) → (b == 47) ≡ t → map (λ folder. b ∷ folder) (folders_above (front ++ 47 ∷ back)) ≡ map (λ folder. b ∷ folder) (folders_above front) ++ (b ∷ front) ∷ []
        → folders_above (b ∷ front ++ 47 ∷ back) ≡ folders_above (b ∷ front) ++ (b ∷ front) ∷ []
    by true e rest = rw e (ap (λ folders. [] ∷ folders) rest)
    by false e rest = rw e rest

-- what a search for the last slash gives
pub split_at_slash : (name front : List ℕ) (i j : ℕ) → RFindsChar 47 name (Some (i, j)) → front ≡ take i name → (length front < length name) × (folders_above name ≡ folders_above front ++ front ∷ [])
split_at_slash name front i j found before = (shorter, folders)
  where
    is : name ≡ front ++ 47 ∷ drop j name
    is = sym (take-append-drop i name) ∙ ap (λ f. f ++ drop i name) (sym before) ∙ ap (λ r. front ++ r) (drop_at_char 47 name i j found.1 (omega arith))

    shorter : length front < length name
    shorter = omega (arith, ap length is, length-append front (47 ∷ drop j name))

    none : folders_above (drop j name) ≡ []
    none = no_slash (drop j name) (λ k low. NoCharPasses-char 47 (drop j name) k found.0 (omega arith) low)

    folders : folders_above name ≡ folders_above front ++ front ∷ []
    folders = ap folders_above is ∙ at_slash front (drop j name) none

pub no_split : (name : List ℕ) → RFindsChar 47 name None → folders_above name ≡ []
no_split name none = no_slash name (λ k low. NoCharPasses-char 47 name k none (omega arith) low)

-- a list of paths has one more at its end
or_later : (a b c : Bool) → ((a || b) || c) ≡ (a || (b || c))
or_later true b c = refl
or_later false b c = refl

or_none : (b : Bool) → (b || false) ≡ b
or_none true = refl
or_none false = refl

pub one_of_more : (test : List ℕ → Bool) (paths : List (List ℕ)) (path : List ℕ) (had has : Bool) → has ≡ (test path || had) → (list_any test (paths ++ path ∷ []) || had) ≡ (list_any test paths || has)
one_of_more test paths path had has e =
    ap (λ b. b || had) (list_any-append test paths (path ∷ []) ∙ ap (λ b. list_any test paths || b) (or_none (test path)))
    ∙ or_later (list_any test paths) (test path) had ∙ ap (λ b. list_any test paths || b) (sym e)

-- one path is a list of one
pub gained_one : (test had has : Bool) → has ≡ (if test then true else had) → has ≡ ((test || false) || had)
gained_one true had has e = e
gained_one false had has e = e

-- the way of a name
pub way_gained : (test : List ℕ → Bool) (root name : List ℕ) (had was has : Bool) → (list_any test (map (full_path root) (folders_above name)) || had) ≡ was
    → has ≡ ((test root || false) || was) → has ≡ (list_any test (way root name) || had)
way_gained test root name had was has e f =
    f ∙ ap (λ b. b || was) (or_none (test root)) ∙ ap (λ b. test root || b) (sym e) ∙ sym (or_later (test root) (list_any test (map (full_path root) (folders_above name))) had)

-- ---- what was noted stays noted

or_so : (a b : Bool) → b ≡ true → (a || b) ≡ true
or_so true b so = refl
or_so false b so = so

or_first : (a b : Bool) → a ≡ true → (a || b) ≡ true
or_first true b so = refl
or_first false b so = absurd (false≢true so)

pub gained_keeps : (paths : List (List ℕ)) (old now : BTreeSet (List ℕ)) → Gains paths old now → Keeps old now
gained_keeps paths old now gains path there =
    gains path ∙ or_so (list_any (λ p. is_at (slice_cmp nat_cmp p) path) paths) (contains (slice_cmp nat_cmp) old path) there

pub gained_way : (root name : List ℕ) (old now : BTreeSet (List ℕ)) → Gains (way root name) old now → HasWay root name now
gained_way root name old now gains path on =
    gains path ∙ or_first (list_any (λ p. is_at (slice_cmp nat_cmp p) path) (way root name)) (contains (slice_cmp nat_cmp) old path) on

pub keeps_on : (a b c : BTreeSet (List ℕ)) → Keeps a b → Keeps b c → Keeps a c
keeps_on a b c first more path there = more path (first path there)

pub keeps_all : (a : BTreeSet (List ℕ)) → Keeps a a
keeps_all a path there = there
