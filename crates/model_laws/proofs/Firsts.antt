-- The refusal that the program comes to is the first of all that is wrong.
use Rattle.std.proofs.Common.{◌≡◌, inr, ℕ, zero, suc, ◌<◌, ◌≤◌, ◌==◌, Bool, true, false, not, ◌&&◌, List, [], ◌∷◌, ◌++◌, length, take, codes, Option, Some, None, find, slice_get, option_and_then, option_map, refl, sym, ap, ◌∙◌, subst, arith, if◌then◌else◌, cond}
use Rattle.std.specs.Str.{bytes_eq}
use Rattle.std.proofs.lemmas.Bool.{false≢true}
use Rattle.std.proofs.lemmas.Slice.Eq.{bytes_eq-Decides}
use Rattle.mvn_base.specs.declared.rule.Rule.TheVariants.{TooLarge, RootNotProject, RepeatedElement, MissingField, CombineAttribute}
use Rattle.pom_text.specs.declared.node.Node.{Node}
use Rattle.pom_model.specs.Faults.{among, at_path, begun, child_fault, combines, count_read, ended, fault_within, first_fault, has_name, is_alone, is_missing, is_repeated, missing, most_items, or, read_child, root_fault, under, version_fault}
use Rattle.pom_model.specs.Table.{Row, kind_number, table}
use Rattle.model_laws.specs.Breaks.{Breaks, IsWrong, Kind, Told, first_kind, of_text, on_element, IsWrongAbove, element_at, read_before, step_to, no_root, other_root, in_project}
use Rattle.model_laws.proofs.Least.{Fault, IsLeast, IsSeen, Sees, alone, element_seen, further, joined, least_at, root_first, seen, text_seen}
use Rattle.model_laws.proofs.Parts.{IsAgain, IsAt, IsBegun, IsBelow, IsCombining, IsEnd, IsFrom, IsInside, IsLacking, IsLater, IsTooMany, IsVersion, Read, at_split, begun_split, element_split, end_split, from_split, got_low, is_child, is_long, later_split, no_version}
use Rattle.model_laws.proofs.Tests.{again_decides, combining_decides, full_decides, lacks_decides, version_decides}

none_some : {A : Type 0} (x : A) → ◌≡◌ {A = Option A} None (Some x) → ⊥
none_some x e = cc

some_is : {A : Type 0} (x y : A) → ◌≡◌ {A = Option A} (Some x) (Some y) → x ≡ y
some_is x y e = cc

-- a choice of three as parts
one_of : (a b c : Bool) (x y z : Fault) → (if a then Some x else if b then Some y else if c then Some z else None) ≡ or (if a then Some x else None) (or (if b then Some y else None) (if c then Some z else None))
one_of true b c x y z = refl
one_of false true c x y z = refl
one_of false false c x y z = refl

-- where an element begins
begun_least : (nodes : List Node) (kind : Kind) (node : Node) (i : ℕ) (e : Read) → IsLeast (IsBegun nodes kind node i e) (begun nodes (take i node.children) (read_before nodes kind node i) e.0 e.1)
unfolding begun kind_number
begun_least nodes kind node i e =
    let again = again_decides nodes node i e in
    let combining = combining_decides e in
    let full = full_decides e (read_before nodes kind node i) in
    let path = step_to nodes kind node i e.0.1 e.1 in
    least_at (IsBegun nodes kind node i e) _ _ (one_of (not (is_repeated e.0.1) && has_name nodes e.1.name (take i node.children)) (kind_number e.0.0 == 21 && combines e.1) (is_repeated e.0.1 && read_before nodes kind node i == most_items) (at_path RepeatedElement e.1.name) (at_path CombineAttribute path) (at_path TooLarge []))
    (joined (IsAgain nodes node i e) (IsLater nodes kind node i e) (IsBegun nodes kind node i e) (begun_split nodes kind node i e) _ _
    (alone (IsAgain nodes node i e) _ (i ∷ []) 0 (on_element RepeatedElement e.1.name) (at_path RepeatedElement e.1.name) (element_seen RepeatedElement e.1.name)
    (λ t. let w = again.0 t in record { place = refl; turn = refl; tells = refl; once = w.0; stands = w.1 }) (λ q l g w. (again.1 (w.once, w.stands), w.place, w.turn)))
    (joined (IsCombining nodes kind node i e) (IsTooMany nodes kind node i e) (IsLater nodes kind node i e) (later_split nodes kind node i e) _ _
    (alone (IsCombining nodes kind node i e) _ (i ∷ []) 1 (on_element CombineAttribute path) (at_path CombineAttribute path) (element_seen CombineAttribute path)
    (λ t. let w = combining.0 t in record { place = refl; turn = refl; tells = refl; configures = w.0; says = w.1 }) (λ q l g w. (combining.1 (w.configures, w.says), w.place, w.turn)))
    (alone (IsTooMany nodes kind node i e) _ (i ∷ []) 2 (on_element TooLarge []) (at_path TooLarge []) (element_seen TooLarge [])
    (λ t. let w = full.0 t in record { place = refl; turn = refl; tells = refl; listed = w.0; full = w.1 }) (λ q l g w. (full.1 (w.listed, w.full), w.place, w.turn)))))

-- in an element
inside_least : (d : ℕ) (nodes : List Node) (kind : Kind) (node : Node) (i : ℕ) (e : Read) (o : Option Fault) → IsLeast (IsBelow d nodes e.0.0 e.1) o
    → IsLeast (IsInside d nodes kind node i e) (option_map (under (step_to nodes kind node i e.0.1 e.1)) o)
inside_least d nodes kind node i e o x =
    seen (IsBelow d nodes e.0.0 e.1) (IsInside d nodes kind node i e) (λ p. i ∷ p) (step_to nodes kind node i e.0.1 e.1) (further i)
    (λ p k f w. record { rest = p; fault = f; place = refl; tells = refl; breaks = w.0; low = w.1 })
    (λ q l g w. record { place = w.rest; told = w.fault; there = w.place; tells = w.tells; here = (w.breaks, w.low) }) o x

-- at an element
at_least : (d : ℕ) (nodes : List Node) (further : Kind → Node → Option Fault) → ((kind : Kind) (node : Node) → IsLeast (IsBelow d nodes kind node) (further kind node))
    → (kind : Kind) (node : Node) (i : ℕ) (o : Option Read) → element_at nodes kind node i ≡ o
    → IsLeast (IsAt d nodes kind node i) (child_fault further nodes (take i node.children) (read_before nodes kind node i) o)
at_least d nodes further all kind node i None is = λ p k f w. none_some w.read (sym is ∙ w.is)
at_least d nodes further all kind node i (Some e) is =
    joined (IsBegun nodes kind node i e) (IsInside d nodes kind node i e) (IsAt d nodes kind node i) (at_split d nodes kind node i e is) _ _
    (begun_least nodes kind node i e) (inside_least d nodes kind node i e (further e.0.0 e.1) (all e.0.0 e.1))

-- lists that are joined
got_behind : {A : Type 0} (xs : List A) (x : A) (ys : List A) → slice_get (xs ++ x ∷ ys) (length xs) ≡ Some x
got_behind [] x ys = refl
got_behind (y ∷ xs) x ys = got_behind xs x ys

taken_front : {A : Type 0} (xs ys : List A) → take (length xs) (xs ++ ys) ≡ xs
taken_front [] ys = refl
taken_front (x ∷ xs) ys = ap (λ l. x ∷ l) (taken_front xs ys)

one_more : {A : Type 0} (xs : List A) (x : A) (ys : List A) → (xs ++ x ∷ []) ++ ys ≡ xs ++ x ∷ ys
one_more [] x ys = refl
one_more (y ∷ xs) x ys = ap (λ l. y ∷ l) (one_more xs x ys)

length_more : {A : Type 0} (xs : List A) (x : A) → length (xs ++ x ∷ []) ≡ suc (length xs)
length_more [] x = refl
length_more (y ∷ xs) x = ap suc (length_more xs x)

all_of : {A : Type 0} (xs : List A) → xs ++ [] ≡ xs
all_of [] = refl
all_of (x ∷ xs) = ap (λ l. x ∷ l) (all_of xs)

-- at the elements in one, from some on
among_least : (d : ℕ) (nodes : List Node) (further : Kind → Node → Option Fault) → ((kind : Kind) (node : Node) → IsLeast (IsBelow d nodes kind node) (further kind node))
    → (kind : Kind) (node : Node) (before ks : List ℕ) → before ++ ks ≡ node.children → IsLeast (IsFrom d nodes kind node (length before)) (among further nodes kind before ks)
among_least d nodes further all kind node before [] whole = λ p k f w.
    let c = is_child nodes kind node w.j w.at.read w.at.is in
    let low : w.j < length node.children = got_low node.children w.j c.k c.among in
    let same : length before ≡ length node.children = ap length (sym (all_of before) ∙ whole) in
    absurd (omega (arith, w.low, low, same))
among_least d nodes further all kind node before (k ∷ ks) whole =
    joined (IsAt d nodes kind node (length before)) (IsFrom d nodes kind node (suc (length before))) (IsFrom d nodes kind node (length before)) (from_split d nodes kind node (length before)) _ _ here
    (subst (λ n. IsLeast (IsFrom d nodes kind node n) (among further nodes kind (before ++ k ∷ []) ks)) (length_more before k)
    (among_least d nodes further all kind node (before ++ k ∷ []) ks (one_more before k ks ∙ whole)))
  where
    at_k : slice_get node.children (length before) ≡ Some k
    at_k = ap (λ l. slice_get l (length before)) (sym whole) ∙ got_behind before k ks

    front : take (length before) node.children ≡ before
    front = ap (take (length before)) (sym whole) ∙ taken_front before (k ∷ ks)

    here : IsLeast (IsAt d nodes kind node (length before)) (child_fault further nodes before (count_read nodes kind before) (read_child nodes kind k))
    here = least_at (IsAt d nodes kind node (length before)) _ (child_fault further nodes (take (length before) node.children) (read_before nodes kind node (length before)) (read_child nodes kind k))
        (ap (λ l. child_fault further nodes l (count_read nodes kind l) (read_child nodes kind k)) (sym front))
        (at_least d nodes further all kind node (length before) (read_child nodes kind k) (ap (option_and_then (read_child nodes kind)) at_k))

-- the first line that passes a test
abbrev IsFound : (Row → Bool) → List Row → Option Row → Type 0
IsFound test rows (Some line) = (n : ℕ) × (slice_get rows n ≡ Some line) × (test line ≡ true) × ((m : ℕ) (other : Row) → slice_get rows m ≡ Some other → test other ≡ true → n ≤ m)
IsFound test rows None = (m : ℕ) (other : Row) → slice_get rows m ≡ Some other → test other ≡ true → ⊥

found_first : (test : Row → Bool) (rows : List Row) → IsFound test rows (find test rows)
found_first test [] = λ m other there passes. none_some other there
found_first test (row ∷ rows) = by (test row) refl (find test rows) (found_first test rows)
  where
    fails : (other : Row) → test row ≡ false → row ≡ other → test other ≡ true → ⊥
    fails other is same passes = false≢true (sym is ∙ ap test same ∙ passes)

    least : (n : ℕ) → test row ≡ false → ((m : ℕ) (other : Row) → slice_get rows m ≡ Some other → test other ≡ true → n ≤ m)
        → (m : ℕ) (other : Row) → slice_get (row ∷ rows) m ≡ Some other → test other ≡ true → suc n ≤ m
    least n is rest zero other there passes = absurd (fails other is (some_is row other there) passes)
    least n is rest (suc m) other there passes = omega (arith, rest m other there passes)

    none : test row ≡ false → ((m : ℕ) (other : Row) → slice_get rows m ≡ Some other → test other ≡ true → ⊥)
        → (m : ℕ) (other : Row) → slice_get (row ∷ rows) m ≡ Some other → test other ≡ true → ⊥
    none is rest zero other there passes = fails other is (some_is row other there) passes
    none is rest (suc m) other there passes = rest m other there passes

    by : (b : Bool) → test row ≡ b → (o : Option Row) → IsFound test rows o → IsFound test (row ∷ rows) (cond b (Some row) o)
    by true is o w = (0, refl, is, λ m other there passes. omega arith)
    by false is (Some line) w = (suc w.0, w.1, w.2, least w.0 is w.3)
    by false is None w = none is w

-- what an element lacks
abbrev lacking_test : List Node → Kind → Node → Row → Bool
lacking_test nodes kind node = is_missing nodes kind node (is_alone nodes node)

lacking_least : (nodes : List Node) (kind : Kind) (node : Node) → IsLeast (IsLacking nodes kind node) (missing nodes kind node)
unfolding missing
lacking_least nodes kind node = by (find (lacking_test nodes kind node) table) (found_first (lacking_test nodes kind node) table)
  where
    later : (l n m : ℕ) → l ≡ suc n → m ≤ n → suc m ≤ l
    later l n m e le = omega (arith, e, le)

    by : (o : Option Row) → IsFound (lacking_test nodes kind node) table o → IsLeast (IsLacking nodes kind node) (option_map (at_path MissingField) (option_map (λ (r : Row). r.name) o))
    by (Some line) w = record {
      told = on_element MissingField line.name;
      sees = element_seen MissingField line.name;
      least = record {
        place = length node.children ∷ [];
        turn = suc w.0;
        has = record { n = w.0; line = line; place = refl; turn = refl; tells = refl; there = w.1; lacking = (lacks_decides nodes kind node line).0 w.2 };
        first = λ q l g x. inr (sym x.place, later l x.n w.0 x.turn (w.3 x.n x.line x.there ((lacks_decides nodes kind node x.line).1 x.lacking)));
      };
    }
    by None w = λ q l g x. w x.n x.line x.there ((lacks_decides nodes kind node x.line).1 x.lacking)

version_least : (nodes : List Node) (kind : Kind) (node : Node) → IsLeast (IsVersion nodes kind node) (version_fault nodes kind node)
unfolding version_fault kind_number under
version_least nodes kind node =
    let test = version_decides nodes kind node in
    alone (IsVersion nodes kind node) _ (length node.children ∷ []) 0 (no_version nodes node) _ (text_seen _ (no_version nodes node) (λ step. refl) (λ step. refl) (λ pom. refl))
    (λ t. let w = test.0 t in record { place = refl; turn = refl; tells = refl; project = w.0; other = w.1 })
    (λ q l g w. (test.1 (w.project, w.other), w.place, w.turn))

-- where an element ends
ended_least : (nodes : List Node) (kind : Kind) (node : Node) → IsLeast (IsEnd nodes kind node) (ended nodes kind node)
unfolding ended
ended_least nodes kind node =
    joined (IsVersion nodes kind node) (IsLacking nodes kind node) (IsEnd nodes kind node) (end_split nodes kind node) _ _ (version_least nodes kind node) (lacking_least nodes kind node)

-- in an element, within some levels
pub within_least : (d : ℕ) (nodes : List Node) (kind : Kind) (node : Node) → IsLeast (IsBelow d nodes kind node) (fault_within d nodes kind node)
unfolding fault_within
within_least zero nodes kind node = λ p k f w.
    let long = is_long nodes w.0 in
    let low : length p ≤ 0 = w.1 in
    none p long.i long.rest long.is low
  where
    none : (p : List ℕ) (i : ℕ) (rest : List ℕ) → p ≡ i ∷ rest → length p ≤ 0 → ⊥
    none p i rest is low = let e : length p ≡ suc (length rest) = ap length is in omega (arith, e, low)
within_least (suc d) nodes kind node =
    joined (IsFrom d nodes kind node 0) (IsEnd nodes kind node) (IsBelow (suc d) nodes kind node) (element_split d nodes kind node) _ _
    (among_least d nodes (fault_within d nodes) (within_least d nodes) kind node [] node.children refl) (ended_least nodes kind node)

-- in a POM
alone_wrong : (nodes : List Node) (t : Told) (f : Fault) → Sees t f → IsWrong nodes [] 0 t → IsLeast (IsWrongAbove nodes) (Some f)
alone_wrong nodes t f sees w = record { told = t; sees = sees; least = record { place = []; turn = 0; has = (w, omega arith); first = λ q l g x. root_first q l } }

project_wrong : (nodes : List Node) (root : Node) (kind : Kind) → slice_get nodes 0 ≡ Some root → root.name ≡ codes "project" → first_kind ≡ Some kind → {p : List ℕ} {k : ℕ} {f : Told} → IsWrong nodes p k f → length p ≤ 64
    → IsSeen (IsBelow 64 nodes kind root) (IsWrongAbove nodes) (λ p. p) (codes "project") p k f
project_wrong nodes root kind is name first (no_root none) low = absurd (none_some root (sym none ∙ is))
project_wrong nodes root kind is name first (other_root other there differs) low = absurd (differs (ap (λ (x : Node). x.name) (some_is other root (sym there ∙ is)) ∙ name))
project_wrong nodes root kind is name first (in_project other it place turn told there named that breaks) low = record {
  place = place;
  told = told;
  there = refl;
  tells = refl;
  here = (subst (λ x. Breaks nodes kind x place turn told) (some_is other root (sym there ∙ is)) (subst (λ y. Breaks nodes y other place turn told) (some_is it kind (sym that ∙ first)) breaks), low);
}

project_least : (nodes : List Node) (root : Node) (kind : Kind) → slice_get nodes 0 ≡ Some root → root.name ≡ codes "project" → first_kind ≡ Some kind → IsLeast (IsWrongAbove nodes) (option_map (under (codes "project")) (fault_within 64 nodes kind root))
project_least nodes root kind is name first =
    seen (IsBelow 64 nodes kind root) (IsWrongAbove nodes) (λ p. p) (codes "project") (λ p k q l x. x)
    (λ p k f w. (in_project root kind p k f is name first w.0, w.1)) (λ q l g w. project_wrong nodes root kind is name first w.0 w.1) (fault_within 64 nodes kind root) (within_least 64 nodes kind root)

-- of two options by a test
choice : (P : Option Fault → Type 0) (b : Bool) (x y : Option Fault) → (b ≡ true → P x) → (b ≡ false → P y) → P (if b then x else y)
choice P true x y f g = f refl
choice P false x y f g = g refl

pub all_least : (nodes : List Node) → IsLeast (IsWrongAbove nodes) (first_fault nodes)
unfolding first_fault table under
all_least nodes = by (slice_get nodes 0) refl
  where
    by : (o : Option Node) → slice_get nodes 0 ≡ o → IsLeast (IsWrongAbove nodes) (root_fault nodes o)
    by None none = alone_wrong nodes (of_text RootNotProject []) _ (text_seen _ (of_text RootNotProject []) (λ step. refl) (λ step. refl) (λ pom. refl)) (no_root none)
    by (Some root) is = choice (IsLeast (IsWrongAbove nodes)) (bytes_eq root.name (codes "project")) _ _
        (λ e. project_least nodes root _ is ((bytes_eq-Decides root.name (codes "project")).0 e) refl)
        (λ e. alone_wrong nodes (of_text RootNotProject root.name) _ (text_seen _ (of_text RootNotProject root.name) (λ step. refl) (λ step. refl) (λ pom. refl))
        (other_root root is (λ name. false≢true (sym e ∙ (bytes_eq-Decides root.name (codes "project")).1 name))))
