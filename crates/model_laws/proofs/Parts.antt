-- What is wrong in an element, in parts: what begins or stands in each element in it, and what shows at its end.
use Rattle.std.proofs.Common.{◌≡◌, ◌⊎◌, inl, inr, ℕ, zero, suc, ◌<◌, ◌≤◌, true, false, List, [], ◌∷◌, length, codes, Option, Some, None, slice_get, option_and_then, option_map, refl, sym, ap, ◌∙◌, subst, arith}
use Rattle.std.specs.Cmp.Lexicographic.{slice_cmp}
use Rattle.std.specs.Ordering.{nat_cmp}
use Rattle.mvn_base.specs.declared.rule.Rule.TheVariants.{TooLarge, RepeatedElement, ModelVersion, MissingField, CombineAttribute}
use Rattle.pom_text.specs.declared.node.Node.{Node}
use Rattle.pom_model.specs.Elements.{text_or}
use Rattle.pom_model.specs.Faults.{as_read, is_repeated, most_items, read_child}
use Rattle.pom_model.specs.Table.{Row, found, kind_number, table}
use Rattle.model_laws.specs.Breaks.{Breaks, Combines, Kind, Times, Told, configuration_number, of_text, on_element, outward, project_number, IsNotAfter, Lacks, StandsBefore, element_at, read_before, step_to, again, combines, too_many, inside, version, lacks}
use Rattle.model_laws.proofs.Least.{IsSplit, begins_before, head_before, in_order}

abbrev pub Read : Type 0
Read = (Kind × Times) × Node

abbrev pub no_version : List Node → Node → Told
no_version nodes node = of_text ModelVersion (text_or nodes (codes "modelVersion") [] (Some node))

-- where an element begins that is read as this
pub record IsAgain (nodes : List Node) (node : Node) (i : ℕ) (e : Read) (p : List ℕ) (k : ℕ) (f : Told) : Type 0 where
  pub place : p ≡ i ∷ []
  pub turn : k ≡ 0
  pub tells : f ≡ on_element RepeatedElement e.1.name
  pub once : is_repeated e.0.1 ≡ false
  pub stands : StandsBefore nodes node i e.1.name

pub record IsCombining (nodes : List Node) (kind : Kind) (node : Node) (i : ℕ) (e : Read) (p : List ℕ) (k : ℕ) (f : Told) : Type 0 where
  pub place : p ≡ i ∷ []
  pub turn : k ≡ 1
  pub tells : f ≡ on_element CombineAttribute (step_to nodes kind node i e.0.1 e.1)
  pub configures : kind_number e.0.0 ≡ configuration_number
  pub says : Combines e.1

pub record IsTooMany (nodes : List Node) (kind : Kind) (node : Node) (i : ℕ) (e : Read) (p : List ℕ) (k : ℕ) (f : Told) : Type 0 where
  pub place : p ≡ i ∷ []
  pub turn : k ≡ 2
  pub tells : f ≡ on_element TooLarge []
  pub listed : is_repeated e.0.1 ≡ true
  pub full : read_before nodes kind node i ≡ most_items

abbrev pub IsLater : List Node → Kind → Node → ℕ → Read → List ℕ → ℕ → Told → Type 0
IsLater nodes kind node i e p k f = IsCombining nodes kind node i e p k f ⊎ IsTooMany nodes kind node i e p k f

abbrev pub IsBegun : List Node → Kind → Node → ℕ → Read → List ℕ → ℕ → Told → Type 0
IsBegun nodes kind node i e p k f = IsAgain nodes node i e p k f ⊎ IsLater nodes kind node i e p k f

-- in an element, within some levels
pub record IsInside (d : ℕ) (nodes : List Node) (kind : Kind) (node : Node) (i : ℕ) (e : Read) (p : List ℕ) (k : ℕ) (f : Told) : Type 0 where
  pub rest : List ℕ
  pub fault : Told
  pub place : p ≡ i ∷ rest
  pub tells : f ≡ outward (step_to nodes kind node i e.0.1 e.1) fault
  pub breaks : Breaks nodes e.0.0 e.1 rest k fault
  pub low : length rest ≤ d

-- at an element, and at those from one on
pub record IsAt (d : ℕ) (nodes : List Node) (kind : Kind) (node : Node) (i : ℕ) (p : List ℕ) (k : ℕ) (f : Told) : Type 0 where
  pub read : Read
  pub is : element_at nodes kind node i ≡ Some read
  pub here : IsBegun nodes kind node i read p k f ⊎ IsInside d nodes kind node i read p k f

pub record IsFrom (d : ℕ) (nodes : List Node) (kind : Kind) (node : Node) (i : ℕ) (p : List ℕ) (k : ℕ) (f : Told) : Type 0 where
  pub j : ℕ
  pub low : i ≤ j
  pub at : IsAt d nodes kind node j p k f

-- at the end
pub record IsVersion (nodes : List Node) (kind : Kind) (node : Node) (p : List ℕ) (k : ℕ) (f : Told) : Type 0 where
  pub place : p ≡ length node.children ∷ []
  pub turn : k ≡ 0
  pub tells : f ≡ no_version nodes node
  pub project : kind_number kind ≡ project_number
  pub other : text_or nodes (codes "modelVersion") [] (Some node) ≡ codes "4.0.0" → ⊥

pub record IsLacking (nodes : List Node) (kind : Kind) (node : Node) (p : List ℕ) (k : ℕ) (f : Told) : Type 0 where
  pub n : ℕ
  pub line : Row
  pub place : p ≡ length node.children ∷ []
  pub turn : k ≡ suc n
  pub tells : f ≡ on_element MissingField line.name
  pub there : slice_get table n ≡ Some line
  pub lacking : Lacks nodes kind node line

abbrev pub IsEnd : List Node → Kind → Node → List ℕ → ℕ → Told → Type 0
IsEnd nodes kind node p k f = IsVersion nodes kind node p k f ⊎ IsLacking nodes kind node p k f

-- in an element, within some levels
abbrev pub IsBelow : ℕ → List Node → Kind → Node → List ℕ → ℕ → Told → Type 0
IsBelow d nodes kind node p k f = Breaks nodes kind node p k f × (length p ≤ d)

-- the parts are all
pub parts : (d : ℕ) (nodes : List Node) {kind : Kind} {node : Node} {p : List ℕ} {k : ℕ} {f : Told} → Breaks nodes kind node p k f → length p ≤ suc d
    → IsFrom d nodes kind node 0 p k f ⊎ IsEnd nodes kind node p k f
parts d nodes (again kind node i e is once stands) low =
    inl (record { j = i; low = omega arith; at = record { read = e; is = is; here = inl (inl (record { place = refl; turn = refl; tells = refl; once = once; stands = stands })) } })
parts d nodes (combines kind node i e is configures says) low =
    inl (record { j = i; low = omega arith; at = record { read = e; is = is; here = inl (inr (inl (record { place = refl; turn = refl; tells = refl; configures = configures; says = says }))) } })
parts d nodes (too_many kind node i e is listed full) low =
    inl (record { j = i; low = omega arith; at = record { read = e; is = is; here = inl (inr (inr (record { place = refl; turn = refl; tells = refl; listed = listed; full = full }))) } })
parts d nodes (inside kind node i e place turn fault is breaks) low =
    inl (record { j = i; low = omega arith; at = record { read = e; is = is; here = inr (record { rest = place; fault = fault; place = refl; tells = refl; breaks = breaks; low = omega (arith, low) }) } })
parts d nodes (version kind node project other) low = inr (inl (record { place = refl; turn = refl; tells = refl; project = project; other = other }))
parts d nodes (lacks kind node n line there lacking) low = inr (inr (record { n = n; line = line; place = refl; turn = refl; tells = refl; there = there; lacking = lacking }))

-- and each of them is wrong
moved : (nodes : List Node) (kind : Kind) (node : Node) (p q : List ℕ) (k l : ℕ) (f g : Told) → p ≡ q → k ≡ l → f ≡ g → Breaks nodes kind node q l g → Breaks nodes kind node p k f
moved nodes kind node p q k l f g place turn tells b =
    subst (λ r. Breaks nodes kind node r k f) (sym place) (subst (λ t. Breaks nodes kind node q t f) (sym turn) (subst (Breaks nodes kind node q l) (sym tells) b))

one_long : (i : ℕ) (p : List ℕ) (d : ℕ) → p ≡ i ∷ [] → length p ≤ suc d
one_long i p d e = subst (λ q. length q ≤ suc d) (sym e) (omega arith)

pub begun_wrong : (d : ℕ) (nodes : List Node) (kind : Kind) (node : Node) (i : ℕ) (e : Read) (p : List ℕ) (k : ℕ) (f : Told) → element_at nodes kind node i ≡ Some e
    → IsBegun nodes kind node i e p k f → IsBelow (suc d) nodes kind node p k f
begun_wrong d nodes kind node i e p k f is (inl b) = (moved nodes kind node p (i ∷ []) k 0 f _ b.place b.turn b.tells (again kind node i e is b.once b.stands), one_long i p d b.place)
begun_wrong d nodes kind node i e p k f is (inr (inl b)) = (moved nodes kind node p (i ∷ []) k 1 f _ b.place b.turn b.tells (combines kind node i e is b.configures b.says), one_long i p d b.place)
begun_wrong d nodes kind node i e p k f is (inr (inr b)) = (moved nodes kind node p (i ∷ []) k 2 f _ b.place b.turn b.tells (too_many kind node i e is b.listed b.full), one_long i p d b.place)

pub inside_wrong : (d : ℕ) (nodes : List Node) (kind : Kind) (node : Node) (i : ℕ) (e : Read) (p : List ℕ) (k : ℕ) (f : Told) → element_at nodes kind node i ≡ Some e
    → IsInside d nodes kind node i e p k f → IsBelow (suc d) nodes kind node p k f
inside_wrong d nodes kind node i e p k f is b =
    (moved nodes kind node p (i ∷ b.rest) k k f _ b.place refl b.tells (inside kind node i e b.rest k b.fault is b.breaks), subst (λ q. length q ≤ suc d) (sym b.place) (longer b.rest b.low))
  where
    longer : (r : List ℕ) → length r ≤ d → length (i ∷ r) ≤ suc d
    longer r low = omega (arith, low)

pub at_wrong : (d : ℕ) (nodes : List Node) (kind : Kind) (node : Node) (i : ℕ) (p : List ℕ) (k : ℕ) (f : Told) → IsAt d nodes kind node i p k f → IsBelow (suc d) nodes kind node p k f
at_wrong d nodes kind node i p k f a = by a.here
  where
    by : IsBegun nodes kind node i a.read p k f ⊎ IsInside d nodes kind node i a.read p k f → IsBelow (suc d) nodes kind node p k f
    by (inl b) = begun_wrong d nodes kind node i a.read p k f a.is b
    by (inr b) = inside_wrong d nodes kind node i a.read p k f a.is b

pub end_wrong : (d : ℕ) (nodes : List Node) (kind : Kind) (node : Node) (p : List ℕ) (k : ℕ) (f : Told) → IsEnd nodes kind node p k f → IsBelow (suc d) nodes kind node p k f
end_wrong d nodes kind node p k f (inl b) =
    (moved nodes kind node p (length node.children ∷ []) k 0 f _ b.place b.turn b.tells (version kind node b.project b.other), one_long (length node.children) p d b.place)
end_wrong d nodes kind node p k f (inr b) =
    (moved nodes kind node p (length node.children ∷ []) k (suc b.n) f _ b.place b.turn b.tells (lacks kind node b.n b.line b.there b.lacking), one_long (length node.children) p d b.place)

-- no place is that of the element itself
pub record IsLong (p : List ℕ) : Type 0 where
  pub i : ℕ
  pub rest : List ℕ
  pub is : p ≡ i ∷ rest

pub is_long : (nodes : List Node) {kind : Kind} {node : Node} {p : List ℕ} {k : ℕ} {f : Told} → Breaks nodes kind node p k f → IsLong p
is_long nodes (again kind node i e is once stands) = record { i = i; rest = []; is = refl }
is_long nodes (combines kind node i e is configures says) = record { i = i; rest = []; is = refl }
is_long nodes (too_many kind node i e is listed full) = record { i = i; rest = []; is = refl }
is_long nodes (inside kind node i e place turn fault is breaks) = record { i = i; rest = place; is = refl }
is_long nodes (version kind node project other) = record { i = length node.children; rest = []; is = refl }
is_long nodes (lacks kind node n line there lacking) = record { i = length node.children; rest = []; is = refl }

-- an element that is read stands among the children, and among all
pub record IsChild (nodes : List Node) (kind : Kind) (node : Node) (i : ℕ) (e : Read) : Type 0 where
  pub k : ℕ
  pub among : slice_get node.children i ≡ Some k
  pub there : slice_get nodes k ≡ Some e.1

none_some : {A : Type 0} (x : A) → ◌≡◌ {A = Option A} None (Some x) → ⊥
none_some x e = cc

some_is : {A : Type 0} (x y : A) → ◌≡◌ {A = Option A} (Some x) (Some y) → x ≡ y
some_is x y e = cc

-- an element beside what the table says of it
abbrev with_node : Node → Kind × Times → Read
with_node node r = (r, node)

pub is_child : (nodes : List Node) (kind : Kind) (node : Node) (i : ℕ) (e : Read) → element_at nodes kind node i ≡ Some e → IsChild nodes kind node i e
unfolding read_child
is_child nodes kind node i e is = by (slice_get node.children i) refl is
  where
    third : (k : ℕ) (child : Node) (o : Option (Kind × Times)) → slice_get node.children i ≡ Some k → slice_get nodes k ≡ Some child → option_map (with_node child) o ≡ Some e → IsChild nodes kind node i e
    third k child None among there is = absurd (none_some e is)
    third k child (Some r) among there is = record { k = k; among = among; there = there ∙ ap (λ (x : Read). Some x.1) (some_is (with_node child r) e is) }

    second : (k : ℕ) (o : Option Node) → slice_get node.children i ≡ Some k → slice_get nodes k ≡ o → option_and_then (as_read kind) o ≡ Some e → IsChild nodes kind node i e
    second k None among there is = absurd (none_some e is)
    second k (Some child) among there is = third k child (found kind child.name) among there is

    by : (o : Option ℕ) → slice_get node.children i ≡ o → option_and_then (read_child nodes kind) o ≡ Some e → IsChild nodes kind node i e
    by None there is = absurd (none_some e is)
    by (Some k) there is = second k (slice_get nodes k) there refl is

pub got_low : {A : Type 0} (xs : List A) (i : ℕ) (x : A) → slice_get xs i ≡ Some x → i < length xs
got_low [] i x e = absurd (none_some x e)
got_low (y ∷ xs) zero x e = omega arith
got_low (y ∷ xs) (suc i) x e = omega (arith, got_low xs i x e)

pub none_at : {A : Type 0} (xs : List A) → slice_get xs (length xs) ≡ None
none_at [] = refl
none_at (x ∷ xs) = none_at xs

-- how the parts stand
pub at_long : (d : ℕ) (nodes : List Node) (kind : Kind) (node : Node) (i : ℕ) (p : List ℕ) (k : ℕ) (f : Told) → IsAt d nodes kind node i p k f → (rest : List ℕ) × (p ≡ i ∷ rest)
at_long d nodes kind node i p k f a = by a.here
  where
    by : IsBegun nodes kind node i a.read p k f ⊎ IsInside d nodes kind node i a.read p k f → (rest : List ℕ) × (p ≡ i ∷ rest)
    by (inl (inl b)) = ([], b.place)
    by (inl (inr (inl b))) = ([], b.place)
    by (inl (inr (inr b))) = ([], b.place)
    by (inr b) = (b.rest, b.place)

heads : (i j : ℕ) (p q r s : List ℕ) (k l : ℕ) → i < j → p ≡ i ∷ r → q ≡ j ∷ s → IsNotAfter p k q l
heads i j p q r s k l lt one two = inl (ap (λ x. slice_cmp nat_cmp x q) one ∙ ap (slice_cmp nat_cmp (i ∷ r)) two ∙ head_before i j r s lt)

pub element_split : (d : ℕ) (nodes : List Node) (kind : Kind) (node : Node) → IsSplit (IsFrom d nodes kind node 0) (IsEnd nodes kind node) (IsBelow (suc d) nodes kind node)
element_split d nodes kind node = record {
  one = λ p k f w. at_wrong d nodes kind node w.j p k f w.at;
  two = λ p k f w. end_wrong d nodes kind node p k f w;
  either = λ p k f w. parts d nodes w.0 w.1;
  sorted = λ p k f q l g one two.
      let a = at_long d nodes kind node one.j p k f one.at in
      heads one.j (length node.children) p q a.0 [] k l (low one.j one.at.read one.at.is) a.1 (end_at q l g two);
}
  where
    low : (i : ℕ) (e : Read) → element_at nodes kind node i ≡ Some e → i < length node.children
    low i e is = let c = is_child nodes kind node i e is in got_low node.children i c.k c.among

    end_at : (q : List ℕ) (l : ℕ) (g : Told) → IsEnd nodes kind node q l g → q ≡ length node.children ∷ []
    end_at q l g (inl b) = b.place
    end_at q l g (inr b) = b.place

pub from_split : (d : ℕ) (nodes : List Node) (kind : Kind) (node : Node) (i : ℕ) → IsSplit (IsAt d nodes kind node i) (IsFrom d nodes kind node (suc i)) (IsFrom d nodes kind node i)
from_split d nodes kind node i = record {
  one = λ p k f w. record { j = i; low = omega arith; at = w };
  two = λ p k f w. record { j = w.j; low = omega (arith, w.low); at = w.at };
  either = λ p k f w. by p k f w.j (in_order i w.j w.low) w.at;
  sorted = λ p k f q l g one two.
      let a = at_long d nodes kind node i p k f one in
      let b = at_long d nodes kind node two.j q l g two.at in
      heads i two.j p q a.0 b.0 k l (omega (arith, two.low)) a.1 b.1;
}
  where
    by : (p : List ℕ) (k : ℕ) (f : Told) (j : ℕ) → (j ≡ i) ⊎ (suc i ≤ j) → IsAt d nodes kind node j p k f → IsAt d nodes kind node i p k f ⊎ IsFrom d nodes kind node (suc i) p k f
    by p k f j (inl e) a = inl (subst (λ x. IsAt d nodes kind node x p k f) e a)
    by p k f j (inr le) a = inr (record { j = j; low = le; at = a })

pub at_split : (d : ℕ) (nodes : List Node) (kind : Kind) (node : Node) (i : ℕ) (e : Read) → element_at nodes kind node i ≡ Some e
    → IsSplit (IsBegun nodes kind node i e) (IsInside d nodes kind node i e) (IsAt d nodes kind node i)
at_split d nodes kind node i e is = record {
  one = λ p k f w. record { read = e; is = is; here = inl w };
  two = λ p k f w. record { read = e; is = is; here = inr w };
  either = λ p k f w. subst (λ x. IsBegun nodes kind node i x p k f ⊎ IsInside d nodes kind node i x p k f) (some_is w.read e (sym w.is ∙ is)) w.here;
  sorted = λ p k f q l g one two. by p k q l (begun_at p k f one) two.rest two.place (is_long nodes two.breaks);
}
  where
    begun_at : (p : List ℕ) (k : ℕ) (f : Told) → IsBegun nodes kind node i e p k f → p ≡ i ∷ []
    begun_at p k f (inl b) = b.place
    begun_at p k f (inr (inl b)) = b.place
    begun_at p k f (inr (inr b)) = b.place

    by : (p : List ℕ) (k : ℕ) (q : List ℕ) (l : ℕ) → p ≡ i ∷ [] → (rest : List ℕ) → q ≡ i ∷ rest → IsLong rest → IsNotAfter p k q l
    by p k q l one rest two long =
        inl (ap (λ x. slice_cmp nat_cmp x q) one ∙ ap (slice_cmp nat_cmp (i ∷ [])) (two ∙ ap (λ r. i ∷ r) long.is) ∙ begins_before i long.i long.rest)

pub begun_split : (nodes : List Node) (kind : Kind) (node : Node) (i : ℕ) (e : Read) → IsSplit (IsAgain nodes node i e) (IsLater nodes kind node i e) (IsBegun nodes kind node i e)
begun_split nodes kind node i e = record {
  one = λ p k f w. inl w;
  two = λ p k f w. inr w;
  either = λ p k f w. w;
  sorted = λ p k f q l g one two. by p k f q l g one two;
}
  where
    by : (p : List ℕ) (k : ℕ) (f : Told) (q : List ℕ) (l : ℕ) (g : Told) → IsAgain nodes node i e p k f → IsLater nodes kind node i e q l g → IsNotAfter p k q l
    by p k f q l g one (inl two) = inr (one.place ∙ sym two.place, omega (arith, one.turn))
    by p k f q l g one (inr two) = inr (one.place ∙ sym two.place, omega (arith, one.turn))

pub later_split : (nodes : List Node) (kind : Kind) (node : Node) (i : ℕ) (e : Read) → IsSplit (IsCombining nodes kind node i e) (IsTooMany nodes kind node i e) (IsLater nodes kind node i e)
later_split nodes kind node i e = record {
  one = λ p k f w. inl w;
  two = λ p k f w. inr w;
  either = λ p k f w. w;
  sorted = λ p k f q l g one two. inr (one.place ∙ sym two.place, omega (arith, one.turn, two.turn));
}

pub end_split : (nodes : List Node) (kind : Kind) (node : Node) → IsSplit (IsVersion nodes kind node) (IsLacking nodes kind node) (IsEnd nodes kind node)
end_split nodes kind node = record {
  one = λ p k f w. inl w;
  two = λ p k f w. inr w;
  either = λ p k f w. w;
  sorted = λ p k f q l g one two. inr (one.place ∙ sym two.place, omega (arith, one.turn));
}
