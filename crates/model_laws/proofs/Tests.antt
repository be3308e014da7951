-- What the program's tests say of an element.
use Rattle.std.proofs.Common.{◌≡◌, ◌⊎◌, ℕ, zero, suc, ◌<◌, ◌==◌, Bool, true, false, not, ◌&&◌, ◌||◌, List, [], ◌∷◌, take, codes, Option, Some, None, is_some, slice_get, option_and_then, refl, sym, ap, ◌∙◌, arith, if◌then◌else◌}
use Rattle.std.specs.Bool.{Decides}
use Rattle.std.specs.List.{list_any}
use Rattle.std.specs.Str.{bytes_eq}
use Rattle.std.proofs.lemmas.Bool.{false≢true}
use Rattle.std.proofs.lemmas.Bool.Decides.{Decides-and, Decides-eqb, Decides-like, Decides-not, Decides-or}
use Rattle.std.proofs.lemmas.Slice.Eq.{bytes_eq-Decides}
use Rattle.pom_text.specs.declared.node.Node.{Node}
use Rattle.pom_model.specs.Elements.{if_named, named, text_of}
use Rattle.pom_model.specs.Faults.{combines, has_name, is_alone, is_combine, is_missing, is_repeated, is_required, model_version, most_items}
use Rattle.pom_model.specs.Table.{Row, kind_number}
use Rattle.model_laws.specs.Breaks.{Combines, Kind, Lacks, StandsBefore}
use Rattle.model_laws.proofs.Parts.{Read}

-- some item passes a test
pub record IsAny {A : Type 0} (test : A → Bool) (xs : List A) : Type 0 where
  pub j : ℕ
  pub x : A
  pub there : slice_get xs j ≡ Some x
  pub passes : test x ≡ true

none_some : {A : Type 0} (x : A) → ◌≡◌ {A = Option A} None (Some x) → ⊥
none_some x e = cc

some_is : {A : Type 0} (x y : A) → ◌≡◌ {A = Option A} (Some x) (Some y) → x ≡ y
some_is x y e = cc

any_found : {A : Type 0} (test : A → Bool) (xs : List A) → list_any test xs ≡ true → IsAny test xs
any_found test [] e = absurd (false≢true e)
any_found test (x ∷ xs) e = by (test x) refl (any_found test xs) e
  where
    by : (b : Bool) → test x ≡ b → (list_any test xs ≡ true → IsAny test xs) → (b || list_any test xs) ≡ true → IsAny test (x ∷ xs)
    by true is rest e = record { j = 0; x = x; there = refl; passes = is }
    by false is rest e = let r = rest e in record { j = suc r.j; x = r.x; there = r.there; passes = r.passes }

any_at : {A : Type 0} (test : A → Bool) (xs : List A) (j : ℕ) (x : A) → slice_get xs j ≡ Some x → test x ≡ true → list_any test xs ≡ true
any_at test [] j x there passes = absurd (none_some x there)
any_at test (y ∷ xs) zero x there passes = ap (λ b. b || list_any test xs) (ap test (some_is y x there) ∙ passes)
any_at test (y ∷ xs) (suc j) x there passes = ap (λ b. test y || b) (any_at test xs j x there passes) ∙ or_true (test y)
  where
    or_true : (b : Bool) → (b || true) ≡ true
    or_true true = refl
    or_true false = refl

any_decides : {A : Type 0} (test : A → Bool) (xs : List A) → Decides (list_any test xs) (IsAny test xs)
any_decides test xs = (any_found test xs, λ a. any_at test xs a.j a.x a.there a.passes)

-- of the first of a list
pub record IsEarly {A : Type 0} (xs : List A) (i j : ℕ) (x : A) : Type 0 where
  pub low : j < i
  pub there : slice_get xs j ≡ Some x

taken_early : {A : Type 0} (xs : List A) (i j : ℕ) (x : A) → slice_get (take i xs) j ≡ Some x → IsEarly xs i j x
taken_early xs zero j x e = absurd (none_some x e)
taken_early [] (suc i) j x e = absurd (none_some x e)
taken_early (y ∷ xs) (suc i) zero x e = record { low = omega arith; there = e }
taken_early (y ∷ xs) (suc i) (suc j) x e = let r = taken_early xs i j x e in record { low = omega (arith, r.low); there = r.there }

early_taken : {A : Type 0} (xs : List A) (i j : ℕ) (x : A) → j < i → slice_get xs j ≡ Some x → slice_get (take i xs) j ≡ Some x
early_taken xs zero j x low e = absurd (omega (arith, low))
early_taken [] (suc i) j x low e = absurd (none_some x e)
early_taken (y ∷ xs) (suc i) zero x low e = e
early_taken (y ∷ xs) (suc i) (suc j) x low e = early_taken xs i j x (omega (arith, low)) e

-- an element of a name
pub record IsNamed (nodes : List Node) (name : List ℕ) (k : ℕ) : Type 0 where
  pub node : Node
  pub there : slice_get nodes k ≡ Some node
  pub same : node.name ≡ name

named_decides : (nodes : List Node) (name : List ℕ) (k : ℕ) → Decides (is_some (named nodes name k)) (IsNamed nodes name k)
unfolding named
named_decides nodes name k = by (slice_get nodes k) refl
  where
    same : (node : Node) (b : Bool) → bytes_eq node.name name ≡ b → is_some (if b then Some node else None) ≡ true → node.name ≡ name
    same node true is e = (bytes_eq-Decides node.name name).0 is
    same node false is e = absurd (false≢true e)

    other : (node : Node) → node.name ≡ name → is_some (if_named name node) ≡ true
    other node is = ap (λ b. is_some (if b then Some node else None)) ((bytes_eq-Decides node.name name).1 is)

    by : (o : Option Node) → slice_get nodes k ≡ o → Decides (is_some (option_and_then (if_named name) o)) (IsNamed nodes name k)
    by None there = (λ e. absurd (false≢true e), λ n. absurd (none_some n.node (sym there ∙ n.there)))
    by (Some node) there = (λ e. record { node = node; there = there; same = same node (bytes_eq node.name name) refl e }, λ n. other node (ap (λ (x : Node). x.name) (some_is node n.node (sym there ∙ n.there)) ∙ n.same))

pub stands_decides : (nodes : List Node) (node : Node) (i : ℕ) (name : List ℕ) → Decides (has_name nodes name (take i node.children)) (StandsBefore nodes node i name)
stands_decides nodes node i name = Decides-like _ to from (any_decides (λ k. is_some (named nodes name k)) (take i node.children))
  where
    to : IsAny (λ k. is_some (named nodes name k)) (take i node.children) → StandsBefore nodes node i name
    to a =
        let early = taken_early node.children i a.j a.x a.there in
        let it = (named_decides nodes name a.x).0 a.passes in
        record { j = a.j; k = a.x; other = it.node; before = early.low; among = early.there; there = it.there; same = it.same }

    from : StandsBefore nodes node i name → IsAny (λ k. is_some (named nodes name k)) (take i node.children)
    from s = record { j = s.j; x = s.k; there = early_taken node.children i s.j s.k s.before s.among; passes = (named_decides nodes name s.k).1 (record { node = s.other; there = s.there; same = s.same }) }

pub combines_decides : (node : Node) → Decides (combines node) (Combines node)
combines_decides node = Decides-like _ to from (any_decides is_combine node.attributes)
  where
    one : (name : List ℕ) → Decides (is_combine name) ((name ≡ codes "combine.children") ⊎ (name ≡ codes "combine.self"))
    one name = Decides-or _ _ (bytes_eq-Decides name (codes "combine.children")) (bytes_eq-Decides name (codes "combine.self"))

    to : IsAny is_combine node.attributes → Combines node
    to a = record { n = a.j; name = a.x; there = a.there; says = (one a.x).0 a.passes }

    from : Combines node → IsAny is_combine node.attributes
    from c = record { j = c.n; x = c.name; there = c.there; passes = (one c.name).1 c.says }

itself : (b : Bool) → Decides b (b ≡ true)
itself b = (λ e. e, λ e. e)

not_itself : (b : Bool) → Decides (not b) (b ≡ false)
not_itself true = (λ e. absurd (false≢true e), λ e. absurd (false≢true (sym e)))
not_itself false = (λ e. refl, λ e. refl)

-- the tests where an element begins
pub again_decides : (nodes : List Node) (node : Node) (i : ℕ) (e : Read)
    → Decides (not (is_repeated e.0.1) && has_name nodes e.1.name (take i node.children)) ((is_repeated e.0.1 ≡ false) × StandsBefore nodes node i e.1.name)
again_decides nodes node i e = Decides-and _ _ (not_itself (is_repeated e.0.1)) (stands_decides nodes node i e.1.name)

pub combining_decides : (e : Read) → Decides (kind_number e.0.0 == 21 && combines e.1) ((kind_number e.0.0 ≡ 21) × Combines e.1)
combining_decides e = Decides-and _ _ (Decides-eqb (kind_number e.0.0) 21) (combines_decides e.1)

pub full_decides : (e : Read) (read : ℕ) → Decides (is_repeated e.0.1 && read == most_items) ((is_repeated e.0.1 ≡ true) × (read ≡ most_items))
full_decides e read = Decides-and _ _ (itself (is_repeated e.0.1)) (Decides-eqb read most_items)

-- and where one ends
pub version_decides : (nodes : List Node) (kind : Kind) (node : Node)
    → Decides (kind_number kind == 0 && not (bytes_eq (model_version nodes node) (codes "4.0.0"))) ((kind_number kind ≡ 0) × (model_version nodes node ≡ codes "4.0.0" → ⊥))
version_decides nodes kind node = Decides-and _ _ (Decides-eqb (kind_number kind) 0) (Decides-not _ (bytes_eq-Decides (model_version nodes node) (codes "4.0.0")))

none_decides : {A : Type 0} (o : Option A) → Decides (not (is_some o)) (o ≡ None)
none_decides (Some x) = (λ e. absurd (false≢true e), λ e. absurd (none_some x (sym e)))
none_decides None = (λ e. refl, λ e. refl)

pub lacks_decides : (nodes : List Node) (kind : Kind) (node : Node) (line : Row) → Decides (is_missing nodes kind node (is_alone nodes node) line) (Lacks nodes kind node line)
lacks_decides nodes kind node line = Decides-like _ to from
    (Decides-and _ _
    (Decides-and _ _ (Decides-eqb (kind_number line.under) (kind_number kind)) (itself (is_required (is_alone nodes node) line.times)))
    (none_decides (text_of nodes line.name (Some node))))
  where
    to : ((kind_number line.under ≡ kind_number kind) × (is_required (is_alone nodes node) line.times ≡ true)) × (text_of nodes line.name (Some node) ≡ None) → Lacks nodes kind node line
    to w = record { under = w.0.0; asked = w.0.1; lacking = w.1 }

    from : Lacks nodes kind node line → ((kind_number line.under ≡ kind_number kind) × (is_required (is_alone nodes node) line.times ≡ true)) × (text_of nodes line.name (Some node) ≡ None)
    from l = ((l.under, l.asked), l.lacking)
