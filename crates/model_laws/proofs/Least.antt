-- The first of what is wrong, in parts that stand one behind the other.
use Rattle.std.proofs.Common.{◌≡◌, ◌⊎◌, inl, inr, ℕ, zero, suc, ◌<◌, ◌≤◌, ◌==◌, Bool, true, false, List, [], ◌∷◌, Option, Some, None, option_map, refl, sym, ap, ◌∙◌, subst, arith, if◌then◌else◌, cond, nat_lt}
use Rattle.std.proofs.lemmas.Bool.{false≢true}
use Rattle.std.proofs.lemmas.Bool.Decides.{nat_tests}
use Rattle.std.specs.Cmp.Lexicographic.{slice_cmp}
use Rattle.std.specs.Ordering.{nat_cmp, ordering_then}
use Rattle.std.specs.declared.cmp.Ordering.TheVariants.{Less, Equal, Greater}
use Rattle.mvn_base.specs.declared.refusal.PomId.{PomId}
use Rattle.mvn_base.specs.declared.rule.Rule.{Rule}
use Rattle.pom_model.specs.Faults.{at_path, joined as joined_path, or, under}
use Rattle.pom_model.specs.Raw.{refusal}
use Rattle.model_laws.specs.Breaks.{DomainOf, HasNone, IsFirst, IsNotAfter, Told, on_element, outward}
use Rattle.model_laws.specs.Refused.{refusal_of}

-- what the program tells of a rule
abbrev pub Fault : Type 0
Fault = DomainOf (under [])

-- the same from further out, by the steps of a path from within
abbrev pub outer : List (List ℕ) → Fault → Fault
outer [] f = f
outer (step ∷ steps) f = outer steps (under step f)

abbrev pub outer_told : List (List ℕ) → Told → Told
outer_told [] t = t
outer_told (step ∷ steps) t = outer_told steps (outward step t)

-- the program tells this, from wherever it is told
abbrev pub Sees : Told → Fault → Type 0
Sees t f = (steps : List (List ℕ)) (pom : PomId) → refusal pom (outer steps f) ≡ refusal_of pom (outer_told steps t)

pub element_seen : (rule : Rule) (path : List ℕ) → Sees (on_element rule path) (at_path rule path)
unfolding under
element_seen rule path [] pom = refl
element_seen rule path (step ∷ steps) pom = element_seen rule (joined_path step path) steps pom

-- what is told of a text is told so from everywhere
pub text_seen : (f : Fault) (t : Told) → ((step : List ℕ) → under step f ≡ f) → ((step : List ℕ) → outward step t ≡ t) → ((pom : PomId) → refusal pom f ≡ refusal_of pom t) → Sees t f
text_seen f t stays same is [] pom = is pom
text_seen f t stays same is (step ∷ steps) pom = ap (λ g. refusal pom (outer steps g)) (stays step) ∙ text_seen f t stays same is steps pom ∙ ap (λ u. refusal_of pom (outer_told steps u)) (sym (same step))

-- what an option says of what there is: its first, or that there is none
pub record IsShown (Has : List ℕ → ℕ → Told → Type 0) (f : Fault) : Type 0 where
  pub told : Told
  pub sees : Sees told f
  pub least : IsFirst Has told

abbrev pub IsLeast : (List ℕ → ℕ → Told → Type 0) → Option Fault → Type 0
IsLeast Has (Some f) = IsShown Has f
IsLeast Has None = HasNone Has

-- what there is in two parts, of which the first stands before the second
pub record IsSplit (One Two Has : List ℕ → ℕ → Told → Type 0) : Type 0 where
  pub one : (p : List ℕ) (k : ℕ) (t : Told) → One p k t → Has p k t
  pub two : (p : List ℕ) (k : ℕ) (t : Told) → Two p k t → Has p k t
  pub either : (p : List ℕ) (k : ℕ) (t : Told) → Has p k t → One p k t ⊎ Two p k t
  pub sorted : (p : List ℕ) (k : ℕ) (t : Told) (q : List ℕ) (l : ℕ) (u : Told) → One p k t → Two q l u → IsNotAfter p k q l

-- the first of both is that of the first part, or else that of the second
pub joined : (One Two Has : List ℕ → ℕ → Told → Type 0) → IsSplit One Two Has → (a b : Option Fault) → IsLeast One a → IsLeast Two b → IsLeast Has (or a b)
joined One Two Has s (Some f) b x y = record {
  told = x.told;
  sees = x.sees;
  least = record { place = x.least.place; turn = x.least.turn; has = s.one x.least.place x.least.turn x.told x.least.has; first = λ q l u h. by q l u (s.either q l u h) };
}
  where
    by : (q : List ℕ) (l : ℕ) (u : Told) → One q l u ⊎ Two q l u → IsNotAfter x.least.place x.least.turn q l
    by q l u (inl h) = x.least.first q l u h
    by q l u (inr h) = s.sorted x.least.place x.least.turn x.told q l u x.least.has h
joined One Two Has s None (Some f) x y = record {
  told = y.told;
  sees = y.sees;
  least = record { place = y.least.place; turn = y.least.turn; has = s.two y.least.place y.least.turn y.told y.least.has; first = λ q l u h. by q l u (s.either q l u h) };
}
  where
    by : (q : List ℕ) (l : ℕ) (u : Told) → One q l u ⊎ Two q l u → IsNotAfter y.least.place y.least.turn q l
    by q l u (inl h) = absurd (x q l u h)
    by q l u (inr h) = y.least.first q l u h
joined One Two Has s None None x y = λ q l u h. by q l u (s.either q l u h)
  where
    by : (q : List ℕ) (l : ℕ) (u : Told) → One q l u ⊎ Two q l u → ⊥
    by q l u (inl h) = x q l u h
    by q l u (inr h) = y q l u h

-- what there is, seen from further out: by a function of places that keeps their order, and a step of paths
pub record IsSeen (One Has : List ℕ → ℕ → Told → Type 0) (far : List ℕ → List ℕ) (step : List ℕ) (q : List ℕ) (l : ℕ) (u : Told) : Type 0 where
  pub place : List ℕ
  pub told : Told
  pub there : q ≡ far place
  pub tells : u ≡ outward step told
  pub here : One place l told

pub seen : (One Has : List ℕ → ℕ → Told → Type 0) (far : List ℕ → List ℕ) (step : List ℕ)
    → ((p : List ℕ) (k : ℕ) (q : List ℕ) (l : ℕ) → IsNotAfter p k q l → IsNotAfter (far p) k (far q) l)
    → ((p : List ℕ) (k : ℕ) (t : Told) → One p k t → Has (far p) k (outward step t))
    → ((q : List ℕ) (l : ℕ) (u : Told) → Has q l u → IsSeen One Has far step q l u)
    → (o : Option Fault) → IsLeast One o → IsLeast Has (option_map (under step) o)
seen One Has far step keeps to from (Some f) x = record {
  told = outward step x.told;
  sees = λ steps pom. x.sees (step ∷ steps) pom;
  least = record {
    place = far x.least.place;
    turn = x.least.turn;
    has = to x.least.place x.least.turn x.told x.least.has;
    first = λ q l u h.
        let s = from q l u h in
        subst (λ r. IsNotAfter (far x.least.place) x.least.turn r l) (sym s.there) (keeps x.least.place x.least.turn s.place l (x.least.first s.place l s.told s.here));
  };
}
seen One Has far step keeps to from None x = λ q l u h. let s = from q l u h in x s.place l s.told s.here

-- one thing alone, where a test holds
pub alone : (Has : List ℕ → ℕ → Told → Type 0) (b : Bool) (p : List ℕ) (k : ℕ) (t : Told) (f : Fault) → Sees t f → (b ≡ true → Has p k t)
    → ((q : List ℕ) (l : ℕ) (u : Told) → Has q l u → (b ≡ true) × (q ≡ p) × (l ≡ k)) → IsLeast Has (if b then Some f else None)
alone Has true p k t f sees to from = record {
  told = t;
  sees = sees;
  least = record {
    place = p;
    turn = k;
    has = to refl;
    first = λ q l u h.
        let w = from q l u h in
        inr (sym w.1, at_most k l w.2);
  };
}
  where
    at_most : (k l : ℕ) → l ≡ k → k ≤ l
    at_most k l e = omega (arith, e)
alone Has false p k t f sees to from = λ q l u h. false≢true (from q l u h).0

-- the same at another option
pub least_at : (Has : List ℕ → ℕ → Told → Type 0) (a b : Option Fault) → a ≡ b → IsLeast Has b → IsLeast Has a
least_at Has a b e x = subst (IsLeast Has) (sym e) x

-- a number is as itself, and before a larger one
pub same_number : (i : ℕ) → nat_cmp i i ≡ Equal
same_number i =
    let less : nat_lt i i ≡ false = grind (arith, nat_tests) in
    let same : (i == i) ≡ true = grind (arith, nat_tests) in
    ap (λ b. cond b Less (cond (i == i) Equal Greater)) less ∙ ap (λ b. cond b Equal Greater) same

pub less_number : (i j : ℕ) → i < j → nat_cmp i j ≡ Less
less_number i j lt = let less : nat_lt i j ≡ true = grind (arith, nat_tests, lt) in ap (λ b. cond b Less (cond (i == j) Equal Greater)) less

-- of two numbers in order
pub in_order : (i j : ℕ) → i ≤ j → (j ≡ i) ⊎ (suc i ≤ j)
in_order zero zero le = inl refl
in_order zero (suc j) le = inr (omega arith)
in_order (suc i) zero le = absurd (omega (arith, le))
in_order (suc i) (suc j) le = by (in_order i j (omega (arith, le)))
  where
    by : (j ≡ i) ⊎ (suc i ≤ j) → (suc j ≡ suc i) ⊎ (suc (suc i) ≤ suc j)
    by (inl e) = inl (ap suc e)
    by (inr l) = inr (omega (arith, l))

-- places of which one number decides
pub head_before : (i j : ℕ) (p q : List ℕ) → i < j → slice_cmp nat_cmp (i ∷ p) (j ∷ q) ≡ Less
head_before i j p q lt = ap (λ o. ordering_then o (slice_cmp nat_cmp p q)) (less_number i j lt)

pub begins_before : (i j : ℕ) (q : List ℕ) → slice_cmp nat_cmp (i ∷ []) (i ∷ j ∷ q) ≡ Less
begins_before i j q = ap (λ o. ordering_then o (slice_cmp nat_cmp [] (j ∷ q))) (same_number i)

pub further : (i : ℕ) (p : List ℕ) (k : ℕ) (q : List ℕ) (l : ℕ) → IsNotAfter p k q l → IsNotAfter (i ∷ p) k (i ∷ q) l
further i p k q l (inl e) = inl (ap (λ o. ordering_then o (slice_cmp nat_cmp p q)) (same_number i) ∙ e)
further i p k q l (inr e) = inr (ap (λ r. i ∷ r) e.0, e.1)

-- nothing is before the place of the root
pub root_first : (q : List ℕ) (l : ℕ) → IsNotAfter [] 0 q l
root_first [] l = inr (refl, omega arith)
root_first (j ∷ q) l = inl refl
