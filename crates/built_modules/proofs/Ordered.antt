-- The modules that are built are as their plan wants them.
use Rattle.std.proofs.Common.{◌≡◌, ℕ, zero, suc, ◌<◌, ◌≤◌, Bool, true, false, ◌&&◌, ◌||◌, ◌==◌, List, [], ◌∷◌, get_or, length, map, nat_lt, Option, None, Some, slice_get, refl, sym, ap, subst, ◌∙◌, arith}
use Rattle.std.proofs.lemmas.Bool.{false≢true}
use Rattle.std.proofs.lemmas.Bool.Decides.{nat_tests}
use Rattle.std.proofs.lemmas.List.{length-map}
use Rattle.std.proofs.lemmas.Map.Keys.{apart_from_distinct}
use Rattle.std.specs.Cmp.Lexicographic.{nat_list_eq_equiv}
use Rattle.std.specs.List.{IsDistinct}
use Rattle.std.specs.Prelude.{nat_eq}
use Rattle.mvn_base.specs.declared.gav.Gav.{Gav}
use Rattle.model_types.specs.declared.model.Model.{Model}
use Rattle.reactor_order.specs.Graph.{has}
use Rattle.mvn_base.specs.Gav.{gav_eq}
use Rattle.classpaths.specs.declared.resolution.Resolution.{Resolution}
use Rattle.scripts.specs.Climbing.{Climbs}
use Rattle.scripts.specs.Outlines.{is_listed}
use Rattle.event_core.specs.Sound.{are_below}
use Rattle.goal_types.specs.declared.goal.SourceFile.{SourceFile}
use Rattle.model_resolver.specs.declared.resolver.ProjectPom.{ProjectPom}
use Rattle.plan_law.specs.Ready.{AreOrdered, IsPlaced}
use Rattle.module_plan.specs.declared.selected.SelectedModule.{SelectedModule}
use Rattle.reactor.specs.Upstreams.{Ascends}
use Rattle.reactor.specs.declared.modules.ReactorModules.{ReactorModules}
use Rattle.built_modules.specs.Selected.{AreModules, AreSelected}

-- ---- where items stand

within : {A : Type 0} (xs : List A) (i : ℕ) (x : A) → slice_get xs i ≡ Some x → i < length xs
within [] i x e = absurd (none e)
  where
    none : slice_get [] i ≡ Some x → ⊥
    none e = cc
within (y ∷ xs) zero x e = omega arith
within (y ∷ xs) (suc i) x e = let low = within xs i x e in omega (arith, low)

some_is : {A : Type 0} (a b : A) → Some a ≡ Some b → a ≡ b
some_is {A} a b e = ap of e
  where
    of : Option A → A
    of None = a
    of (Some x) = x

at_map : {A B : Type 0} (f : A → B) (xs : List A) (i : ℕ) (x : A) (d : B) → slice_get xs i ≡ Some x → get_or (map f xs) i d ≡ f x
at_map f [] i x d e = absurd (none e)
  where
    none : slice_get [] i ≡ Some x → ⊥
    none e = cc
at_map f (y ∷ xs) zero x d e = ap f (some_is y x e)
at_map f (y ∷ xs) (suc i) x d e = at_map f xs i x d e

-- equal items of a list without doubles stand at one place
one_place : {K : Type 0} (e : K → K → Bool) → ((k : K) → e k k ≡ true) → (ks : List K) (d : K) → IsDistinct e ks
    → (a b : ℕ) → a < length ks → b < length ks → get_or ks a d ≡ get_or ks b d → a ≡ b
one_place e same ks d distinct a b low_a low_b is = by (nat_lt a b) (nat_lt b a) refl refl
  where
    never : (i j : ℕ) → i < j → j < length ks → get_or ks i d ≡ get_or ks j d → ⊥
    never i j before low eq = false≢true (sym (apart_from_distinct e ks i j d distinct before low) ∙ ap (λ k. e k (get_or ks j d)) eq ∙ same (get_or ks j d))

    by : (x y : Bool) → nat_lt a b ≡ x → nat_lt b a ≡ y → a ≡ b
    by true y ex ey = absurd (never a b (grind (arith, nat_tests, ex)) low_b is)
    by false true ex ey = absurd (never b a (grind (arith, nat_tests, ey)) low_a (sym is))
    by false false ex ey =
        let one : b ≤ a = grind (arith, nat_tests, ex) in
        let two : a ≤ b = grind (arith, nat_tests, ey) in
        omega (arith, one, two)

same_gav : (g : Gav) → gav_eq g g ≡ true
same_gav g = rw (nat_list_eq_equiv.refl g.group) (rw (nat_list_eq_equiv.refl g.artifact) (nat_list_eq_equiv.refl g.version))

same_number : (n : ℕ) → nat_eq n n ≡ true
same_number n = grind (arith, nat_tests)

-- ---- upstreams

all_before : (xs : List ℕ) (place : ℕ) → ((u : ℕ) → has xs u ≡ true → u < place) → are_below place xs ≡ true
all_before [] place before = refl
all_before (x ∷ xs) place before =
    let here : (x == x) ≡ true = grind (arith, nat_tests) in
    let low : x < place = before x (ap (λ b. b || has xs x) here) in
    let test : nat_lt x place ≡ true = grind (arith, nat_tests, low) in
    ap (λ b. b && are_below place xs) test ∙ all_before xs place (λ u is. before u (by (x == u) (has xs u) is))
  where
    by : (a b : Bool) → b ≡ true → (a || b) ≡ true
    by true b e = refl
    by false b e = e

listed : (xs : List ℕ) (x : ℕ) → has xs x ≡ true → is_listed x xs ≡ true
listed xs x is = is

climbs : (low : ℕ) (xs : List ℕ) → Ascends low xs → Climbs low xs
climbs low xs ascends = ascends

get_at : {A : Type 0} (xs : List A) (i : ℕ) (x d : A) → slice_get xs i ≡ Some x → get_or xs i d ≡ x
get_at [] i x d e = absurd (none e)
  where
    none : slice_get [] i ≡ Some x → ⊥
    none e = cc
get_at (y ∷ xs) zero x d e = some_is y x e
get_at (y ∷ xs) (suc i) x d e = get_at xs i x d e

-- ---- the modules

no_gav : Gav
no_gav = record { group = []; artifact = []; version = [] }

module _ (poms : List ProjectPom) (models : List Model) (resolutions : List Resolution) (built : ReactorModules) (sources : List (List SourceFile)) (modules : List SelectedModule) where
  in_numbers : AreModules poms models resolutions built sources modules → (place : ℕ) (m : SelectedModule) → slice_get modules place ≡ Some m → place < length built.numbers
  in_numbers are place m there = let low = within modules place m there in let long = are.long in omega (arith, low, long)

  modules_apart : AreSelected models resolutions built → AreModules poms models resolutions built sources modules
      → (a b : ℕ) (m n : SelectedModule) → slice_get modules a ≡ Some m → slice_get modules b ≡ Some n → m.model.gav ≡ n.model.gav → a ≡ b
  modules_apart s are a b m n at_a at_b same =
      let first = are.each a m at_a in
      let second = are.each b n at_b in
      let gavs = map (λ (x : Model). x.gav) models in
      let of = λ (x : Model). x.gav in
      let in_a = within models (get_or built.numbers a 0) m.model first.model in
      let in_b = within models (get_or built.numbers b 0) n.model second.model in
      let long = length-map models of in
      let number : get_or built.numbers a 0 ≡ get_or built.numbers b 0 =
      one_place gav_eq same_gav gavs no_gav s.apart (get_or built.numbers a 0) (get_or built.numbers b 0) (omega (arith, in_a, long)) (omega (arith, in_b, long))
      (at_map of models (get_or built.numbers a 0) m.model no_gav first.model ∙ same ∙ sym (at_map of models (get_or built.numbers b 0) n.model no_gav second.model)) in
      one_place nat_eq same_number built.numbers 0 s.order.once a b (in_numbers are a m at_a) (in_numbers are b n at_b) number

  module_placed : AreSelected models resolutions built → AreModules poms models resolutions built sources modules
      → (place : ℕ) (m : SelectedModule) → slice_get modules place ≡ Some m → IsPlaced modules place m
  module_placed s are place m there =
      let is = are.each place m there in
      let upstream : m.upstream ≡ get_or built.upstreams place [] = sym (get_at built.upstreams place m.upstream [] (are.upstream place m there)) in
      record {
        named = s.valid (get_or built.numbers place 0) m.model is.model;
        ascending = subst (Climbs 0) (sym upstream) (climbs 0 (get_or built.upstreams place []) (s.order.ascend place));
        before = ap (are_below place) upstream ∙ all_before (get_or built.upstreams place []) place (s.order.before place);
        firm = λ w other n wins at_other same.
            let second = are.each other n at_other in
            ap (is_listed other) upstream
            ∙ listed (get_or built.upstreams place []) other
            (s.stands place other m.resolution w m.model n.model (in_numbers are place m there) (in_numbers are other n at_other) is.model second.model is.resolution wins same
            (s.valid (get_or built.numbers other 0) n.model second.model).version);
      }

pub are_ordered : (workers : ℕ) (poms : List ProjectPom) (models : List Model) (resolutions : List Resolution) (built : ReactorModules) (sources : List (List SourceFile)) (modules : List SelectedModule)
    → (1 ≤ workers) × (workers ≤ 16) → AreSelected models resolutions built → AreModules poms models resolutions built sources modules → AreOrdered workers modules
are_ordered workers poms models resolutions built sources modules few s are = record {
  few = few;
  apart = modules_apart poms models resolutions built sources modules s are;
  placed = module_placed poms models resolutions built sources modules s are;
}
