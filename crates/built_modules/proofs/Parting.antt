-- The parts of the modules that are built.
use Rattle.std.proofs.Common.{◌≡◌, ℕ, zero, suc, ◌<◌, List, [], ◌∷◌, get_or, length, map, slice_get, zip, Option, None, Some, refl, ap, sym, ◌∙◌, arith}
use Rattle.std.proofs.lemmas.List.{length-map}
use Rattle.model_types.specs.declared.model.Model.{Model}
use Rattle.built_modules.specs.Picks.{ArePicked}
use Rattle.built_modules.specs.Selected.{AreModules, Parts, selected}
use Rattle.model_resolver.specs.declared.resolver.ProjectPom.{ProjectPom}
use Rattle.reactor.specs.declared.modules.ReactorModules.{ReactorModules}
use Rattle.classpaths.specs.declared.resolution.Resolution.{Resolution}
use Rattle.module_plan.specs.declared.selected.SelectedModule.{SelectedModule}
use Rattle.goal_types.specs.declared.goal.SourceFile.{SourceFile}

some_is : {A : Type 0} (a b : A) → Some a ≡ Some b → a ≡ b
some_is {A} a b e = ap of e
  where
    of : Option A → A
    of None = a
    of (Some x) = x

none_is : {A B : Type 0} (i : ℕ) (a : A) → slice_get [] i ≡ Some a → B
none_is i a e = cc

within : {A : Type 0} (xs : List A) (i : ℕ) (x : A) → slice_get xs i ≡ Some x → i < length xs
within [] i x e = none_is i x e
within (y ∷ xs) zero x e = omega arith
within (y ∷ xs) (suc i) x e = let low = within xs i x e in omega (arith, low)

-- ---- what is mapped, picked and paired, by place

pub record From {A B : Type 0} (f : A → B) (xs : List A) (i : ℕ) (y : B) : Type 0 where
  pub x : A
  pub there : slice_get xs i ≡ Some x
  pub is : y ≡ f x

from_map : {A B : Type 0} (f : A → B) (xs : List A) (i : ℕ) (y : B) → slice_get (map f xs) i ≡ Some y → From f xs i y
from_map f [] i y e = none_is i y e
from_map f (x ∷ xs) zero y e = record { x = x; there = refl; is = sym (some_is (f x) y e) }
from_map f (x ∷ xs) (suc i) y e = let from = from_map f xs i y e in record { x = from.x; there = from.there; is = from.is }

zip_at : {A B : Type 0} (xs : List A) (ys : List B) (i : ℕ) (p : A × B) → slice_get (zip xs ys) i ≡ Some p → (slice_get xs i ≡ Some p.0) × (slice_get ys i ≡ Some p.1)
zip_at [] ys i p e = none_is i p e
zip_at (x ∷ xs) [] i p e = none_is i p e
zip_at (x ∷ xs) (y ∷ ys) zero p e = let is = some_is (x, y) p e in (ap (λ q. Some q.0) is, ap (λ q. Some q.1) is)
zip_at (x ∷ xs) (y ∷ ys) (suc i) p e = zip_at xs ys i p e

zip_long : {A B : Type 0} (xs : List A) (ys : List B) → length xs ≡ length ys → length (zip xs ys) ≡ length xs
zip_long [] ys e = refl
zip_long (x ∷ xs) [] e = absurd (omega (arith, e))
zip_long (x ∷ xs) (y ∷ ys) e = ap suc (zip_long xs ys (omega (arith, e)))

at_some : {A : Type 0} (list : List A) (i : ℕ) → get_or (map Some list) i None ≡ slice_get list i
at_some [] i = refl
at_some (x ∷ list) zero = refl
at_some (x ∷ list) (suc i) = at_some list i

at_get : {A : Type 0} (items : List A) (places : List ℕ) (i : ℕ) → i < length places → get_or (map (slice_get items) places) i None ≡ slice_get items (get_or places i 0)
at_get items [] i low = absurd (omega (arith, low))
at_get items (p ∷ places) zero low = refl
at_get items (p ∷ places) (suc i) low = at_get items places i (omega (arith, low))

picked_long : {A : Type 0} (items : List A) (places : List ℕ) (list : List A) → ArePicked items places list → length list ≡ length places
picked_long items places list e = sym (length-map list Some) ∙ ap length e ∙ length-map places (slice_get items)

picked_at : {A : Type 0} (items : List A) (places : List ℕ) (list : List A) (i : ℕ) (x : A) → ArePicked items places list → slice_get list i ≡ Some x → slice_get items (get_or places i 0) ≡ Some x
picked_at items places list i x e there =
    let low = within list i x there in
    let long = picked_long items places list e in
    sym (at_get items places i (omega (arith, low, long))) ∙ sym (ap (λ l. get_or l i None) e) ∙ at_some list i ∙ there

-- ---- the modules

pub are_modules : (poms some_poms : List ProjectPom) (models some_models : List Model) (resolutions some_resolutions : List Resolution) (built : ReactorModules) (sources : List (List SourceFile))
    → ArePicked poms built.numbers some_poms → ArePicked models built.numbers some_models → ArePicked resolutions built.numbers some_resolutions
    → length built.upstreams ≡ length built.numbers → length sources ≡ length built.numbers
    → AreModules poms models resolutions built sources (map selected (zip (zip some_poms some_models) (zip some_resolutions (zip built.upstreams sources))))
are_modules poms some_poms models some_models resolutions some_resolutions built sources p m r up so = record {
  long = length-map parts selected ∙ zip_long first second (first_long ∙ sym second_long) ∙ first_long;
  each = λ place x there.
      let from = from_map selected parts place x there in
      let both = zip_at first second place from.x from.there in
      let one = zip_at some_poms some_models place from.x.0 both.0 in
      let two = zip_at some_resolutions last place from.x.1 both.1 in
      record {
        pom = from.x.0.0;
        is_pom = picked_at poms built.numbers some_poms place from.x.0.0 p one.0;
        text = ap (λ (y : SelectedModule). y.pom) from.is;
        model = picked_at models built.numbers some_models place from.x.0.1 m one.1 ∙ sym (ap (λ (y : SelectedModule). Some y.model) from.is);
        resolution = picked_at resolutions built.numbers some_resolutions place from.x.1.0 r two.0 ∙ sym (ap (λ (y : SelectedModule). Some y.resolution) from.is);
      };
  upstream = λ place x there.
      let from = from_map selected parts place x there in
      let both = zip_at first second place from.x from.there in
      let two = zip_at some_resolutions last place from.x.1 both.1 in
      let three = zip_at built.upstreams sources place from.x.1.1 two.1 in
      three.0 ∙ sym (ap (λ (y : SelectedModule). Some y.upstream) from.is);
  source = λ place x there.
      let from = from_map selected parts place x there in
      let both = zip_at first second place from.x from.there in
      let two = zip_at some_resolutions last place from.x.1 both.1 in
      let three = zip_at built.upstreams sources place from.x.1.1 two.1 in
      three.1 ∙ sym (ap (λ (y : SelectedModule). Some y.sources) from.is);
}
  where
    first : List (ProjectPom × Model)
    first = zip some_poms some_models

    last : List (List ℕ × List SourceFile)
    last = zip built.upstreams sources

    second : List (Resolution × (List ℕ × List SourceFile))
    second = zip some_resolutions last

    parts : List Parts
    parts = zip first second

    poms_long : length some_poms ≡ length built.numbers
    poms_long = picked_long poms built.numbers some_poms p

    models_long : length some_models ≡ length built.numbers
    models_long = picked_long models built.numbers some_models m

    resolutions_long : length some_resolutions ≡ length built.numbers
    resolutions_long = picked_long resolutions built.numbers some_resolutions r

    first_long : length first ≡ length built.numbers
    first_long = zip_long some_poms some_models (poms_long ∙ sym models_long) ∙ poms_long

    last_long : length last ≡ length built.numbers
    last_long = zip_long built.upstreams sources (up ∙ sym so) ∙ up

    second_long : length second ≡ length built.numbers
    second_long = zip_long some_resolutions last (resolutions_long ∙ sym last_long) ∙ resolutions_long
