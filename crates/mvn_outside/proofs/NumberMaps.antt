-- A map by numbers against the finite map that contracts see.
use Rattle.std.proofs.Common.{◌≡◌, ℕ, Bool, true, false, List, [], ◌∷◌, Option, Some, None, is_some, cond, refl, sym, ap, ◌∙◌, map}
use Rattle.std.specs.Option.{option_map}
use Rattle.std.specs.Ordering.{nat_cmp}
use Rattle.std.specs.BTreeMap.{is_at}
use Rattle.std.specs.Cmp.{nat_cmp_total}
use Rattle.std.specs.FinMap.{FinMap, from_entries, get, insert, remove, nat_cmp-IsAntisymmetric}
use Rattle.mvn_shared.proofs.Maps.{value_at, same_values}
use Rattle.mvn_shared.proofs.Maps as maps

module _ {X : Type 0} where
  -- what a list of entries has at a number
  abbrev pub value_of : List (ℕ × X) → ℕ → Option X
  value_of = value_at nat_cmp

  pub get_value : (es : List (ℕ × X)) (q : ℕ) → get (from_entries {R = nat_cmp} es) q ≡ value_of es q
  get_value = maps.get_value nat_cmp_total

  pub one_put : (es fs : List (ℕ × X)) (s : ℕ) (v : X) → ((q : ℕ) → value_of fs q ≡ cond (is_at (nat_cmp s) q) (Some v) (value_of es q)) → from_entries {R = nat_cmp} fs ≡ insert (from_entries es) s v
  one_put = maps.one_put nat_cmp_total nat_cmp-IsAntisymmetric

  pub one_taken : (es fs : List (ℕ × X)) (s : ℕ) → ((q : ℕ) → value_of fs q ≡ cond (is_at (nat_cmp s) q) None (value_of es q)) → from_entries {R = nat_cmp} fs ≡ remove (from_entries es) s
  one_taken = maps.one_taken nat_cmp_total nat_cmp-IsAntisymmetric

  -- what was put at a number is there
  pub put_there : (m : FinMap nat_cmp X) (k : ℕ) (v : X) → get (insert m k v) k ≡ Some v
  put_there = maps.put_there nat_cmp_total

module _ {X Y : Type 0} (f : X → Y) where
  abbrev pub mapped : List (ℕ × X) → List (ℕ × Y)
  mapped es = map (λ e. (e.0, f e.1)) es

  cond_mapped : (b : Bool) (o p : Option X) → option_map f (cond b o p) ≡ cond b (option_map f o) (option_map f p)
  cond_mapped true o p = refl
  cond_mapped false o p = refl

  pub value_of-mapped : (es : List (ℕ × X)) (q : ℕ) → value_of (mapped es) q ≡ option_map f (value_of es q)
  value_of-mapped [] q = refl
  value_of-mapped (e ∷ es) q =
      ap (cond (is_at (nat_cmp q) e.0) (Some (f e.1))) (value_of-mapped es q) ∙ sym (cond_mapped (is_at (nat_cmp q) e.0) (Some e.1) (value_of es q))

  pub put_mapped : (es fs : List (ℕ × X)) (s : ℕ) (v : X) → ((q : ℕ) → value_of fs q ≡ cond (is_at (nat_cmp s) q) (Some v) (value_of es q)) → from_entries {R = nat_cmp} (mapped fs) ≡ insert (from_entries (mapped es)) s (f v)
  put_mapped es fs s v h = one_put (mapped es) (mapped fs) s (f v) (λ q.
      value_of-mapped fs q ∙ ap (option_map f) (h q) ∙ cond_mapped (is_at (nat_cmp s) q) (Some v) (value_of es q) ∙ ap (cond (is_at (nat_cmp s) q) (Some (f v))) (sym (value_of-mapped es q)))

  pub take_mapped : (es fs : List (ℕ × X)) (s : ℕ) → ((q : ℕ) → value_of fs q ≡ cond (is_at (nat_cmp s) q) None (value_of es q)) → from_entries {R = nat_cmp} (mapped fs) ≡ remove (from_entries (mapped es)) s
  take_mapped es fs s h = one_taken (mapped es) (mapped fs) s (λ q.
      value_of-mapped fs q ∙ ap (option_map f) (h q) ∙ cond_mapped (is_at (nat_cmp s) q) None (value_of es q) ∙ ap (cond (is_at (nat_cmp s) q) None) (sym (value_of-mapped es q)))

  -- what has the same values everywhere is the same map
  pub same_mapped : (es fs : List (ℕ × X)) → ((q : ℕ) → option_map f (value_of fs q) ≡ option_map f (value_of es q)) → from_entries {R = nat_cmp} (mapped fs) ≡ from_entries (mapped es)
  same_mapped es fs h = same_values nat_cmp_total nat_cmp-IsAntisymmetric (mapped es) (mapped fs) (λ q. value_of-mapped fs q ∙ h q ∙ sym (value_of-mapped es q))

  -- a value changed at a number where there is one
  pub change_mapped : (g : X → X) (es fs : List (ℕ × X)) (s : ℕ) (v : X) → value_of es s ≡ Some v → ((q : ℕ) → value_of fs q ≡ cond (is_at (nat_cmp s) q) (option_map g (value_of es s)) (value_of es q)) → from_entries {R = nat_cmp} (mapped fs) ≡ insert (from_entries (mapped es)) s (f (g v))
  change_mapped g es fs s v there h = put_mapped es fs s (g v) (λ q. h q ∙ ap (λ o. cond (is_at (nat_cmp s) q) (option_map g o) (value_of es q)) there)

  some_no : (o : Option X) → is_some o ≡ false → option_map f o ≡ None
  some_no None e = refl
  some_no (Some v) e = cc

  -- where there is none, the map has none
  pub none_mapped : (es : List (ℕ × X)) (s : ℕ) → is_some (value_of es s) ≡ false → get (from_entries {R = nat_cmp} (mapped es)) s ≡ None
  none_mapped es s e = get_value (mapped es) s ∙ value_of-mapped es s ∙ some_no (value_of es s) e

  -- and where there is one, the map has it
  pub some_mapped : (es : List (ℕ × X)) (s : ℕ) (v : X) → value_of es s ≡ Some v → get (from_entries {R = nat_cmp} (mapped es)) s ≡ Some (f v)
  some_mapped es s v e = get_value (mapped es) s ∙ value_of-mapped es s ∙ ap (option_map f) e

  by_some : (o : Option X) (y : Y) → option_map f o ≡ Some y → (v : X) × (o ≡ Some v) × (f v ≡ y)
  by_some None y e = cc
  by_some (Some v) y e = (v, refl, cc)

  -- where the map has a value, there is one
  pub there_mapped : (es : List (ℕ × X)) (s : ℕ) (y : Y) → get (from_entries {R = nat_cmp} (mapped es)) s ≡ Some y → (v : X) × (value_of es s ≡ Some v) × (f v ≡ y)
  there_mapped es s y h = by_some (value_of es s) y (sym (value_of-mapped es s) ∙ sym (get_value (mapped es) s) ∙ h)
