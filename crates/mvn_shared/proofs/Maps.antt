-- A list of entries against the finite map that contracts see, for any ordered keys.
use Rattle.std.proofs.Common.{◌≡◌, List, [], ◌∷◌, Ordering, Option, Some, None, cond, refl, sym, ap, ◌∙◌}
use Rattle.std.specs.Map.{lookup}
use Rattle.std.specs.BTreeMap.{is_at}
use Rattle.std.specs.Cmp.{IsTotalOrder, eq_by_cmp_equiv}
use Rattle.std.specs.FinMap.{FinMap, IsAntisymmetric, from_entries, find, get, insert, remove, get-from_entries, get-insert, get-remove, same_map}

-- what the entries have at a key
abbrev pub value_at : {K X : Type 0} (R : K → K → Ordering) → List (K × X) → K → Option X
value_at R es key = lookup (is_at (R key)) es

module _ {K X : Type 0} {R : K → K → Ordering} (total : IsTotalOrder R) where
  find_value : (es : List (K × X)) (q : K) → find R q es ≡ value_at R es q
  find_value [] q = refl
  find_value (e ∷ es) q = ap (cond (is_at (R q) e.0) (Some e.1)) (find_value es q)

  -- the map has what the entries have
  pub get_value : (es : List (K × X)) (q : K) → get (from_entries {R = R} es) q ≡ value_at R es q
  get_value es q = get-from_entries total es q ∙ find_value es q

  -- what was put at a key is there
  pub put_there : (m : FinMap R X) (k : K) (v : X) → get (insert m k v) k ≡ Some v
  put_there m k v = get-insert total m k v k ∙ ap (λ b. cond b (Some v) (get m k)) ((eq_by_cmp_equiv total).refl k)

module _ {K X : Type 0} {R : K → K → Ordering} (total : IsTotalOrder R) (anti : IsAntisymmetric R) where
  -- entries that have the same everywhere make the same map
  pub same_values : (es fs : List (K × X)) → ((q : K) → value_at R fs q ≡ value_at R es q) → from_entries {R = R} fs ≡ from_entries es
  same_values es fs h = same_map total anti _ _ (λ q. get_value total fs q ∙ h q ∙ sym (get_value total es q))

  -- entries that differ by one put make maps that do
  pub one_put : (es fs : List (K × X)) (s : K) (v : X) → ((q : K) → value_at R fs q ≡ cond (is_at (R s) q) (Some v) (value_at R es q)) → from_entries {R = R} fs ≡ insert (from_entries es) s v
  one_put es fs s v h = same_map total anti _ _ (λ q.
      get_value total fs q ∙ h q ∙ ap (λ b. cond b (Some v) (value_at R es q)) ((eq_by_cmp_equiv total).symm s q)
      ∙ sym (get-insert total (from_entries es) s v q ∙ ap (cond (is_at (R q) s) (Some v)) (get_value total es q)))

  -- and by one taken
  pub one_taken : (es fs : List (K × X)) (s : K) → ((q : K) → value_at R fs q ≡ cond (is_at (R s) q) None (value_at R es q)) → from_entries {R = R} fs ≡ remove (from_entries es) s
  one_taken es fs s h = same_map total anti _ _ (λ q.
      get_value total fs q ∙ h q ∙ ap (λ b. cond b None (value_at R es q)) ((eq_by_cmp_equiv total).symm s q)
      ∙ sym (get-remove total (from_entries es) s q ∙ ap (cond (is_at (R q) s) None) (get_value total es q)))
