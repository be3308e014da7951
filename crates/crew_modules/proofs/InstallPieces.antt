-- A piece that was put and taken, and its bytes.
use Rattle.std.proofs.Common.{◌≡◌, ℕ, Bool, true, false, cond, Some, None, refl, sym, ap, ◌∙◌}
use Rattle.std.proofs.lemmas.Bool.{eqb-true}
use Rattle.std.specs.Ordering.{eq_by_cmp, nat_cmp}
use Rattle.std.specs.Cmp.{nat_cmp_total, unsigned_tied}
use Rattle.std.specs.FinMap.{FinMap, get, get-insert, get-remove, insert, nat_cmp-IsAntisymmetric, remove, same_map}

module _ {X : Type 0} (m : FinMap nat_cmp X) (k : ℕ) (v : X) where
  -- a number that wasn't there, put and taken
  pub put_and_taken : get m k ≡ None → remove (insert m k v) k ≡ m
  put_and_taken none = same_map nat_cmp_total nat_cmp-IsAntisymmetric (remove (insert m k v) k) m
      (λ q. get-remove nat_cmp_total (insert m k v) k q ∙ ap (cond (eq_by_cmp nat_cmp q k) None) (get-insert nat_cmp_total m k v q) ∙ by q (eq_by_cmp nat_cmp q k) refl)
    where
      by : (q : ℕ) (b : Bool) → eq_by_cmp nat_cmp q k ≡ b → cond b None (cond b (Some v) (get m q)) ≡ get m q
      by q false is = refl
      by q true is = sym (ap (get m) (eqb-true q k (sym (unsigned_tied q k) ∙ is)) ∙ none)
