-- One answer each.
use Rattle.std.proofs.Common.{◌≡◌, ◌⊎◌, inl, inr, ℕ, Bool, true, false, List, [], ◌∷◌, ◌++◌, filter, Option, refl, sym, ap, ◌∙◌, if◌then◌else◌}
use Rattle.reactor_order.specs.Graph.{Edges}
use Rattle.reactor_order.specs.Keep.{Closes, Keeps}
use Rattle.reactor_order.specs.Select.{Selects, from_on}

-- a soft edge is kept or isn't
pub one_kept : (kept soft one other : Edges) → Keeps kept soft one → Keeps kept soft other → one ≡ other
one_kept kept [] one other p q = p ∙ sym q
one_kept kept (e ∷ soft) one other p q = by p q (one_kept kept soft one other) (one_kept (kept ++ e ∷ []) soft one other)
  where
    by : (Closes kept e × Keeps kept soft one) ⊎ ((¬ (Closes kept e)) × Keeps (kept ++ e ∷ []) soft one)
        → (Closes kept e × Keeps kept soft other) ⊎ ((¬ (Closes kept e)) × Keeps (kept ++ e ∷ []) soft other)
        → (Keeps kept soft one → Keeps kept soft other → one ≡ other)
        → (Keeps (kept ++ e ∷ []) soft one → Keeps (kept ++ e ∷ []) soft other → one ≡ other) → one ≡ other
    by (inl a) (inl b) closed open_one = closed a.1 b.1
    by (inl a) (inr b) closed open_one = absurd (b.0 a.0)
    by (inr a) (inl b) closed open_one = absurd (a.0 b.0)
    by (inr a) (inr b) closed open_one = open_one a.1 b.1

-- tests that pass the same items
same_test : (a b : Bool) → (a ≡ true → b ≡ true) → (b ≡ true → a ≡ true) → a ≡ b
same_test true b f g = sym (f refl)
same_test false true f g = g refl
same_test false false f g = refl

same_filter : (p q : ℕ → Bool) → ((m : ℕ) → p m ≡ q m) → (list : List ℕ) → filter p list ≡ filter q list
same_filter p q same [] = refl
same_filter p q same (m ∷ list) = ap (λ b. if b then m ∷ filter p list else filter p list) (same m) ∙ ap (λ l. if q m then m ∷ l else l) (same_filter p q same list)

pub one_selected : (order : List ℕ) (edges : Edges) (chosen : Option (List ℕ)) (make dependents : Bool) (from : Option ℕ) (one other : List ℕ)
    → Selects order edges chosen make dependents from one → Selects order edges chosen make dependents from other → one ≡ other
one_selected order edges chosen make dependents from one other p q =
    p.is ∙ same_filter p.keep q.keep (λ m. same_test (p.keep m) (q.keep m) (λ h. (q.exactly m).1 ((p.exactly m).0 h)) (λ h. (p.exactly m).1 ((q.exactly m).0 h))) (from_on from order) ∙ sym q.is
